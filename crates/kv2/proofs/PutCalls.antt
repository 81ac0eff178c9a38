-- The current version, from what the calls say.
use Rattle.std.proofs.Common.{◌≡◌, ℕ, ◌∙◌, ap}
use Rattle.std.specs.FinMap as map
use Rattle.records.specs.Words.{Text, KeyEntry, version_row, key_entry_row, version_key, Table, table_of, with_row}
use Rattle.records.specs.Words.{table_of-insert, Rows}
use Rattle.records.specs.declared.kind.Kind.TheVariants as kind
use Rattle.kv2.specs.Words.{Row, pruned, with_current, new_version}

pub put_by_calls : (r0 r1 r2 : Rows) (new : Table) (name place object : Text) (e : KeyEntry) (limit number : ℕ)
    (vrow krow : Row)
    → r1 ≡ map.insert r0 (kind.KvVersion, place) vrow → r2 ≡ map.insert r1 (kind.KvKey, name) krow
    → number ≡ e.current → place ≡ version_key name number → vrow ≡ version_row (new_version e.updated object)
    → krow ≡ key_entry_row e → new ≡ pruned (table_of r2) name number limit
    → new ≡ with_current (table_of r0) name e limit object
put_by_calls r0 r1 r2 new name place object e limit number vrow krow one two n p v k rest =
    rest
    ∙ ap (λ t. pruned t name number limit) (
    ap table_of two ∙ table_of-insert r1 kind.KvKey name krow
    ∙ ap (λ t. with_row t kind.KvKey name krow) (ap table_of one ∙ table_of-insert r0 kind.KvVersion place vrow))
    ∙ (λ i. pruned (with_row (with_row (table_of r0) kind.KvVersion ((p ∙ ap (version_key name) n) i) (v i)) kind.KvKey
    name (k i)) name (n i) limit)

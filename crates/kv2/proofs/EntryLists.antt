-- The entries of versions, read one after another.
use Rattle.std.proofs.Common.{◌≡◌, ◌<◌, ◌+◌, ◌∷◌, ◌++◌, ℕ, List, [], map, length, take, get_or, Bool, true, false, not}
use Rattle.records.specs.Words.{is_some, is_none, Option, Some, None, option_map, sym, ◌∙◌, ap, arith, false≢true}
use Rattle.records.specs.Words.{get_or-map, length-map, map_push, take_more, All-push, Text, Version, RowKey, named}
use Rattle.kv2.specs.Words.{Row, IsNumbered, IsEntryOf, AreEntriesOf, version_entry}

-- a version is destroyed where it has no text
pub destroyed_is : {X Y : Type 0} (f : X → Y) (o : Option X) (s : Option Y) (b : Bool) → is_some o ≡ not b
    → option_map f o ≡ s → b ≡ is_none s
destroyed_is f None s true e is = ap is_none is
destroyed_is f None s false e is = absurd (false≢true e)
destroyed_is f (Some x) s true e is = absurd (false≢true (sym e))
destroyed_is f (Some x) s false e is = ap is_none is

-- a version, for places past the end
abbrev pub no_version : ℕ × Version
no_version = (0, record { created = 0; deleted = None; secret = None })

abbrev key_and_row : RowKey × Row → Text × Row
key_and_row e = (e.0.1, e.1)

pub as_long : (name : Text) (es : List (RowKey × Row)) (vs : List (ℕ × Version)) → AreEntriesOf name es vs
    → length es ≡ length vs
as_long name es vs are =
    sym (length-map es key_and_row) ∙ ap length are.entries ∙ length-map vs (version_entry name)

module _ (name : Text) (es : List (RowKey × Row)) (vs : List (ℕ × Version)) (are : AreEntriesOf name es vs) (i : ℕ)
    (within : i < length es) where
  pub as_far : i < length vs
  as_far = omega (arith, as_long name es vs are, within)

  pub numbered_at : IsNumbered (get_or vs i no_version)
  numbered_at = are.each i no_version as_far

  pub entry_at : (e : RowKey × Row) → e ≡ get_or es i e → IsEntryOf name e (get_or vs i no_version)
  entry_at e is =
      let at : key_and_row e ≡ version_entry name (get_or vs i no_version) =
      ap key_and_row is ∙ sym (get_or-map key_and_row es i e (key_and_row e) within)
      ∙ ap (λ xs. get_or xs i (key_and_row e)) are.entries
      ∙ get_or-map (version_entry name) vs i no_version (key_and_row e) as_far in
      record { key = λ j. (at j).0; row = λ j. (at j).1 }

-- one more entry
pub one_more : (name : Text) (es : List (RowKey × Row)) (i : ℕ) (vs : List (ℕ × Version))
    → AreEntriesOf name (take i es) vs → i < length es
    → (e : RowKey × Row) → e ≡ get_or es i e → (v : ℕ × Version) → IsNumbered v → IsEntryOf name e v
    → AreEntriesOf name (take (i + 1) es) (vs ++ v ∷ [])
one_more name es i vs are within e is v numbered entry = record {
  each = All-push IsNumbered vs v are.each numbered;
  entries = ap named (take_more es i e within) ∙ map_push key_and_row (take i es) (get_or es i e)
      ∙ (λ j. are.entries j ++ (key_and_row (sym is j)) ∷ [])
      ∙ (λ j. map (version_entry name) vs ++ (entry.key j, entry.row j) ∷ [])
      ∙ sym (map_push (version_entry name) vs v);
}

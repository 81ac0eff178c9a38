use Rattle.records.specs.Words.{ap, sym, subst, ◌∙◌, on_ok_weaker, honest_before, goes_further, of_secrets, Tells}
use Rattle.records.specs.Words.{Table, table, table_of, without_row, without_under, table_of-remove, IsHonest}
use Rattle.records.specs.declared.kind.Kind.TheVariants as kind
use Rattle.kv2.specs.Words.{KeepsOtherNames, versions_prefix, secret_name, remove_key}
use Rattle.kv2.proofs.Digits.{KeyLaws, name_lacks}
use Rattle.kv2.proofs.Edits.{removed_told}
use Rattle.kv2.proofs.Others.{removed_keeps}
use Rattle.kv2.proofs.removing.remove_key.Goals as goal

pub returns-clause-rows : goal.returns-clause-rows
returns-clause-rows g c honest =
    let seen = g.T.RecordsTx.seen in
    let first : IsHonest (seen c.remove.new.self) = honest_before _ _ _ c.remove_under.ensures.call.goes_on honest in
    let old = table_of (seen c.args.tx.now).rows in
    let name = c.as_str-2.ensures.value ∙ c.in_ok-name.ensures in
    let prefix = c.as_str-3.ensures.value ∙ c.in_ok-prefix.ensures
    ∙ ap versions_prefix (c.as_str.ensures.value ∙ c.in_ok-name.ensures) in
    on_ok_weaker c.remove_under.result (λ rows.
    rows ∙ (λ i. without_under
    ((ap table_of (c.in_ok-remove.ensures.rows first)
    ∙ table_of-remove (seen c.args.tx.now).rows kind.KvKey c.as_str-2.result.now
    ∙ ap (without_row old kind.KvKey) name) i) kind.KvVersion (prefix i)))
    (c.remove_under.ensures.rows honest)

pub returns-clause-call : goal.returns-clause-call
returns-clause-call g c =
    let old = table (g.T.RecordsTx.seen c.args.tx.now) in
    let name = secret_name c.args.mount.now c.args.path.now in
    record {
      others = λ honest.
          on_ok_weaker c.remove_under.result
          (λ rows. subst (λ (t : Table). KeepsOtherNames name old t) (sym rows) (removed_keeps name old))
          (returns-clause-rows g c honest);
      faults = c.remove_under.ensures.call.faults;
      goes_on = goes_further _ _ _ _ c.in_ok-remove.ensures.call.goes_on c.remove_under.ensures.call.goes_on;
    }

pub returns-clause-told : goal.returns-clause-told
returns-clause-told g c honest b told is_name =
    let old = table_of (g.T.RecordsTx.seen c.args.tx.now).rows in
    let mount = c.args.mount.now in
    let path = c.args.path.now in
    let laws : KeyLaws = record {
      told = c.versions_have_keys.ensures.told;
      exact = c.versions_have_keys.ensures.exact;
      order = c.versions_have_keys.ensures.order;
      split = c.versions_have_keys.ensures.split;
    } in
    on_ok_weaker c.remove_under.result
    (λ rows. subst (λ (t : Table). Tells of_secrets t (remove_key b mount path)) (sym rows)
    (removed_told old b told mount path (name_lacks laws (secret_name mount path) is_name)))
    (returns-clause-rows g c honest)

use Rattle.records.specs.Words.{[], ap, sym, subst, ◌∙◌, on_ok_weaker, honest_before, goes_further, of_secrets, Tells}
use Rattle.records.specs.Words.{KeepsOthers, Table, table, table_of, without_under, IsHonest}
use Rattle.records.specs.declared.kind.Kind.TheVariants as kind
use Rattle.kv2.specs.Words.{secret_name, drop_mount}
use Rattle.kv2.proofs.Digits.{KeyLaws}
use Rattle.kv2.proofs.Edits.{dropped_told}
use Rattle.kv2.proofs.Others.{dropped_keeps}
use Rattle.kv2.proofs.SecretNames.{mount_lacks}
use Rattle.kv2.proofs.removing.drop_mount.Goals as goal

pub returns-clause-rows : goal.returns-clause-rows
returns-clause-rows g c honest =
    let seen = g.T.RecordsTx.seen in
    let first : IsHonest (seen c.remove_under.new.tx) =
    honest_before _ _ _ c.remove_under-2.ensures.call.goes_on honest in
    let old = table_of (seen c.args.tx.now).rows in
    let one = c.as_str.ensures.value ∙ c.in_ok-prefix.ensures in
    let two = c.as_str-2.ensures.value ∙ c.in_ok-prefix.ensures in
    on_ok_weaker c.remove_under-2.result (λ rows.
    rows ∙ (λ i. without_under ((c.in_ok-remove_under.ensures.rows first ∙ ap (without_under old kind.KvKey) one) i)
    kind.KvVersion (two i)))
    (c.remove_under-2.ensures.rows honest)

pub returns-clause-call : goal.returns-clause-call
returns-clause-call g c =
    let old = table (g.T.RecordsTx.seen c.args.tx.now) in
    let prefix = secret_name c.args.mount.now [] in
    record {
      others = λ honest.
          on_ok_weaker c.remove_under-2.result
          (λ rows. subst (λ (t : Table). KeepsOthers of_secrets old t) (sym rows) (dropped_keeps prefix old))
          (returns-clause-rows g c honest);
      faults = c.remove_under-2.ensures.call.faults;
      goes_on = goes_further _ _ _ _ c.in_ok-remove_under.ensures.call.goes_on c.remove_under-2.ensures.call.goes_on;
    }

pub returns-clause-told : goal.returns-clause-told
returns-clause-told g c honest b told is_mount =
    let old = table_of (g.T.RecordsTx.seen c.args.tx.now).rows in
    let mount = c.args.mount.now in
    let laws : KeyLaws = record {
      told = c.versions_have_keys.ensures.told;
      exact = c.versions_have_keys.ensures.exact;
      order = c.versions_have_keys.ensures.order;
      split = c.versions_have_keys.ensures.split;
    } in
    on_ok_weaker c.remove_under-2.result
    (λ rows. subst (λ (t : Table). Tells of_secrets t (drop_mount b mount)) (sym rows)
    (dropped_told old b told mount (mount_lacks laws mount is_mount))) (returns-clause-rows g c honest)

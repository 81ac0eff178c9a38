use Rattle.records.specs.Words.{OnOk, ◌∙◌, sym, subst, on_ok_weaker, Text, table_of}
use Rattle.kv2.specs.Words.{change_of, AreChanged, AreReadableVersions}
use Rattle.kv2.proofs.ChangeCalls.{its_versions, versions_told}
use Rattle.kv2.proofs.Digits.{KeyLaws}
use Rattle.kv2.proofs.changing.change_secret.Goals as goal

pub returns : goal.returns
returns g c timely =
    let seen = g.T.RecordsTx.seen in
    let old = table_of (seen c.args.tx.now).rows in
    let new = table_of (seen c.change_versions.new.tx).rows in
    let f = change_of c.args.change in
    let ns = c.args.numbers.now in
    let mount = c.args.mount.now in
    let path = c.args.path.now in
    let name : Text = c.as_str.result.now in
    let is = c.as_str.ensures.value ∙ c.in_ok-name.ensures in
    let laws : KeyLaws = record {
      told = c.versions_have_keys.ensures.told;
      exact = c.versions_have_keys.ensures.exact;
      order = c.versions_have_keys.ensures.order;
      split = c.versions_have_keys.ensures.split;
    } in
    let made = c.change_versions.ensures in
    record {
      rows = λ honest. subst (λ (q : Text). OnOk c.change_versions.result (AreChanged f ns q old new)) is
          (made.rows honest timely);
      told = λ honest forms b sound told is_name.
          on_ok_weaker c.change_versions.result
          (versions_told forms b sound old told mount path name is laws is_name f ns new) (made.rows honest timely);
      wants = λ honest forms b sound told is_name.
          made.faults honest timely
          (λ n small _. its_versions forms b sound old told mount path name is laws is_name n small);
      faults = λ honest versions. made.faults honest timely
          (subst (λ (q : Text). AreReadableVersions old q ns) (sym is) versions);
      call = made.call;
    }

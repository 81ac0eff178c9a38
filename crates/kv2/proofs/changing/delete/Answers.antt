use Rattle.std.proofs.Common.{◌∷◌, ℕ, sym, [], subst, ◌∙◌, option_map}
use Rattle.records.specs.Words.{on_ok_weaker, get, Key, Text, key_entry, of_secrets, Tells, table, table_of}
use Rattle.kv2.specs.Words.{HasKey, IsReadableKey, AreReadableVersions, AreChanged, KeepsOtherNames, current_of}
use Rattle.kv2.specs.Words.{secret_name, with_key, with_changed, soft_deleted}
use Rattle.kv2.proofs.ChangeCalls.{its_key, its_versions, current_told}
use Rattle.kv2.proofs.Digits.{KeyLaws}
use Rattle.kv2.proofs.changing.delete.Goals as goal

pub returns-clause-call : goal.returns-clause-call
returns-clause-call g c =
    let seen = g.T.RecordsTx.seen in
    record {
      others = λ honest.
          on_ok_weaker c.change_current.result (λ keeps.
          subst (λ (q : Text). KeepsOtherNames q (table (seen c.args.tx.now)) (table (seen c.change_current.new.tx)))
          (c.as_str.ensures.value ∙ c.in_ok-name.ensures) keeps)
          (c.change_current.ensures.others honest c.seconds-now.ensures.within);
      faults = c.change_current.ensures.call.faults;
      goes_on = c.change_current.ensures.call.goes_on;
    }

pub returns-clause-told : goal.returns-clause-told
returns-clause-told g c honest forms b sound told at is_name =
    let seen = g.T.RecordsTx.seen in
    let old = table_of (seen c.args.tx.now).rows in
    let new = table_of (seen c.change_current.new.tx).rows in
    let mount = c.args.mount.now in
    let path = c.args.path.now in
    let name = c.as_str.result.now in
    let is = c.as_str.ensures.value ∙ c.in_ok-name.ensures in
    let laws : KeyLaws = record {
      told = c.versions_have_keys.ensures.told;
      exact = c.versions_have_keys.ensures.exact;
      order = c.versions_have_keys.ensures.order;
      split = c.versions_have_keys.ensures.split;
    } in
    on_ok_weaker c.change_current.result (λ rows.
    subst (λ n. Tells of_secrets new (with_key b mount path
    (λ (k : Key). with_changed (soft_deleted n) (k.current ∷ []) k))) (c.seconds-now.ensures.value ∙ at)
    (current_told forms b sound old told mount path name is laws is_name (soft_deleted c.seconds-now.result) new rows))
    (c.change_current.ensures.rows honest c.seconds-now.ensures.within
    (option_map key_entry (get b.secrets (secret_name mount path)))
    (its_key forms b sound old told mount path name is))

pub returns-clause-wants : goal.returns-clause-wants
returns-clause-wants g c honest forms b sound told is_name =
    let old = table_of (g.T.RecordsTx.seen c.args.tx.now).rows in
    let mount = c.args.mount.now in
    let path = c.args.path.now in
    let name = c.as_str.result.now in
    let is = c.as_str.ensures.value ∙ c.in_ok-name.ensures in
    let laws : KeyLaws = record {
      told = c.versions_have_keys.ensures.told;
      exact = c.versions_have_keys.ensures.exact;
      order = c.versions_have_keys.ensures.order;
      split = c.versions_have_keys.ensures.split;
    } in
    c.change_current.ensures.faults honest (option_map key_entry (get b.secrets (secret_name mount path)))
    (its_key forms b sound old told mount path name is)
    (λ n small _. its_versions forms b sound old told mount path name is laws is_name n small)

pub returns-clause-faults : goal.returns-clause-faults
returns-clause-faults g c honest k has versions =
    let old = table_of (g.T.RecordsTx.seen c.args.tx.now).rows in
    let is = c.as_str.ensures.value ∙ c.in_ok-name.ensures in
    c.change_current.ensures.faults honest k (subst (λ (q : Text). HasKey old q k) (sym is) has)
    (subst (λ (q : Text). AreReadableVersions old q (current_of k)) (sym is) versions)

pub returns-clause-rows : goal.returns-clause-rows
returns-clause-rows g c honest k has =
    let seen = g.T.RecordsTx.seen in
    let old = table_of (seen c.args.tx.now).rows in
    let new = table_of (seen c.change_current.new.tx).rows in
    let is = c.as_str.ensures.value ∙ c.in_ok-name.ensures in
    on_ok_weaker c.change_current.result
    (subst (λ (p : ℕ × Text). AreChanged (soft_deleted p.0) (current_of k) p.1 old new)
    (λ i. (c.seconds-now.ensures.value i, is i)))
    (c.change_current.ensures.rows honest c.seconds-now.ensures.within k
    (subst (λ (q : Text). HasKey old q k) (sym is) has))

pub returns-clause-readable : goal.returns-clause-readable
returns-clause-readable g c honest =
    let old = table_of (g.T.RecordsTx.seen c.args.tx.now).rows in
    on_ok_weaker c.change_current.result
    (subst (λ (q : Text). IsReadableKey old q) (c.as_str.ensures.value ∙ c.in_ok-name.ensures))
    (c.change_current.ensures.readable honest)

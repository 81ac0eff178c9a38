use Rattle.std.proofs.Common.{◌≢◌, None, ap, sym, subst, ◌∙◌, unwrap_or}
use Rattle.records.specs.Words.{none-some, err_from_is_err_and, IsMemoryOrStorage, EndsOk, honest_before, goes_further}
use Rattle.records.specs.Words.{fails_alike, KeyEntry, Table, table, table_of, Rows, IsHonest, GoesOn}
use Rattle.kv2.specs.Words.{HasKey, KeepsOtherNames, new_entry, next_entry, with_current, checked}
use Rattle.kv2.specs.SecretRows as rows
use Rattle.kv2.proofs.Others.{written_keeps}
use Rattle.kv2.proofs.WriteCalls.{IsWritten, answer_of, rows_written}
use Rattle.kv2.proofs.writing.write_named.Goals as goal

pub returns-clause-rows : goal.returns-clause-rows
returns-clause-rows g c honest m k has_mount has_key =
    let seen = g.T.RecordsTx.seen in
    let second : IsHonest (seen c.find_key.new.tx) = honest_before _ _ _ c.put_version.ensures.call.goes_on honest in
    let first : IsHonest (seen c.config.new.tx) = honest_before _ _ _ c.find_key.ensures.call.goes_on second in
    let same = c.in_ok-settings.ensures.call.same first in
    let old = table_of (seen c.args.tx.now).rows in
    let new = table_of (seen c.put_version.new.tx).rows in
    let name = c.args.name.now in
    let now = c.args.now in
    let cas = c.args.version.cas in
    let object = c.args.version.object.now in
    let e = c.key_or_new-key.result in
    let limit = c.versions_kept-limit.result in
    let some = sym c.in-Some.is ∙ c.in_ok-settings.ensures.found first m has_mount in
    let there : m ≢ None = λ none. none-some _ (sym (some ∙ none)) in
    let found = c.in_ok-found.ensures.found second k
    (subst (λ (r : Rows). HasKey (table_of r) name k) (sym same) (has_key there)) in
    subst (λ (z : KeyEntry). EndsOk (IsWritten new) (answer_of z) (rows.write old m k name now cas object))
    (sym (c.next.view_is ∙ c.next_key-next.ensures.key))
    (subst (λ o. EndsOk (IsWritten new) (answer_of (next_entry now e)) (rows.write old o k name now cas object)) some
    (rows_written old new c.in-Some.settings k name object now limit cas e
    (c.key_or_new-key.ensures.key ∙ ap (λ o. unwrap_or o (new_entry now)) found)
    (c.in_ok-check.ensures.checked ∙ (λ i. checked (c.is_required-required.ensures i) (c.key.view_is i).current cas))
    c.versions_kept-limit.ensures
    (c.in_ok-put_version.ensures.rows honest
    ∙ (λ i. with_current (table_of ((c.in_ok-found.ensures.call.same second ∙ same) i)) name
    (c.next_key-next.ensures.key i) limit object))))

pub returns-clause-call : goal.returns-clause-call
returns-clause-call g c =
    let seen = g.T.RecordsTx.seen in
    let old = table (seen c.args.tx.now) in
    let name = c.args.name.now in
    let e = c.key_or_new-key.result in
    let limit = c.versions_kept-limit.result in
    record {
      others = λ honest.
          let second : IsHonest (seen c.find_key.new.tx) =
          honest_before _ _ _ c.put_version.ensures.call.goes_on honest in
          let first : IsHonest (seen c.config.new.tx) =
          honest_before _ _ _ c.find_key.ensures.call.goes_on second in
          let same = c.in_ok-settings.ensures.call.same first in
          subst (λ (t : Table). KeepsOtherNames name old t) (sym (c.in_ok-put_version.ensures.rows honest
          ∙ (λ i. with_current (table_of ((c.in_ok-found.ensures.call.same second ∙ same) i)) name
          (c.next_key-next.ensures.key i) limit c.args.version.object.now)))
          (written_keeps name old e limit c.args.now c.args.version.object.now);
      faults = tt;
      goes_on = goes_further _ _ _ _
          (goes_further _ _ _ _ c.in_ok-settings.ensures.call.goes_on c.in_ok-found.ensures.call.goes_on)
          c.in_ok-put_version.ensures.call.goes_on;
    }

pub returns-in_err-check-clause-call : goal.returns-in_err-check-clause-call
returns-in_err-check-clause-call g c =
    let p = err_from_is_err_and c.from_residual-in_err-check.result c.from_residual-in_err-check.ensures.1 in
    rw (p.1, p.2) (record {
      others = λ _. tt;
      faults = tt;
      goes_on = goes_further _ _ _ _ c.in_ok-settings.ensures.call.goes_on c.in_ok-found.ensures.call.goes_on;
    })

pub returns-in_err-put_version-clause-call : goal.returns-in_err-put_version-clause-call
returns-in_err-put_version-clause-call g c =
    let seen = g.T.RecordsTx.seen in
    let p =
    err_from_is_err_and c.from_residual-in_err-put_version.result c.from_residual-in_err-put_version.ensures.1 in
    rw (p.1, p.2) (record {
      others = λ _. tt;
      faults = λ is. subst IsMemoryOrStorage is c.in_err-put_version.ensures.call.faults;
      goes_on = goes_further _ _ _ _
          (goes_further _ _ _ _ c.in_ok-settings.ensures.call.goes_on c.in_ok-found.ensures.call.goes_on)
          (subst (GoesOn (seen c.find_key.new.tx) (seen c.put_version.new.tx))
          (sym (fails_alike (Unit {0}) c.in_err-put_version.field-0.0)) c.in_err-put_version.ensures.call.goes_on);
    })

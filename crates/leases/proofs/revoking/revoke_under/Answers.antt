use Rattle.records.specs.Words.{sym, subst, on_ok_weaker, honest_before, goes_further, fault_then, not_damaged}
use Rattle.records.specs.Words.{each_fault, table, table_of, Rows, IsHonest}
use Rattle.leases.specs.Words.{ids_under, revoke_under, RemovesEach, leases_among, AreThoseThatEnd, under_leaves}
use Rattle.leases.specs.Words.{all_readable}
use Rattle.leases.proofs.Endings.{each_readable, leases_ended, left_told}
use Rattle.leases.proofs.revoking.revoke_under.Goals as goal

pub returns-clause-rows : goal.returns-clause-rows
returns-clause-rows g c honest =
    let seen = g.T.RecordsTx.seen in
    let ends = ids_under c.args.prefix.now in
    let first : IsHonest (seen c.leases_under.new.tx) =
    honest_before _ _ _ c.remove_leases.ensures.call.goes_on honest in
    let old = (seen c.args.tx.now).rows in
    let new = (seen c.remove_leases.new.tx).rows in
    let es = leases_among c.deref.result.now in
    let those = subst (λ es. AreThoseThatEnd ends (table_of old) (leases_among es)) (sym c.deref.ensures.value)
    (c.in_ok-entries.ensures.entries first) in
    on_ok_weaker c.remove_leases.result (λ each.
    leases_ended ends es old new those
    (subst (λ (r : Rows). RemovesEach es r new) (c.in_ok-entries.ensures.call.same first) each))
    (c.remove_leases.ensures.rows honest)

pub returns-clause-told : goal.returns-clause-told
returns-clause-told g c honest forms b represents =
    let seen = g.T.RecordsTx.seen in
    let ends = ids_under c.args.prefix.now in
    on_ok_weaker c.remove_leases.result (λ ended.
    left_told ends (table (seen c.args.tx.now)) (table (seen c.remove_leases.new.tx)) b
    (revoke_under b c.args.prefix.now) represents ended
    (under_leaves b c.args.prefix.now))
    (returns-clause-rows g c honest)

pub returns-clause-call : goal.returns-clause-call
unfolding returns-clause-rows
returns-clause-call g c =
    let seen = g.T.RecordsTx.seen in
    let ends = ids_under c.args.prefix.now in
    let old = (seen c.args.tx.now).rows in
    record {
      others = λ honest. on_ok_weaker c.remove_leases.result (λ ended. ended.others) (returns-clause-rows g c honest);
      faults = each_fault (λ f. fault_then (λ damage honest readable.
          let first : IsHonest (seen c.leases_under.new.tx) =
          honest_before _ _ _ c.remove_leases.ensures.call.goes_on honest in
          let those = subst (λ es. AreThoseThatEnd ends (table_of old) (leases_among es)) (sym c.deref.ensures.value)
          (c.in_ok-entries.ensures.entries first) in
          damage (each_readable ends (leases_among c.deref.result.now) old old those readable)) f)
          c.remove_leases.result c.remove_leases.ensures.call.faults;
      goes_on =
          goes_further _ _ _ _ c.in_ok-entries.ensures.call.goes_on c.remove_leases.ensures.call.goes_on;
    }

pub returns-clause-wants : goal.returns-clause-wants
unfolding returns-clause-call
returns-clause-wants g c honest forms b represents =
    let seen = g.T.RecordsTx.seen in
    let ends = ids_under c.args.prefix.now in
    each_fault (λ f. not_damaged (λ damage. damage honest (all_readable ends (table (seen c.args.tx.now)) b represents))
    f)
    c.remove_leases.result (returns-clause-call g c).faults

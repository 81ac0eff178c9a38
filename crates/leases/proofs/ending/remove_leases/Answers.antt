use Rattle.std.proofs.Common.{◌≡◌, ◌+◌, ◌∷◌, true, false, drop, sym, ap, subst, ◌∙◌}
use Rattle.records.specs.Words.{AllByRecursion, drop_more, Text, honest_before, goes_further, RowKey, is_of_kind, Seen}
use Rattle.records.specs.Words.{IsHonest, GoesOn}
use Rattle.records.specs.declared.kind.Kind.TheVariants as kind
use Rattle.leases.specs.Words.{Row, IsLeaseRow, RemovesLease, RemovesEach, leases_among}
use Rattle.leases.proofs.ListedLeases.{among_lease, among_other}
use Rattle.leases.proofs.ending.remove_leases.Goals as goal
use Rattle.leases.proofs.ending.remove_leases.Goals.{then-is_lease+in_ok-remove_lease, else-is_lease}

pub loop-entry-preserved : goal.loop-entry-preserved
loop-entry-preserved g c =
    let seen = g.T.RecordsTx.seen in
    let i = c.loop-entry.entry-index in
    let entries = c.args.entries.now in
    let e : RowKey × Row = c.entry-item.result in
    let old : Seen = seen c.loop-entry.tx in
    let one : drop i entries ≡ e ∷ drop (i + 1) entries =
    drop_more entries i e c.loop-entry-test.true ∙ ap (λ x. x ∷ drop (i + 1) entries) (sym c.entry-item.is) in
    elim c.if-is_lease.branch [
      | then-is_lease+in_ok-remove_lease w ↦
          let is_lease : is_of_kind kind.Lease e.0 ≡ true = sym c.is_lease.ensures ∙ w.if-is_lease.true in
          let all : leases_among (drop i entries) ≡ e ∷ leases_among (drop (i + 1) entries) =
          ap leases_among one ∙ among_lease e (drop (i + 1) entries) is_lease in
          let after : seen c.if-is_lease.tx ≡ seen w.remove_lease.new.tx = ap seen w.tx-is in
          let new : Seen = seen w.remove_lease.new.tx in
          let entry : (w.as_str.result.now ≡ e.0.1) × (c.entry.inside.row ≡ e.1) = (
            w.as_str.ensures ∙ ap (λ (e : RowKey × Row). e.0.1) c.entry.view_is,
            ap (λ (e : RowKey × Row). e.1) c.entry.view_is,
          ) in
          record {
            rows = λ honest last rest.
                let later : IsHonest new = subst IsHonest after honest in
                let before : IsHonest old =
                honest_before old new false w.in_ok-remove_lease.ensures.call.goes_on later in
                let removed : RemovesLease e.0.1 e.1 old.rows new.rows =
                subst (λ (p : Text × Row). RemovesLease p.0 p.1 old.rows new.rows) (λ i. (entry.0 i, entry.1 i))
                (w.in_ok-remove_lease.ensures.rows later) in
                c.loop-entry.invariant.rows before last (subst (λ l. RemovesEach l old.rows last) (sym all) (
                  new.rows,
                  removed,
                  subst (λ (s : Seen). RemovesEach (leases_among (drop (i + 1) entries)) s.rows last)
                      after rest,
                ));
            left = λ read. (subst (λ l. AllByRecursion (λ e. IsLeaseRow e.1) l) all
                (c.loop-entry.invariant.left read)).1;
            goes_on = subst (λ (s : Seen). GoesOn (seen c.args.tx.now) s false) (sym after)
                (goes_further (seen c.args.tx.now) old new false c.loop-entry.invariant.goes_on
                w.in_ok-remove_lease.ensures.call.goes_on);
          }
      | else-is_lease w ↦
          let other : is_of_kind kind.Lease e.0 ≡ false = sym c.is_lease.ensures ∙ w.if-is_lease.false in
          let all : leases_among (drop i entries) ≡ leases_among (drop (i + 1) entries) =
          ap leases_among one ∙ among_other e (drop (i + 1) entries) other in
          let after : seen c.if-is_lease.tx ≡ old = ap seen w.tx-is in
          record {
            rows = λ honest last rest. c.loop-entry.invariant.rows (subst IsHonest after honest) last
                (subst (λ l. RemovesEach l old.rows last) (sym all)
                (subst (λ (s : Seen). RemovesEach (leases_among (drop (i + 1) entries)) s.rows last) after rest));
            left = λ read. subst (λ l. AllByRecursion (λ e. IsLeaseRow e.1) l) all (c.loop-entry.invariant.left read);
            goes_on = subst (λ (s : Seen). GoesOn (seen c.args.tx.now) s false)
                (sym after) c.loop-entry.invariant.goes_on;
          }
    ]

use Rattle.std.proofs.Common.{◌≡◌, max, sym, subst, None}
use Rattle.broker_model.specs.Words.{err_from_is_err_and, alive_at, honest_before, not_damaged, Broker, IsHonest}
use Rattle.broker_model.specs.Words.{with_clock, AreDue, Rows, AreEnded, without_expired, forms, EndsLeases, table_of}
use Rattle.leases.specs.Endings as leases
use Rattle.broker_rows.specs.Words.{HaveEnded, Represents, represents_tokens, represents_waiting, still_represented}
use Rattle.broker_rows.proofs.Expired.{due_readable, due_yet, responses_swept, still_due, swept_left}
use Rattle.broker_rows.proofs.expiry.expire.Goals as goal
use Rattle.broker_rows.proofs.expiry.expire.Goals.{After-end_due, After-end_due-2, After-leave_nothing}

-- ---- what several ways out share, if the storage is honest afterwards

-- the clock has moved on, and no row changed while it was asked what is due
begun : (g : _) (c : goal.After-end_due g) → IsHonest (g.T.RecordsTx.seen c.end_due.new.tx) → (b : Broker)
    → Represents None (g.T.RecordsTx.seen c.args.tx.now).rows b
    → ((g.T.RecordsTx.seen c.due_until.new.self).rows ≡ (g.T.RecordsTx.seen c.advance_clock.new.tx).rows)
    × (c.in_ok-now.now ≡ max b.clock c.args.moment)
    × Represents None (g.T.RecordsTx.seen c.due_until.new.self).rows (with_clock b c.in_ok-now.now)
begun g c honest b st =
    let seen = g.T.RecordsTx.seen in
    let asked = honest_before (seen c.due_until.new.self)
    (seen c.end_due.new.tx) _ c.end_due.ensures.call.goes_on honest in
    let ticked = honest_before (seen c.advance_clock.new.tx)
    (seen c.due_until.new.self) _ c.due_until.ensures.call.goes_on asked in
    let same = c.in_ok-due.ensures.call.same asked in
    let later = c.in_ok-now.ensures.told ticked b st in (
      same,
      later.0,
      still_represented (with_clock b c.in_ok-now.now) (seen c.advance_clock.new.tx).rows
          (seen c.due_until.new.self).rows same later.1,
    )

-- what it listed is what is due
listed : (g : _) (c : goal.After-end_due g) → IsHonest (g.T.RecordsTx.seen c.end_due.new.tx)
    → AreDue (g.T.RecordsTx.seen c.advance_clock.new.tx).rows c.in_ok-now.now c.in_ok-due.due.items
listed g c honest =
    let seen = g.T.RecordsTx.seen in
    c.in_ok-due.ensures.entries (honest_before (seen c.due_until.new.self)
    (seen c.end_due.new.tx) _ c.end_due.ensures.call.goes_on honest)

-- tokens have ended, and then leases
swept : (g : _) (c : goal.After-leave_nothing g) → IsHonest (g.T.RecordsTx.seen c.end_due-2.new.tx) → (b : Broker)
    → Represents None (g.T.RecordsTx.seen c.args.tx.now).rows b
    → (g.T.RecordsTx.seen c.due_until.new.self).rows ≡ (g.T.RecordsTx.seen c.advance_clock.new.tx).rows
    → c.in_ok-now.now ≡ max b.clock c.args.moment
    → Represents None (g.T.RecordsTx.seen c.due_until.new.self).rows (with_clock b c.in_ok-now.now)
    → AreDue (g.T.RecordsTx.seen c.advance_clock.new.tx).rows c.in_ok-now.now c.in_ok-due.due.items
    → HaveEnded None None (with_clock b c.in_ok-now.now) (alive_at c.in_ok-now.now b.tokens) c.deref-3.result.now
    (g.T.RecordsTx.seen c.end_due-2.new.tx).rows
    × EndsLeases (leases.has_come c.in_ok-now.now) (table_of (g.T.RecordsTx.seen c.end_due.new.tx).rows)
    (table_of (g.T.RecordsTx.seen c.end_due-2.new.tx).rows)
swept g c honest b st same is still due =
    let seen = g.T.RecordsTx.seen in
    let now = c.in_ok-now.now in
    let mid = honest_before (seen c.end_due.new.tx)
    (seen c.end_due-2.new.tx) _ c.end_due-2.ensures.call.goes_on honest in
    let at = with_clock b now in
    let old = (seen c.due_until.new.self).rows in
    let timed = (seen c.advance_clock.new.tx).rows in
    let tokens = represents_tokens at old still in
    let first : AreDue old now c.deref.result.now =
    subst (λ (rows : Rows). AreDue rows now c.deref.result.now) (sym same)
    (subst (AreDue timed now) (sym c.deref.ensures.value) due) in
    let then : AreDue timed now c.deref-2.result.now = subst (AreDue timed now) (sym c.deref-2.ensures.value) due in
    let ends = c.in_ok-end_due.ensures.rows honest now
    (still_due timed old (seen c.end_due.new.tx).rows now c.deref-2.result.now then same
    (c.in_ok-ended.ensures.call.others mid)) in
    let are = subst (AreEnded at (without_expired at now)) (sym c.deref-3.ensures.value)
    (c.in_ok-ended.ensures.ended mid forms at tokens first) in (
      swept_left b c.args.moment now (seen c.args.tx.now).rows old st is still (seen c.end_due.new.tx).rows
          (seen c.end_due-2.new.tx).rows c.deref-3.result.now are
          (c.in_ok-ended.ensures.told mid forms at tokens first) (c.in_ok-ended.ensures.call.others mid) ends,
      ends,
    )

pub returns-clause-told : goal.returns-clause-told
returns-clause-told g c honest b st =
    let seen = g.T.RecordsTx.seen in
    let now = c.in_ok-now.now in
    let left = honest_before (seen c.leave_nothing.new.tx)
    (seen c.drop_due.new.tx) _ c.drop_due.ensures.call.goes_on honest in
    let live = honest_before (seen c.end_due-2.new.tx)
    (seen c.leave_nothing.new.tx) _ c.leave_nothing.ensures.call.goes_on left in
    let mid = honest_before (seen c.end_due.new.tx)
    (seen c.end_due-2.new.tx) _ c.end_due-2.ensures.call.goes_on live in
    let at = goal.at.returns-clause-told g c in
    let start = begun g at.After-end_due mid b st in
    let due = listed g at.After-end_due mid in
    let done = swept g at.After-leave_nothing live b st start.0 start.1 start.2 due in
    let after = without_expired (with_clock b now) now in
    let rest = (seen c.leave_nothing.new.tx).rows in
    let gone = c.in_ok-leave_nothing.ensures.told left None None (with_clock b now) (alive_at now b.tokens) done.0 in
    let timed = (seen c.advance_clock.new.tx).rows in
    let yet = due_yet timed (seen c.due_until.new.self).rows (seen c.end_due.new.tx).rows
    (seen c.end_due-2.new.tx).rows rest now c.deref-4.result.now c.deref-3.result.now
    (subst (AreDue timed now) (sym c.deref-4.ensures.value) due) start.0 (c.in_ok-ended.ensures.call.others mid)
    done.1.others (c.in_ok-leave_nothing.ensures.rows left) in
    let waiting = represents_waiting after rest gone in (
      start.1,
      responses_swept b c.args.moment now (seen c.args.tx.now).rows (seen c.due_until.new.self).rows st start.1
          start.2 rest (seen c.drop_due.new.tx).rows gone
          (c.in_ok-drop_due.ensures.told honest after waiting now yet)
          (c.in_ok-drop_due.ensures.call.others honest),
    )

pub returns-in_err-drop_due-clause-wants : goal.returns-in_err-drop_due-clause-wants
returns-in_err-drop_due-clause-wants g c honest b st =
    let seen = g.T.RecordsTx.seen in
    let now = c.in_ok-now.now in
    let left = honest_before (seen c.leave_nothing.new.tx)
    (seen c.drop_due.new.tx) _ c.drop_due.ensures.call.goes_on honest in
    let live = honest_before (seen c.end_due-2.new.tx)
    (seen c.leave_nothing.new.tx) _ c.leave_nothing.ensures.call.goes_on left in
    let mid = honest_before (seen c.end_due.new.tx)
    (seen c.end_due-2.new.tx) _ c.end_due-2.ensures.call.goes_on live in
    let at = goal.at.returns-in_err-drop_due-clause-wants g c in
    let start = begun g at.After-end_due mid b st in
    let due = listed g at.After-end_due mid in
    let done = swept g at.After-leave_nothing live b st start.0 start.1 start.2 due in
    let after = without_expired (with_clock b now) now in
    let rest = (seen c.leave_nothing.new.tx).rows in
    let gone = c.in_ok-leave_nothing.ensures.told left None None (with_clock b now) (alive_at now b.tokens) done.0 in
    let timed = (seen c.advance_clock.new.tx).rows in
    let yet = due_yet timed (seen c.due_until.new.self).rows (seen c.end_due.new.tx).rows
    (seen c.end_due-2.new.tx).rows rest now c.deref-4.result.now c.deref-3.result.now
    (subst (AreDue timed now) (sym c.deref-4.ensures.value) due) start.0 (c.in_ok-ended.ensures.call.others mid)
    done.1.others (c.in_ok-leave_nothing.ensures.rows left) in
    let waiting = represents_waiting after rest gone in
    let p = err_from_is_err_and c.from_residual-in_err-drop_due.result c.from_residual-in_err-drop_due.ensures.1 in
    rw (p.1, p.2) (c.in_err-drop_due.ensures.wants honest after waiting now yet)

pub returns-in_err-ended-clause-wants : goal.returns-in_err-ended-clause-wants
returns-in_err-ended-clause-wants g c honest b st =
    let at = goal.at.returns-in_err-ended-clause-wants g c in
    let now = c.in_ok-now.now in
    let start = begun g at.After-end_due honest b st in
    let due = subst (λ (rows : Rows). AreDue rows now c.deref.result.now) (sym start.0)
    (subst (AreDue (g.T.RecordsTx.seen c.advance_clock.new.tx).rows now) (sym c.deref.ensures.value)
    (listed g at.After-end_due honest)) in
    let tokens = represents_tokens (with_clock b now) (g.T.RecordsTx.seen c.due_until.new.self).rows start.2 in
    let p = err_from_is_err_and c.from_residual-in_err-ended.result c.from_residual-in_err-ended.ensures.1 in
    rw (p.1, p.2) (c.in_err-ended.ensures.wants honest forms (with_clock b now) tokens due)

pub returns-in_err-end_due-clause-wants : goal.returns-in_err-end_due-clause-wants
returns-in_err-end_due-clause-wants g c honest b st =
    let seen = g.T.RecordsTx.seen in
    let now = c.in_ok-now.now in
    let mid = honest_before (seen c.end_due.new.tx)
    (seen c.end_due-2.new.tx) _ c.end_due-2.ensures.call.goes_on honest in
    let at = goal.at.returns-in_err-end_due-clause-wants g c in
    let start = begun g at.After-end_due mid b st in
    let timed = (seen c.advance_clock.new.tx).rows in
    let old = (seen c.due_until.new.self).rows in
    let due = still_due timed old (seen c.end_due.new.tx).rows now c.deref-2.result.now
    (subst (AreDue timed now) (sym c.deref-2.ensures.value) (listed g at.After-end_due mid)) start.0
    (c.in_ok-ended.ensures.call.others mid) in
    let p = err_from_is_err_and c.from_residual-in_err-end_due.result c.from_residual-in_err-end_due.ensures.1 in
    rw (p.1, p.2) (not_damaged (λ damage. damage honest now due
    (due_readable b c.args.moment now (seen c.args.tx.now).rows old st start.1 start.2 (seen c.end_due.new.tx).rows
    (c.in_ok-ended.ensures.call.others mid))) _
    c.in_err-end_due.ensures.call.faults)

pub returns-in_err-leave_nothing-clause-wants : goal.returns-in_err-leave_nothing-clause-wants
returns-in_err-leave_nothing-clause-wants g c honest b st =
    let seen = g.T.RecordsTx.seen in
    let now = c.in_ok-now.now in
    let live = honest_before (seen c.end_due-2.new.tx)
    (seen c.leave_nothing.new.tx) _ c.leave_nothing.ensures.call.goes_on honest in
    let mid = honest_before (seen c.end_due.new.tx)
    (seen c.end_due-2.new.tx) _ c.end_due-2.ensures.call.goes_on live in
    let at = goal.at.returns-in_err-leave_nothing-clause-wants g c in
    let start = begun g at.After-end_due mid b st in
    let done = swept g at.After-leave_nothing live b st start.0 start.1 start.2 (listed g at.After-end_due mid) in
    let p = err_from_is_err_and c.from_residual-in_err-leave_nothing.result
    c.from_residual-in_err-leave_nothing.ensures.1 in
    rw (p.1, p.2) (c.in_err-leave_nothing.ensures.wants honest None None (with_clock b now) (alive_at now b.tokens)
    done.0)

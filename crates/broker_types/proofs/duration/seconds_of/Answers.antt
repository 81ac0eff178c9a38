use Rattle.std.proofs.Common.{◌+◌, ◌<◌, ◌≤◌, sym, ap, ◌∙◌, arith, unwrap_or}
use Rattle.broker_types.specs.Words.{duration_of, at_most, whole_groups}
use Rattle.broker_types.proofs.Groups.{refused, over, ended, in_range}
use Rattle.broker_types.proofs.duration.seconds_of.Goals as goal

pub returns-in_err-total-clause-value : goal.returns-in_err-total-clause-value
returns-in_err-total-clause-value c =
    let l = c.loop-byte in
    c.from_residual.ensures
    ∙ refused c.as_bytes-bytes.result.now l.byte-index l.sum l.begun c.loop-byte-test.true l.invariant.rest
    (sym c.in_err-total.ensures)
    ∙ ap duration_of c.as_bytes-bytes.ensures.value

pub returns-then-total-unwrap_or-gt-LONGEST-clause-value : goal.returns-then-total-unwrap_or-gt-LONGEST-clause-value
returns-then-total-unwrap_or-gt-LONGEST-clause-value c =
    let l = c.loop-byte in
    let large : 4294967295 < c.in_ok-total.total + unwrap_or c.in_ok-total.digits 0 =
    rw (← c.unwrap_or.ensures) c.if-total-unwrap_or-gt-LONGEST.true in
    over c.as_bytes-bytes.result.now l.byte-index l.sum l.begun c.in_ok-total.total c.in_ok-total.digits
    c.loop-byte-test.true l.invariant.rest
    (sym c.in_ok-total.ensures) large
    ∙ ap duration_of c.as_bytes-bytes.ensures.value

pub returns-in-None-clause-value : goal.returns-in-None-clause-value
returns-in-None-clause-value c =
    let l = c.loop-byte in
    let small : l.sum ≤ 4294967295 = omega arith in
    sym (in_range l.sum small) ∙ ap (λ b. at_most (whole_groups l.sum b)) (sym c.in-None.is)
    ∙ ended c.as_bytes-bytes.result.now l.byte-index l.sum l.begun c.loop-byte-test.false l.invariant.rest
    (sym c.if-is_digits.ensures)
    ∙ ap duration_of c.as_bytes-bytes.ensures.value

pub returns-in-Some-clause-value : goal.returns-in-Some-clause-value
returns-in-Some-clause-value c =
    let l = c.loop-byte in
    ap (λ b. at_most (whole_groups l.sum b)) (sym c.in-Some.is)
    ∙ ended c.as_bytes-bytes.result.now l.byte-index l.sum l.begun c.loop-byte-test.false l.invariant.rest
    (sym c.if-is_digits.ensures)
    ∙ ap duration_of c.as_bytes-bytes.ensures.value

use Rattle.records.specs.Words.{arith, err_from_is_err_and}
use Rattle.records.proofs.ListReads.{list_begun, list_uncounted, list_more, list_cut, list_read}
use Rattle.records.proofs.list_field.read_items.Goals as goal

pub returns-in_err-count : goal.returns-in_err-count
returns-in_err-count g c =
    let p = err_from_is_err_and c.from_residual.result c.from_residual.ensures.1 in
    rw p.1 (list_uncounted g.F.Spell.spell p.0 _ p.2 c.in_err-count.ensures)

pub loop-missing-init : goal.loop-missing-init
loop-missing-init g c = rw c.new-list.ensures.items (list_begun c.in_ok-count.ensures)

pub returns-in_err-x : goal.returns-in_err-x
returns-in_err-x g c =
    let p = err_from_is_err_and c.from_residual-in_err-x.result c.from_residual-in_err-x.ensures.1 in
    rw p.1 (list_cut c.loop-missing.invariant p.0 _ p.2 c.loop-missing-test.true c.in_err-x.ensures)

pub loop-missing-preserved : goal.loop-missing-preserved
loop-missing-preserved g c =
    rw c.in_ok-push.ensures.items (list_more c.loop-missing.invariant c.loop-missing-test.true c.in_ok-x.ensures)

pub returns : goal.returns
returns g c = list_read c.loop-missing.invariant (omega (arith, c.loop-missing-test.false))

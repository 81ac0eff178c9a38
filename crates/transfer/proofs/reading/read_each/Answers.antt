use Rattle.std.proofs.Common.{◌≡◌, ◌∷◌, ◌++◌, [], List, Ok, false, true, ap, sym, subst, ◌∙◌, rules}
use Rattle.records.specs.Words.{RowKey, entries, err_from_is_err_and, goes_further, honest_before}
use Rattle.records.specs.declared.row.Row.{Row}
use Rattle.transfer.specs.Order.{IsAfter}
use Rattle.transfer.specs.Reading.{IsRowRead}
use Rattle.transfer.proofs.RowOrder.{IsHighest, entries_more, no_entries}
use Rattle.transfer.proofs.RowsRead.{none_read, row_read}
use Rattle.transfer.proofs.reading.read_each.Goals as goal

pub loop-init : goal.loop-init
loop-init g c =
    record {
      read = (none_read g.R.Source.left c.args.lines.now, λ honest none. ap entries none ∙ no_entries);
      goes_on = search rules;
    }

pub loop-preserved : goal.loop-preserved
loop-preserved g c =
    let seen = g.T.RecordsTx.seen in
    let left = g.R.Source.left in
    let so = c.loop.invariant.read in
    let e = c.in-Ok.entry in
    let row : IsRowRead left c.loop.lines c.read_row.new.self (Ok e) =
    subst (IsRowRead left c.loop.lines c.read_row.new.self) c.in-Ok.is c.in_ok-entry.ensures in
    let yes : c.is_after.result ≡ true = search rules in
    let after : IsAfter c.loop.last e.0 = c.is_after.ensures yes in
    let more = row_read left c.args.lines.now c.loop.lines c.read_row.new.self c.loop.counter c.loop.last row.0 e
    c.in_ok-put.field-0 c.in_ok-put.ensures.place so.0 row.1 row.3 after in
    record {
      read = (
        more,
        λ honest none.
            let early = honest_before (seen c.loop.tx) (seen c.put.new.tx) false c.in_ok-put.ensures.call.goes_on
            honest in
            let were : entries (seen c.loop.tx).rows ≡ so.0.rows = so.1 early none in
            ap entries (c.in_ok-put.ensures.rows honest)
            ∙ entries_more (seen c.loop.tx).rows c.loop.last e
            (subst (λ (es : List (RowKey × Row)). IsHighest es c.loop.last) (sym were) so.0.highest) after
            ∙ ap (λ (es : List (RowKey × Row)). es ++ e ∷ []) were,
      );
      goes_on = goes_further (seen c.args.tx.now) (seen c.loop.tx) (seen c.put.new.tx) false c.loop.invariant.goes_on
          c.in_ok-put.ensures.call.goes_on;
    }

pub returns-in_err-put-clause-call : goal.returns-in_err-put-clause-call
returns-in_err-put-clause-call g c =
    let seen = g.T.RecordsTx.seen in
    let p = err_from_is_err_and c.from_residual-in_err-put.result c.from_residual-in_err-put.ensures.1 in
    rw (p.1, p.2) (record {
      faults = c.in_err-put.ensures.call.faults;
      goes_on = goes_further (seen c.args.tx.now) (seen c.loop.tx) (seen c.put.new.tx) _ c.loop.invariant.goes_on
          c.in_err-put.ensures.call.goes_on;
    })

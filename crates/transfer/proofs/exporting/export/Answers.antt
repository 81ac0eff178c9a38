use Rattle.std.proofs.Common.{◌≡◌, List, ℕ, true, false, rules, subst}
use Rattle.records.specs.Words.{RowKey, Rows, entries, Appends, honest_before}
use Rattle.records.specs.declared.row.Row.{Row}
use Rattle.sha2.specs.Hashers.{Holds256}
use Rattle.transfer.specs.Files.{fed, tail}
use Rattle.transfer.specs.Writing.{IsBegun, Writes}
use Rattle.transfer.proofs.WrittenLines.{file_written, writes_none}
use Rattle.transfer.proofs.exporting.export.Goals as goal

pub returns-clause-written : goal.returns-clause-written
returns-clause-written g c honest =
    let seen = g.T.RecordsTx.seen in
    let written = g.W.Sink.written in
    let rows = (seen c.args.tx.now).rows in
    let a = c.args.out.now in
    let b = c.begin.new.self in
    let w = c.walk.new.visitor in
    let d = c.end.new.self in
    let early = honest_before (seen c.count.new.tx) (seen c.walk.new.tx) false c.in_ok-walk.ensures.call.goes_on
    honest in
    let begun : IsBegun written a b c.in_ok-count.count = search rules in
    let more : c.in_ok-walk.field-0 ≡ true = search rules in
    let walked : Writes written b w (entries (seen c.count.new.tx).rows) =
    c.in_ok-walk.ensures.visited honest more b (writes_none written b) in
    let ends : (before : List ℕ) → Holds256 w.hasher before
    → Appends (written w.sink) (written d.sink) (fed (tail before)) = search rules in
    file_written written a b w d c.in_ok-count.count rows (c.in_ok-count.ensures.counted early) begun
    (subst (λ (r : Rows). Writes written b w (entries r)) (c.in_ok-count.ensures.call.same early) walked) ends

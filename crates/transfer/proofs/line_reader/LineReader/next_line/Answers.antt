use Rattle.std.proofs.Common.{◌≡◌, ◌∙◌, ◌++◌, ◌&&◌, Option, List, ℕ, drop, true, ap, subst, sym}
use Rattle.records.specs.Words.{list_all-append, lacks, line_feed, Consumes}
use Rattle.std.specs.Io.KnownBytes.{prepend_known}
use Rattle.transfer.specs.Files.{fed}
use Rattle.transfer.specs.LineEnds.{IsCutAt}
use Rattle.transfer.specs.LineReads.{left_of}
use Rattle.transfer.proofs.LineCuts.{fed_line, lacks_both, moved}
use Rattle.transfer.proofs.line_reader.LineReader.next_line.Goals as goal

pub returns-in-Some : goal.returns-in-Some
returns-in-Some g c =
    let left = g.R.Source.left in
    let a = left_of left c.args.self.now in
    let p = c.loop.self.pending in
    let rest = c.take.new.self.pending in
    let known = left c.take.new.self.source in
    let longer = c.take.new.line.items in
    let took = c.in_ok-take.ensures in
    let cut : IsCutAt c.in-Some.end p = subst (IsCutAt c.in-Some.end) c.as_slice.ensures c.in-Some.ensures.found in
    let so : Consumes a (prepend_known rest known) longer =
    moved a (left c.loop.self.source) known p rest c.loop.line.items longer c.in-Some.end (ap left took.same) took.line
    took.rest c.loop.invariant.taken in (
      subst (λ (q : List ℕ). Consumes a (prepend_known q known) (fed longer)) (sym c.drop_front.ensures)
          (fed_line a known p rest longer c.in-Some.end cut took.rest so),
      ap (lacks line_feed) took.line ∙ lacks_both c.loop.line.items _ c.loop.invariant.one_line cut.front,
    )

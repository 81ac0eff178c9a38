use Rattle.std.proofs.Common.{◌≡◌, ℕ, List, true, sym, ap, ◌∙◌, get_or, codes}
use Rattle.broker_types.specs.Words.{and_from}
use Rattle.httparse.specs.Spans.{header_bytes}
use Rattle.httparse.specs.declared.spans.HeaderSpan.{HeaderSpan}
use Rattle.http_layer.specs.Words.{is_closing, lists_close, same_in_any_case}
use Rattle.http_layer.proofs.NamedLemmas.{list_any-map_at}
use Rattle.http_layer.proofs.closing.asks_to_close.Goals as goal

abbrev none : HeaderSpan
none = record { name = record { start = 0; end = 0 }; value = record { start = 0; end = 0 } }

pub returns-then-lists_close : goal.returns-then-lists_close
returns-then-lists_close c =
    let text = c.args.text.now in
    let h = get_or c.args.headers.now c.loop-header.header-index none in
    let is : is_closing (header_bytes text h) ≡ true =
    and_from _ _
    (ap (λ (t : List ℕ). same_in_any_case t (codes "connection")) (sym c.of.ensures) ∙ sym c.same_in_any_case.ensures
    ∙ c.if-same_in_any_case.true)
    (ap lists_close (sym c.of-then-same_in_any_case.ensures) ∙ sym c.lists_close.ensures ∙ c.if-lists_close.true) in
    list_any-map_at is_closing (header_bytes text) c.args.headers.now c.loop-header.header-index none
    c.loop-header-test.true is

use Rattle.std.proofs.Common.{◌≡◌, ◌∙◌, sym}
use Rattle.broker_types.specs.TextLaws.{same_true}
use Rattle.transfer.proofs.lines.head_count.Goals as goal

pub returns-then-is_same : goal.returns-then-is_same
returns-then-is_same c =
    let text : c.in-Ok.text.now ≡ c.args.line.now = c.in-Ok.ensures.cases.0 in
    let same : c.as_str.result.now ≡ c.in-Ok.text.now = same_true _ _ (sym c.is_same.ensures ∙ c.if-is_same.true) in
    (c.in-Some.version.now, sym text ∙ sym same ∙ c.as_str.ensures.value ∙ c.in_ok-expected.ensures)

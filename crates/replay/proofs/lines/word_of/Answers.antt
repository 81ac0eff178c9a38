use Rattle.std.proofs.Common.{◌≡◌, ◌∙◌, true, sym, ap}
use Rattle.records.specs.Words.{is_ascii_hexdigit, list_all}
use Rattle.replay.proofs.LineLemmas.{word_of-digits}
use Rattle.replay.proofs.lines.word_of.Goals as goal

pub returns : goal.returns
returns c =
    let digits : list_all is_ascii_hexdigit c.args.text.now ≡ true =
    ap (list_all is_ascii_hexdigit) (sym c.as_bytes.ensures.value) ∙ sym c.is_hexadecimal.ensures
    ∙ c.if-not-is_hexadecimal.false in
    c.ok.ensures.value ∙ word_of-digits c.args.text.now c.from_str_radix.result c.if-text-ne32.false digits
    c.from_str_radix.ensures.value

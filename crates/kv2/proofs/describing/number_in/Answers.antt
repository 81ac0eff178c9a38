use Rattle.std.proofs.Common.{◌≡◌, ap, sym, ◌∙◌, arith, not}
use Rattle.records.specs.Words.{false≢true, same_Some, bytes_eq-Decides, padded, version_key}
use Rattle.records.specs.DigitLaws.{wide}
use Rattle.kv2.proofs.NumberTexts.{key_is, digits_are}
use Rattle.kv2.proofs.describing.number_in.Goals.{then-number-gt-GREATEST_VERSION-via-then-number-gt-GREATEST_VERSION}
use Rattle.kv2.proofs.describing.number_in.Goals.{then-number-gt-GREATEST_VERSION-via-else-number-gt-GREATEST_VERSION+then-ne}
use Rattle.kv2.proofs.describing.number_in.Goals as goal

pub returns-in_default-clause-told : goal.returns-in_default-clause-told
returns-in_default-clause-told c begins n small is =
    c.in_default.ensures.cases (padded n) (sym (key_is c.args.name.now c.args.prefix.now c.args.key.now n begins is))

pub returns-then-number-gt-GREATEST_VERSION-clause-told : goal.returns-then-number-gt-GREATEST_VERSION-clause-told
returns-then-number-gt-GREATEST_VERSION-clause-told c begins n small is =
    let name = c.args.name.now in
    let key = c.args.key.now in
    let found = c.in-Some.ensures.cases in
    let digits : c.in-Some.digits.now ≡ padded n =
    digits_are name c.args.prefix.now key n begins is found.0 c.in-Some.digits.now found.1.0 found.2 in
    let number : c.in-Some-number_of_digits.number ≡ n =
    same_Some _ _ (sym c.in-Some-number_of_digits.is ∙ c.number_of_digits.ensures n (wide n small) digits) in
    elim c.then-number-gt-GREATEST_VERSION.branch [
      | then-number-gt-GREATEST_VERSION-via-then-number-gt-GREATEST_VERSION w ↦
          absurd (omega (arith, w.if-number-gt-GREATEST_VERSION, small, number))
      | then-number-gt-GREATEST_VERSION-via-else-number-gt-GREATEST_VERSION+then-ne w ↦
          let met : w.as_str.result.now ≡ key = w.as_str.ensures.value ∙ c.in_ok-expected.ensures
          ∙ ap (version_key name) number ∙ sym is in
          absurd (false≢true (sym (w.if-ne.ensures ∙ ap not ((bytes_eq-Decides w.as_str.result.now key).1 met))))
    ]

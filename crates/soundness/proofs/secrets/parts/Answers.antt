use Rattle.std.proofs.Common.{◌≡◌, sym, ◌∙◌, arith}
use Rattle.broker_model.specs.Words.{false≢true, bytes_eq-Decides, version_key, padded_read}
use Rattle.soundness.proofs.ReadLemmas.{ok_err}
use Rattle.soundness.proofs.VersionLemmas.{no_version, version_halves, half_lacks}
use Rattle.soundness.proofs.secrets.parts.Goals as goal

pub returns-in_default-clause-whole : goal.returns-in_default-clause-whole
returns-in_default-clause-whole c =
    no_version c.args.key.now c.split_once.result c.split_once.ensures.cases c.in_default.is

pub returns-in_default-parse-clause-whole : goal.returns-in_default-parse-clause-whole
returns-in_default-parse-clause-whole c = λ name number k.
    let halves = version_halves c.args.key.now c.split_once.result c.split_once.ensures.cases
    (c.in-Some.name, c.in-Some.digits) c.in-Some.is name number k in
    ok_err c.parse.result number c.in_default-parse.field-0
    (padded_read c.in-Some.digits.now number k.wide halves.1 c.parse.result c.parse.ensures.value.0)
    c.in_default-parse.is

pub returns-then-eq-clause-sound : goal.returns-then-eq-clause-sound
returns-then-eq-clause-sound c = record {
  name_lacks = half_lacks c.args.key.now c.split_once.result c.split_once.ensures.cases
      (c.in-Some.name, c.in-Some.digits) c.in-Some.is;
  wide = omega arith;
  is_key = sym ((bytes_eq-Decides c.as_str.result.now c.args.key.now).0 (sym c.eq.ensures ∙ c.if-eq.true))
      ∙ c.as_str.ensures.value ∙ c.in_ok-expected.ensures;
}

pub returns-clause-whole : goal.returns-clause-whole
returns-clause-whole c = λ name number k.
    let halves = version_halves c.args.key.now c.split_once.result c.split_once.ensures.cases
    (c.in-Some.name, c.in-Some.digits) c.in-Some.is name number k in
    let read = padded_read c.in-Some.digits.now number k.wide halves.1 c.parse.result c.parse.ensures.value.0 in
    let same : c.in-Ok.number ≡ number = let e = sym c.in-Ok.is ∙ read in cc in
    let printed = c.as_str.ensures.value ∙ c.in_ok-expected.ensures
    ∙ (λ i. version_key (halves.0 i) (same i)) ∙ sym k.is_key in
    false≢true (sym c.if-eq.false ∙ c.eq.ensures
    ∙ (bytes_eq-Decides c.as_str.result.now c.args.key.now).1 printed)

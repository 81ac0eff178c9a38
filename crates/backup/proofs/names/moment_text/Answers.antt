use Rattle.std.proofs.Common.{◌≡◌, ◌≢◌, ◌∙◌, ◌++◌, ◌∷◌, [], ap, arith, Bool, encode_utf8, encode_utf8_all, filter, List}
use Rattle.std.proofs.Common.{not, ℕ, refl, rules, string_bytes, sym, true}
use Rattle.std.proofs.lemmas.Bool.Decides.{nat_tests}
use Rattle.std.proofs.lemmas.Iterator.{YieldsList-from_chars}
use Rattle.std.proofs.lemmas.Iterator.Consumers.{YieldsList-end}
use Rattle.std.proofs.lemmas.List.{map-id}
use Rattle.std.proofs.lemmas.List.Elements.{filter-append}
use Rattle.std.proofs.lemmas.Slice.{pushed}
use Rattle.std.proofs.lemmas.Str.{encodes-append}
use Rattle.std.specs.Str.{chars}
use Rattle.backup.specs.Names.{is_sign}
use Rattle.backup.proofs.names.moment_text.Goals as goal

abbrev stays : ℕ → Bool
stays letter = not (is_sign letter)

one : (p : ℕ → Bool) (c : ℕ) → p c ≡ true → filter p (c ∷ []) ≡ c ∷ []
one p c k = rw k refl

step : (out ys : List ℕ) (c : ℕ) → stays c ≡ true → out ≡ encode_utf8_all (filter stays ys) ++ encode_utf8 c
    → out ≡ encode_utf8_all (filter stays (ys ++ c ∷ []))
step out ys c k e =
    let both = filter-append stays ys (c ∷ []) ∙ ap (λ z. filter stays ys ++ z) (one stays c k) in
    let last : encode_utf8_all (c ∷ []) ≡ encode_utf8 c = search rules in
    e ∙ ap (λ z. encode_utf8_all (filter stays ys) ++ z) (sym last)
    ∙ sym (ap encode_utf8_all both ∙ encodes-append (filter stays ys) (c ∷ []))

pub loop-letter-preserved-then-letter-ne58 : goal.loop-letter-preserved-then-letter-ne58
loop-letter-preserved-then-letter-ne58 c =
    let k : stays c.in-Some.letter ≡ true = grind (arith, nat_tests) in
    step _ c.loop-letter.yielded c.in-Some.letter k
    (pushed _ c.loop-letter.invariant c.in_ok-push.was c.push.ensures.bytes)

pub returns : goal.returns
returns c =
    let e = YieldsList-end (YieldsList-from_chars c.as_str.result.now c.as_str.utf8 cc) c.loop-letter.yielded _
    c.loop-letter.yielded_by _ _ c.in-None.is c.next.ensures.steps in
    c.loop-letter.invariant
    ∙ ap (λ (ys : List ℕ). encode_utf8_all (filter stays ys))
    (sym (map-id _) ∙ e.0 ∙ ap chars (c.as_str.ensures.value ∙ c.in_ok-time.ensures))

use Rattle.std.proofs.Common.{◌≡◌, ◌≢◌, ◌∙◌, Bor, List, ℕ, Option, Some, None, ap, codes, option_map, refl, rules, sym}
use Rattle.clap.specs.Words.{Text, found_of}
use Rattle.clap.proofs.WalkLemmas.{first_value-rows}
use Rattle.server.specs.declared.settings.LogFormat.TheVariants.{Text as AsText}
use Rattle.brokerd.specs.CommandLine.{IsFormatOf}
use Rattle.brokerd.proofs.command.log_form.Goals as goal

-- without a word it is text
none_given : (o : Option (Bor (List ℕ))) (text : Option Text) → option_map (λ s. s.now) o ≡ text
    → ((s : Bor (List ℕ)) → o ≢ Some s) → IsFormatOf text AsText
none_given None text e never = rw (← e) refl
none_given (Some s) text e never = absurd (never s refl)

word_of : (o : Option (Bor (List ℕ))) (text : Option Text) (word : Bor (List ℕ)) → option_map (λ s. s.now) o ≡ text
    → o ≡ Some word → text ≡ Some word.now
word_of o text word e is = sym e ∙ ap (option_map (λ s. s.now)) is

pub returns-in_default-clause-some : goal.returns-in_default-clause-some
returns-in_default-clause-some c =
    let f = found_of c.args.found.now in
    none_given c.get_str.result _ (c.get_str.ensures ∙ first_value-rows f (codes "log-format")) c.in_default.not-Some

pub returns-then-eq-clause-some : goal.returns-then-eq-clause-some
returns-then-eq-clause-some c =
    let f = found_of c.args.found.now in
    let text = word_of c.get_str.result _ c.in-Some.word (c.get_str.ensures ∙ first_value-rows f (codes "log-format"))
    c.in-Some.is in
    let is : c.in-Some.word.now ≡ codes "text" = search rules in
    rw (text) is

pub returns-then-eq-2-clause-some : goal.returns-then-eq-2-clause-some
returns-then-eq-2-clause-some c =
    let f = found_of c.args.found.now in
    let text = word_of c.get_str.result _ c.in-Some.word (c.get_str.ensures ∙ first_value-rows f (codes "log-format"))
    c.in-Some.is in
    let is : c.in-Some.word.now ≡ codes "json" = search rules in
    rw (text) is

pub returns-clause-none : goal.returns-clause-none
returns-clause-none c = λ _.
    let f = found_of c.args.found.now in
    let text = word_of c.get_str.result _ c.in-Some.word (c.get_str.ensures ∙ first_value-rows f (codes "log-format"))
    c.in-Some.is in
    let other : c.in-Some.word.now ≢ codes "text" = search rules in
    let neither : c.in-Some.word.now ≢ codes "json" = search rules in
    (c.in-Some.word.now, text, other, neither)

use Rattle.std.proofs.Common.{◌≡◌, inl, inr, ℕ, List, Option, Some, None, Result, Ok, codes, refl}
use Rattle.clap.specs.Words.{Text, found_of, one_text, TriesOne}
use Rattle.clap.proofs.WalkLemmas.{one_text-rows}
use Rattle.brokerd.proofs.FlagLemmas.{not_set, set}
use Rattle.brokerd.proofs.NumberLemmas.{Reads, counted, uncounted}
use Rattle.brokerd.proofs.command.count.Goals as goal

-- a number was given for a text
text_of : {E : Type 0} (o : Option Text) (given : Option ℕ) (v : ℕ) → given ≡ Some v
    → (o ≡ None → ◌≡◌ {A = Result (Option ℕ) E} (Ok given) (Ok None)) → (t : Text) × (o ≡ Some t)
text_of (Some t) given v is none = (t, refl)
text_of None None v is none = cc is
text_of None (Some w) v is none = cc (none refl)

-- no number was given
no_text : {E : Type 0} (G : List ℕ → Result ℕ E → Type 0) (o : Option Text) (given : Option ℕ) → given ≡ None
    → ((t : Text) → o ≡ Some t → TriesOne G t (Ok given)) → o ≡ None
no_text G None given is value = refl
no_text G (Some t) None is value = absurd (value t refl)
no_text G (Some t) (Some v) is value = cc is

pub returns-in_default-clause-none : goal.returns-in_default-clause-none
returns-in_default-clause-none c = λ _.
    let f = found_of c.args.found.now in
    let given = uncounted Reads (one_text f (codes "connections")) c.in_default.field-0
    (λ t g. g.0) c.in_default.ensures.none c.in_default.ensures.value in
    rw (← one_text-rows f (codes "connections")) (given.0, given.1, inr given.2)

pub returns-then-not-get_flag-clause-some : goal.returns-then-not-get_flag-clause-some
returns-then-not-get_flag-clause-some c =
    let f = found_of c.args.found.now in
    let given = counted 1000 Reads (one_text f (codes "connections")) c.in-Ok.given
    (λ t v g. (g.0.0, g.0.1)) c.in-Ok.ensures.none c.in-Ok.ensures.value in
    let flag = not_set (one_text f (codes "until-stopped")) c.get_flag.result c.get_flag.ensures.value
    c.if-not-get_flag.true in (
      rw (← one_text-rows f (codes "until-stopped")) flag,
      rw (c.unwrap_or.ensures, ← one_text-rows f (codes "connections")) given,
    )

pub returns-in-Some-clause-none : goal.returns-in-Some-clause-none
returns-in-Some-clause-none c = λ _.
    let f = found_of c.args.found.now in
    let given = text_of (one_text f (codes "connections")) c.in-Ok.given c.in-Some.field-0 c.in-Some.is
    c.in-Ok.ensures.none in
    let flag = set (one_text f (codes "until-stopped")) c.get_flag.result c.get_flag.ensures.none
    c.get_flag.ensures.other c.if-not-get_flag.false in
    rw (← one_text-rows f (codes "connections"), ← one_text-rows f (codes "until-stopped")) (given.0, given.1, inl flag)

pub returns-in-None-clause-some : goal.returns-in-None-clause-some
returns-in-None-clause-some c =
    let f = found_of c.args.found.now in
    let given = no_text Reads (one_text f (codes "connections")) c.in-Ok.given c.in-None.is c.in-Ok.ensures.value in
    let flag = set (one_text f (codes "until-stopped")) c.get_flag.result c.get_flag.ensures.none
    c.get_flag.ensures.other c.if-not-get_flag.false in
    (rw (← one_text-rows f (codes "until-stopped")) flag, rw (← one_text-rows f (codes "connections")) given)

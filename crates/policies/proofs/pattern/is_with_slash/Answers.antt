use Rattle.records.specs.Words.{lit<, sym, ◌∙◌, false_from_ne_true, strip_suffix_char, same, same_true}
use Rattle.policies.proofs.PlaceLemmas.{same_snoc}
use Rattle.policies.proofs.pattern.is_with_slash.Goals as goal

pub returns-in-Some : goal.returns-in-Some
unfolding same
returns-in-Some c =
    let h = rw c.in-Some.is at
    (strip_suffix_char 47 c.args.text.now c.strip_suffix.result c.strip_suffix.ensures.cases (lit< tt)) in
    rw h (c.eq.ensures ∙ sym (same_snoc c.in-Some.start.now c.args.path.now 47))

pub returns-in-None : goal.returns-in-None
returns-in-None c =
    let h = rw c.in-None.is at
    (strip_suffix_char 47 c.args.text.now c.strip_suffix.result c.strip_suffix.ensures.cases (lit< tt)) in
    sym (false_from_ne_true _ (λ e. h c.args.path.now (same_true _ _ e)))

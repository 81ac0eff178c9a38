-- Laws of a prefix, and of what follows it.
use Rattle.std.proofs.Common.{◌≡◌, ◌++◌, ◌∷◌, [], take, drop, length, nat_eq, true, refl, sym, ◌∙◌, ap}
use Rattle.broker_types.specs.Words.{nat_cmp_total, tied_itself, starts_with, ordering_then, take-append_seam}
use Rattle.broker_types.specs.Words.{take-append-drop, Text, text_cmp, same}
use Rattle.broker_types.specs.TextLaws.{same_self, same_true}

-- a text that is the prefix and a rest begins with it
pub begins_with : (prefix q rest : Text) → q ≡ prefix ++ rest → starts_with nat_eq q prefix ≡ true
unfolding same
begins_with prefix q rest e = ap (λ z. same prefix (take (length prefix) z)) e
    ∙ ap (same prefix) (take-append_seam prefix rest) ∙ same_self prefix

-- and one that begins with it is the prefix and a rest
pub begun : (prefix q : Text) → starts_with nat_eq q prefix ≡ true → q ≡ prefix ++ drop (length prefix) q
unfolding same
begun prefix q h =
    sym (take-append-drop (length prefix) q) ∙ ap (λ u. u ++ drop (length prefix) q)
    (sym (same_true prefix (take (length prefix) q) h))

-- what follows a prefix is in the same order
pub after_prefix : (prefix a b : Text) → text_cmp (prefix ++ a) (prefix ++ b) ≡ text_cmp a b
after_prefix [] a b = refl
after_prefix (c ∷ prefix) a b = ap (λ o. ordering_then o (text_cmp (prefix ++ a) (prefix ++ b)))
    (tied_itself nat_cmp_total c) ∙ after_prefix prefix a b

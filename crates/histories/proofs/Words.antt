-- What the words and the paths of policies mean.
use Rattle.std.proofs.Common.{◌≡◌, ◌++◌, ◌-◌, ◌∷◌, if◌then◌else◌}
use Rattle.broker_model.specs.Words.{[], Bool, true, false, cond, length, take, codes, Some, None, option_map, lookup}
use Rattle.broker_model.specs.Words.{refl, ◌∙◌, ap, arith, take-append_seam, Text, same, ends_in_star, pattern_of}
use Rattle.broker_model.specs.Words.{star, word_named, Create, Delete, Read, Sudo, Update, Deny, Grant, Patch, Exact}
use Rattle.broker_model.specs.Words.{Prefix}
use Rattle.policies.specs.declared.capability.Capability.TheVariants.{List}
use Rattle.histories.specs.Words.{PoliciesAreRead, capability_words}

words : (s : Text) → word_named s ≡ lookup (same s) capability_words
words s =
    by (same s (codes "deny")) (same s (codes "patch")) (same s (codes "create")) (same s (codes "read"))
    (same s (codes "update")) (same s (codes "delete")) (same s (codes "list")) (same s (codes "sudo"))
  where
    by : (n p c r u d l o : Bool)
        → (if n then Some Deny else (if p then Some Patch else option_map Grant
        (if c then Some Create else (if r then Some Read else (if u then Some Update else
        (if d then Some Delete else (if l then Some List else (if o then Some Sudo else None))))))))
        ≡ cond n (Some Deny) (cond p (Some Patch) (cond c (Some (Grant Create)) (cond r (Some (Grant Read))
        (cond u (Some (Grant Update)) (cond d (Some (Grant Delete)) (cond l (Some (Grant List))
        (cond o (Some (Grant Sudo)) None)))))))
    by true p c r u d l o = refl
    by false true c r u d l o = refl
    by false false true r u d l o = refl
    by false false false true u d l o = refl
    by false false false false true d l o = refl
    by false false false false false true l o = refl
    by false false false false false false true o = refl
    by false false false false false false false true = refl
    by false false false false false false false false = refl

ends : (s : Text) → ends_in_star (s ++ star ∷ []) ≡ true
ends [] = refl
ends (x ∷ []) = refl
ends (x ∷ y ∷ s) = ends (y ∷ s)

one_less : (s : Text) → length (s ++ star ∷ []) - 1 ≡ length s
one_less [] = refl
one_less (x ∷ []) = refl
one_less (x ∷ y ∷ s) = let rest = one_less (y ∷ s) in omega (arith, rest)

prefix_is : (s : Text) → pattern_of (s ++ codes "*") ≡ Prefix s
unfolding pattern_of
prefix_is s =
    ap (λ v. if v then Prefix (take (length (s ++ star ∷ []) - 1) (s ++ star ∷ [])) else Exact (s ++ star ∷ []))
    (ends s)
    ∙ ap (λ n. Prefix (take n (s ++ star ∷ []))) (one_less s) ∙ ap Prefix (take-append_seam s (star ∷ []))

exact_is : (s t : Text) → pattern_of s ≡ Exact t → t ≡ s
unfolding pattern_of
exact_is s t e = by (ends_in_star s) e
  where
    by : (v : Bool) → (if v then Prefix (take (length s - 1) s) else Exact s) ≡ Exact t → t ≡ s
    by true e = absurd (cc)
    by false e = cc

pub policies_are_read : PoliciesAreRead
policies_are_read = record { words = words; prefix = prefix_is; exact = exact_is }

-- The policies and the times of a token that is made.
use Rattle.std.proofs.Common.{◌≡◌, ◌≢◌, ◌⊎◌, ◌+◌, ◌==◌, ◌&&◌, ◌||◌, ◌∷◌, if◌then◌else◌, ℕ, min, List, [], filter, codes}
use Rattle.broker_model.specs.Words.{Bool, true, false, not, Some, None, option_map_or, refl, sym, ◌∙◌, ap, inl, inr}
use Rattle.broker_model.specs.Words.{and_parts, eqb-true, false≢true, ne_eqb, or_cases, or_right, longest_ttl, keys}
use Rattle.broker_model.specs.Words.{Text, same, same_self, same_true, Token, has, set_of, TokenCreation, has_set, kept}
use Rattle.broker_model.specs.Words.{asked_time, asked_ttl, has_no_end, have_root, new_policies, or_longest}
use Rattle.broker_model.specs.Words.{policies_given, without_default}
use Rattle.histories.specs.Words.{AsksNoEnd, HasPolicies, HasRoot, IsMadeFor}

-- ---- lists that are filtered

passing_stay : (f : Text → Bool) (ts : List Text) (q : Text) → has ts q ≡ true → f q ≡ true
    → has (filter f ts) q ≡ true
passing_stay f [] q there passes = absurd (false≢true there)
passing_stay f (t ∷ ts) q there passes =
    by (f t) refl (λ later. passing_stay f ts q later passes) (or_cases (same q t) (has ts q) there)
  where
    by : (v : Bool) → f t ≡ v → (has ts q ≡ true → has (filter f ts) q ≡ true)
        → (same q t ≡ true) ⊎ (has ts q ≡ true) → has (if v then t ∷ filter f ts else filter f ts) q ≡ true
    by true is rest (inl here) = ap (λ w. w || has (filter f ts) q) here
    by true is rest (inr later) = or_right (same q t) (has (filter f ts) q) (rest later)
    by false is rest (inl here) =
        absurd (false≢true (sym is ∙ ap f (sym (same_true q t here)) ∙ passes))
    by false is rest (inr later) = rest later

failing_go : (f : Text → Bool) (ts : List Text) (q : Text) → f q ≡ false → has (filter f ts) q ≡ false
failing_go f [] q fails = refl
failing_go f (t ∷ ts) q fails = by (f t) refl (failing_go f ts q fails) (same q t) refl
  where
    by : (v : Bool) → f t ≡ v → has (filter f ts) q ≡ false → (w : Bool) → same q t ≡ w
        → has (if v then t ∷ filter f ts else filter f ts) q ≡ false
    by true is rest true here = absurd (false≢true (sym fails ∙ ap f (same_true q t here) ∙ is))
    by true is rest false apart = ap (λ w. w || has (filter f ts) q) apart ∙ rest
    by false is rest w at = rest

-- ---- policies

apart_from : (p other : Text) → p ≢ other → not (same p other) ≡ true
apart_from p other apart = by (same p other) refl
  where
    by : (v : Bool) → same p other ≡ v → not v ≡ true
    by true at = absurd (apart (same_true p other at))
    by false at = refl

pub root_has_root : has (codes "root" ∷ []) (codes "root") ≡ true
unfolding same
root_has_root = refl

-- what the policies that are given have
module _ (adds : Bool) (own : List Text) where
  given_from : (ps : List Text) (p : Text) → has (policies_given adds own ps) p ≡ true
      → (has ps p ≡ true) ⊎ (((ps ≡ []) × (has own p ≡ true)) ⊎ ((p ≡ codes "default") × (ps ≢ []) × (adds ≡ true)))
  given_from [] p there = inr (inl (refl, there))
  given_from (r ∷ rs) p there = by adds refl there
    where
      some : r ∷ rs ≢ []
      some e = cc

      by : (v : Bool) → adds ≡ v → has (if v then codes "default" ∷ r ∷ rs else r ∷ rs) p ≡ true
          → (has (r ∷ rs) p ≡ true)
          ⊎ (((r ∷ rs ≡ []) × (has own p ≡ true)) ⊎ ((p ≡ codes "default") × (r ∷ rs ≢ []) × (adds ≡ true)))
      by true is h = elim (or_cases (same p (codes "default")) (has (r ∷ rs) p) h) [
        | inl here ↦ inr (inr (same_true p (codes "default") here, some, is))
        | inr later ↦ inl later
      ]
      by false is h = inl h

  given_asked : (ps : List Text) (p : Text) → has ps p ≡ true → has (policies_given adds own ps) p ≡ true
  given_asked [] p there = absurd (false≢true there)
  given_asked (r ∷ rs) p there = by adds
    where
      by : (v : Bool) → has (if v then codes "default" ∷ r ∷ rs else r ∷ rs) p ≡ true
      by true = or_right (same p (codes "default")) (has (r ∷ rs) p) there
      by false = there

  given_own : (ps : List Text) (p : Text) → ps ≡ [] → has own p ≡ true → has (policies_given adds own ps) p ≡ true
  given_own ps p none there = ap (λ rs. has (policies_given adds own rs) p) none ∙ there

  given_default : (ps : List Text) → ps ≢ [] → adds ≡ true → has (policies_given adds own ps) (codes "default") ≡ true
  given_default [] some is = absurd (some refl)
  given_default (r ∷ rs) some is =
      ap (λ v. has (if v then codes "default" ∷ r ∷ rs else r ∷ rs) (codes "default")) is
      ∙ ap (λ v. v || has (r ∷ rs) (codes "default")) (same_self (codes "default"))

module _ (privileged : Bool) (x : Token) (asked : TokenCreation) where
  abbrev adds : Bool
  adds = privileged || has x.policies (codes "default")

  abbrev given : List Text
  given = policies_given adds x.policies asked.policies

  abbrev rest : List Text
  rest = if asked.no_default_policy then without_default given else given

  rest_given : (p : Text) → has rest p ≡ true → has given p ≡ true
  rest_given p = by asked.no_default_policy
    where
      by : (v : Bool) → has (if v then without_default given else given) p ≡ true → has given p ≡ true
      by true h = kept (λ q. not (same q (codes "default"))) given p h
      by false h = h

  given_rest : (p : Text) → has given p ≡ true → (p ≢ codes "default") ⊎ (asked.no_default_policy ≡ false)
      → has rest p ≡ true
  given_rest p there may = by asked.no_default_policy refl may
    where
      by : (v : Bool) → asked.no_default_policy ≡ v → (p ≢ codes "default") ⊎ (asked.no_default_policy ≡ false)
          → has (if v then without_default given else given) p ≡ true
      by true is (inl apart) = passing_stay (λ q. not (same q (codes "default"))) given p there
          (apart_from p (codes "default") apart)
      by true is (inr free) = absurd (false≢true (sym free ∙ is))
      by false is may = there

  no_default_rest : asked.no_default_policy ≡ true → has rest (codes "default") ≡ false
  no_default_rest is =
      ap (λ v. has (if v then without_default given else given) (codes "default")) is
      ∙ failing_go (λ q. not (same q (codes "default"))) given (codes "default")
      (ap not (same_self (codes "default")))

  module _ (P : Type 0) (is_privileged : P → privileged ≡ true) (so_is : privileged ≡ true → P) (y : Token) where
    -- each policy that is given, is so for a reason
    from_given : (p : Text) → has given p ≡ true
        → (has asked.policies p ≡ true)
        ⊎ (((asked.policies ≡ []) × (has x.policies p ≡ true))
        ⊎ ((p ≡ codes "default") × (asked.policies ≢ []) × (P ⊎ (has x.policies (codes "default") ≡ true))))
    from_given p there = elim (given_from adds x.policies asked.policies p there) [
      | inl named ↦ inl named
      | inr r ↦ elim r [
        | inl own ↦ inr (inl own)
        | inr (at, some, is) ↦ inr (inr (
          at,
          some,
          elim (or_cases privileged (has x.policies (codes "default")) is) [
            | inl its ↦ inl (so_is its)
            | inr own ↦ inr own
          ],
        ))
      ]
    ]

    adds_it : P ⊎ (has x.policies (codes "default") ≡ true) → adds ≡ true
    adds_it (inl p) = ap (λ v. v || has x.policies (codes "default")) (is_privileged p)
    adds_it (inr own) = or_right privileged (has x.policies (codes "default")) own

    by_root : (v : Bool) → have_root given ≡ v
        → y.policies ≡ (if v then codes "root" ∷ [] else keys (set_of rest)) → HasPolicies P asked x y
    by_root true root is =
        let has_it : HasRoot y = ap (λ ps. has ps (codes "root")) is ∙ root_has_root in
        record {
          root_alone = λ _. is;
          asked_for = λ p there may. inl has_it;
          own = λ p none there may. inl has_it;
          default = λ some free may. inl has_it;
          no_default = λ free. inl has_it;
          no_other = λ p there.
              let at : p ≡ codes "root" =
              elim (or_cases (same p (codes "root")) false (ap (λ ps. has ps p) (sym is) ∙ there)) [
                | inl here ↦ same_true p (codes "root") here
                | inr none ↦ absurd (false≢true none)
              ] in
              from_given p (ap (has given) at ∙ root);
        }
    by_root false none is =
        let are : (p : Text) → has y.policies p ≡ has rest p = λ p. ap (λ ps. has ps p) is ∙ has_set rest p in
        record {
          root_alone = λ root. absurd (false≢true (sym none
              ∙ rest_given (codes "root") (sym (are (codes "root")) ∙ root)));
          asked_for = λ p there may.
              inr (are p ∙ given_rest p (given_asked adds x.policies asked.policies p there) may);
          own = λ p empty there may.
              inr (are p ∙ given_rest p (given_own adds x.policies asked.policies p empty there) may);
          default = λ some free may. inr (are (codes "default")
              ∙ given_rest (codes "default") (given_default adds x.policies asked.policies some (adds_it may))
              (inr free));
          no_default = λ free. inr (are (codes "default") ∙ no_default_rest free);
          no_other = λ p there. from_given p (rest_given p (sym (are p) ∙ there));
        }

    pub has_policies : y.policies ≡ new_policies privileged x asked → HasPolicies P asked x y
    has_policies = by_root (have_root given) refl

-- ---- uses

-- a new token has not spent its last use
pub new_unspent : (n : ℕ) → option_map_or (λ m. m == 0) (if n == 0 then None else Some n) false ≡ false
new_unspent n = elim (n == 0) as
    (λ v. (n == 0) ≡ v → option_map_or (λ m. m == 0) (if v then None else Some n) false
    ≡ false) [ true ↦ λ _. refl | false ↦ λ e. e ] refl

-- ---- times

is_zero : (n : ℕ) → n ≡ 0 → (n == 0) ≡ true
is_zero n none = ap (λ m. m == 0) none

module _ (now : ℕ) (policies : List Text) (asked : TokenCreation) (y : Token)
    (ends : y.ends ≡ (if has_no_end policies asked then None else Some (now + asked_ttl asked)))
    (ttl : y.ttl ≡ (if has_no_end policies asked then 0 else asked_ttl asked)) (are : y.policies ≡ policies) where
  abbrev Lasts : Type 0
  Lasts = ((y.ends ≡ None) × (y.ttl ≡ 0) × HasRoot y × AsksNoEnd asked) ⊎ IsMadeFor now asked y

  by_end : (v : Bool) → has_no_end policies asked ≡ v → y.ends ≡ (if v then None else Some (now + asked_ttl asked))
      → y.ttl ≡ (if v then 0 else asked_ttl asked) → Lasts
  by_end true endless no_end none =
      let is = and_parts (have_root policies) _ endless in
      let zeros = and_parts (asked.ttl == 0) _ is.1 in
      let both = and_parts (asked.explicit_max_ttl == 0) (asked.period == 0) zeros.1 in
      inl (
        no_end,
        none,
        ap (λ ps. has ps (codes "root")) are ∙ is.0,
        record {
          ttl = eqb-true asked.ttl 0 zeros.0;
          explicit_max_ttl = eqb-true asked.explicit_max_ttl 0 both.0;
          period = eqb-true asked.period 0 both.1;
        },
      )
  by_end false some at is_for = inr (record {
    time = asked_time asked;
    by_period = λ period. ap (λ v. or_longest (if v then asked.ttl else asked.period)) (ne_eqb asked.period 0 period)
        ∙ ap (λ v. if v then longest_ttl else asked.period) (ne_eqb asked.period 0 period);
    by_ttl = λ none time. ap (λ v. or_longest (if v then asked.ttl else asked.period)) (is_zero asked.period none)
        ∙ ap (λ v. if v then longest_ttl else asked.ttl) (ne_eqb asked.ttl 0 time);
    by_none = λ none no_time. ap (λ v. or_longest (if v then asked.ttl else asked.period)) (is_zero asked.period none)
        ∙ ap (λ v. if v then longest_ttl else asked.ttl) (is_zero asked.ttl no_time);
    own = λ longest. is_for
        ∙ ap (λ v. min (asked_time asked) (min longest_ttl (if v then longest_ttl else asked.explicit_max_ttl)))
        (ne_eqb asked.explicit_max_ttl 0 longest);
    longest = λ none. is_for
        ∙ ap (λ v. min (asked_time asked) (min longest_ttl (if v then longest_ttl else asked.explicit_max_ttl)))
        (is_zero asked.explicit_max_ttl none);
    ends = at ∙ ap (λ n. Some (now + n)) (sym is_for);
  })

  pub lasts : Lasts
  lasts = by_end (has_no_end policies asked) refl ends ttl

  pub has_no_end_ : HasRoot y → AsksNoEnd asked → y.ends ≡ None
  has_no_end_ root none =
      ends ∙ ap (λ v. if v then None else Some (now + asked_ttl asked))
      (ap (λ v. v && (asked.ttl == 0 && (asked.explicit_max_ttl == 0 && asked.period == 0)))
      (ap (λ ps. has ps (codes "root")) (sym are) ∙ root)
      ∙ ap (λ v. v && (asked.explicit_max_ttl == 0 && asked.period == 0)) (is_zero asked.ttl none.ttl)
      ∙ ap (λ v. v && asked.period == 0) (is_zero asked.explicit_max_ttl none.explicit_max_ttl)
      ∙ is_zero asked.period none.period)

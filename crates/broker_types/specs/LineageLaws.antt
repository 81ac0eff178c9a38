-- Laws of chains of parents, and of what is under a token (this project's).
use Rattle.std.specs.Prelude.{◌≡◌, ◌≢◌, ◌∷◌, ◌||◌, ◌≤◌, ℕ, zero, suc, List, [], true, false, not, cond, Option, Some}
use Rattle.broker_types.specs.Words.{None, is_none, length, IsSome, Bool, list_any, IsDistinct, AllByRecursion}
use Rattle.broker_types.specs.Words.{option_map_or, lookup, len-entries, refl, sym, ◌∙◌, ap, subst, length-le_from_keys}
use Rattle.broker_types.specs.Words.{le_refl, le_trans, le-suc, not-suc-le_self, not-suc-le-zero, le_of_suc-le-suc}
use Rattle.broker_types.specs.Words.{none-some, or_right, false_from_ne_true, false≢true, Text, same, get, len, entries}
use Rattle.broker_types.specs.Words.{Token, Tokens, climb, is_under, without_descendants, ends_within, ChainsEnd}
use Rattle.broker_types.specs.TextLaws.{same_true, same_equiv}
use Rattle.broker_types.specs.MapLaws.{get-lookup, get-keep, same_map}

-- the steps of `ends_within` and of `climb`, at a token that may be there, and at a parent that it may have
abbrev pub ends_above : ℕ → Tokens → Option Text → Bool
ends_above n ts p = option_map_or (ends_within n ts) p true

-- of `ends_within`, at a token
abbrev pub ends_at : ℕ → Tokens → Option Token → Bool
ends_at n ts o = option_map_or (λ (x : Token). ends_above n ts x.parent) o true

-- of `climb`, at a parent
abbrev pub climb_above : ℕ → Tokens → Option Text → List Text
climb_above n ts p = option_map_or (climb n ts) p []

-- of `climb`, at a token
abbrev pub climb_at : ℕ → Tokens → Text → Option Token → List Text
climb_at n ts t o = option_map_or (λ (x : Token). t ∷ climb_above n ts x.parent) o []

-- an unknown token has no chain
pub climb_none : (n : ℕ) (ts : Tokens) (t : Text) → is_none (get ts t) ≡ true → climb n ts t ≡ []
climb_none zero ts t h = refl
climb_none (suc n) ts t h =
    elim (get ts t) as (λ o. is_none o ≡ true → climb_at n ts t o ≡ []) [
      | None ↦ λ _. refl
      | Some x ↦ λ e. absurd (false≢true e)
    ] h

-- chains that end are one, whatever the number of steps allowed
pub climb_enough : (n m : ℕ) (ts : Tokens) (t : Text) → ends_within n ts t ≡ true → ends_within m ts t ≡ true
    → climb n ts t ≡ climb m ts t
climb_enough zero m ts t h k = sym (climb_none m ts t h)
climb_enough (suc n) zero ts t h k = climb_none (suc n) ts t k
climb_enough (suc n) (suc m) ts t h k =
    elim (get ts t) as (λ o. ends_at n ts o ≡ true → ends_at m ts o ≡ true → climb_at n ts t o ≡ climb_at m ts t o) [
      | None ↦ λ _ _. refl
      | Some x ↦ λ e f. ap (λ r. t ∷ r)
          (elim (x.parent)
          as (λ p. ends_above n ts p ≡ true → ends_above m ts p ≡ true → climb_above n ts p ≡ climb_above m ts p) [
            | None ↦ λ _ _. refl
            | Some p ↦ λ a b. climb_enough n m ts p a b
          ] e f)
    ] h k

-- each member of a lineage is a token
pub in_climb : (n : ℕ) (ts : Tokens) (t a : Text) → list_any (same a) (climb n ts t) ≡ true → get ts a ≢ None
in_climb zero ts t a h = absurd (false≢true h)
in_climb (suc n) ts t a h =
    elim (get ts t) as (λ o. get ts t ≡ o → list_any (same a) (climb_at n ts t o) ≡ true → get ts a ≢ None) [
      | None ↦ λ _ e. absurd (false≢true e)
      | Some x ↦ λ is. elim (same a t)
          as (λ b. same a t ≡ b → (b || list_any (same a) (climb_above n ts x.parent)) ≡ true → get ts a ≢ None) [
            | true ↦ λ s _ none. none-some x (sym none ∙ ap (get ts) (same_true a t s) ∙ is)
            | false ↦ λ s. elim (x.parent) as (λ p. list_any (same a) (climb_above n ts p) ≡ true → get ts a ≢ None) [
              | None ↦ λ e. absurd (false≢true e)
              | Some p ↦ λ e. in_climb n ts p a e
            ]
          ] refl
    ] refl h

-- under is transitive, if chains end
pub under_climb : (n m : ℕ) (ts : Tokens) (q a t : Text) → ends_within n ts q ≡ true → ends_within m ts a ≡ true
    → list_any (same a) (climb n ts q) ≡ true → list_any (same t) (climb m ts a) ≡ true
    → list_any (same t) (climb n ts q) ≡ true
under_climb zero m ts q a t h k u v = absurd (false≢true u)
under_climb (suc n) m ts q a t h k u v =
    elim (same a q) as (λ b. same a q ≡ b → list_any (same t) (climb (suc n) ts q) ≡ true) [
      | true ↦ λ s. let e : a ≡ q = same_true a q s in
          let hm : ends_within m ts q ≡ true = subst (λ z. ends_within m ts z ≡ true) e k in
          subst (λ (l : List Text). list_any (same t) l ≡ true) (sym (climb_enough (suc n) m ts q h hm))
          (subst (λ z. list_any (same t) (climb m ts z) ≡ true) e v)
      | false ↦ λ s. elim (get ts q)
          as (λ o. ends_at n ts o ≡ true → list_any (same a) (climb_at n ts q o) ≡ true
          → list_any (same t) (climb_at n ts q o) ≡ true) [
            | None ↦ λ _ e. absurd (false≢true e)
            | Some x ↦ λ f e. elim (x.parent)
                as (λ p. ends_above n ts p ≡ true → list_any (same a) (climb_above n ts p) ≡ true
                → (same t q || list_any (same t) (climb_above n ts p)) ≡ true) [
                  | None ↦ λ _ z. absurd (false≢true z)
                  | Some p ↦ λ g z. or_right (same t q) _ (under_climb n m ts p a t g k z v)
                ] f (subst (λ b. (b || list_any (same a) (climb_above n ts x.parent)) ≡ true) s e)
          ] h u
    ] refl

-- what a token of a chain has above it is no longer than the chain
part_of : (n : ℕ) (ts : Tokens) (q a : Text) → ends_within n ts q ≡ true → list_any (same a) (climb n ts q) ≡ true
    → (m : ℕ) × (ends_within m ts a ≡ true) × (length (climb m ts a) ≤ length (climb n ts q))
part_of zero ts q a h u = absurd (false≢true u)
part_of (suc n) ts q a h u =
    elim (same a q)
    as (λ b. same a q ≡ b
    → (m : ℕ) × (ends_within m ts a ≡ true) × (length (climb m ts a) ≤ length (climb (suc n) ts q))) [
      | true ↦ λ s. let e : q ≡ a = sym (same_true a q s) in (
        suc n,
        subst (λ z. ends_within (suc n) ts z ≡ true) e h,
        subst (λ z. length (climb (suc n) ts z) ≤ length (climb (suc n) ts q)) e (le_refl _),
      )
      | false ↦ λ s. elim (get ts q)
          as (λ o. ends_at n ts o ≡ true → list_any (same a) (climb_at n ts q o) ≡ true
          → (m : ℕ) × (ends_within m ts a ≡ true) × (length (climb m ts a) ≤ length (climb_at n ts q o))) [
            | None ↦ λ _ e. absurd (false≢true e)
            | Some x ↦ λ f e. elim (x.parent)
                as (λ p. ends_above n ts p ≡ true → list_any (same a) (climb_above n ts p) ≡ true
                → (m : ℕ) × (ends_within m ts a ≡ true) × (length (climb m ts a) ≤ suc (length (climb_above n ts p)))) [
                  | None ↦ λ _ z. absurd (false≢true z)
                  | Some p ↦ λ g z. let r = part_of n ts p a g z in (r.0, r.1, le_trans r.2 (le-suc _))
                ] f (subst (λ b. (b || list_any (same a) (climb_above n ts x.parent)) ≡ true) s e)
          ] h u
    ] refl

-- a text that is not in a list is none of its texts
pub all_apart : (q : Text) (xs : List Text) → list_any (same q) xs ≡ false → AllByRecursion (λ y. same q y ≡ false) xs
all_apart q [] e = tt
all_apart q (x ∷ xs) e =
    elim (same q x)
    as (λ b. same q x ≡ b → (b || list_any (same q) xs) ≡ false
    → (same q x ≡ false) × AllByRecursion (λ y. same q y ≡ false) xs) [
      | true ↦ λ _ z. absurd (false≢true (sym z))
      | false ↦ λ s z. (s, all_apart q xs z)
    ] refl e

-- no token is twice in a chain that ends
pub climb_distinct : (n : ℕ) (ts : Tokens) (q : Text) → ends_within n ts q ≡ true → IsDistinct same (climb n ts q)
unfolding IsDistinct
climb_distinct zero ts q h = tt
climb_distinct (suc n) ts q h =
    elim (get ts q) as (λ o. get ts q ≡ o → ends_at n ts o ≡ true → IsDistinct same (climb_at n ts q o)) [
      | None ↦ λ _ _. tt
      | Some x ↦ λ is. elim (x.parent)
          as (λ p. x.parent ≡ p → ends_above n ts p ≡ true → IsDistinct same (q ∷ climb_above n ts p)) [
            | None ↦ λ _ _. (tt, tt)
            | Some p ↦ λ ip g. (
              all_apart q _ (false_from_ne_true _ (λ u.
                  let r = part_of n ts p q g u in
                  let len_part : length (climb r.0 ts q) ≤ length (climb n ts p) = r.2 in
                  let one : climb (suc n) ts q ≡ climb r.0 ts q = climb_enough (suc n) r.0 ts q h r.1 in
                  let whole : climb (suc n) ts q ≡ q ∷ climb n ts p =
                  ap (λ o. climb_at n ts q o) is ∙ ap (λ o. q ∷ climb_above n ts o) ip in
                  let long : length (climb r.0 ts q) ≡ suc (length (climb n ts p)) = ap length (sym one ∙ whole) in
                  not-suc-le_self _ (subst (λ k. k ≤ length (climb n ts p)) long len_part))),
              climb_distinct n ts p g,
            )
          ] refl
    ] refl h

-- a chain that ends does so within its own length
ends_own : (n : ℕ) (ts : Tokens) (q : Text) → ends_within n ts q ≡ true
    → ends_within (length (climb n ts q)) ts q ≡ true
ends_own zero ts q h = h
ends_own (suc n) ts q h =
    elim (get ts q)
    as (λ o. get ts q ≡ o → ends_at n ts o ≡ true → ends_within (length (climb_at n ts q o)) ts q ≡ true) [
      | None ↦ λ is _. ap is_none is
      | Some x ↦ λ is e. ap (λ o. ends_at (length (climb_above n ts x.parent)) ts o) is
          ∙ elim (x.parent) as (λ p. ends_above n ts p ≡ true → ends_above (length (climb_above n ts p)) ts p ≡ true) [
            | None ↦ λ _. refl
            | Some p ↦ λ g. ends_own n ts p g
          ] e
    ] refl h

-- more steps do as well
ends_more : (n m : ℕ) (ts : Tokens) (q : Text) → n ≤ m → ends_within n ts q ≡ true → ends_within m ts q ≡ true
ends_more zero zero ts q le h = h
ends_more zero (suc m) ts q le h =
    elim (get ts q)
    as (λ o. is_none o ≡ true → ends_at m ts o ≡ true) [ None ↦ λ _. refl | Some x ↦ λ e. absurd (false≢true e) ] h
ends_more (suc n) zero ts q le h = absurd (not-suc-le-zero le)
ends_more (suc n) (suc m) ts q le h =
    elim (get ts q) as (λ o. ends_at n ts o ≡ true → ends_at m ts o ≡ true) [
      | None ↦ λ _. refl
      | Some x ↦ elim (x.parent) as (λ p. ends_above n ts p ≡ true → ends_above m ts p ≡ true) [
        | None ↦ λ _. refl
        | Some p ↦ λ g. ends_more n m ts p (le_of_suc-le-suc le) g
      ]
    ] h

-- a chain that ends at all does so within as many steps as there are tokens
pub ends_in_time : (ts : Tokens) (q : Text) (n : ℕ) → ends_within n ts q ≡ true → ends_within (len ts) ts q ≡ true
ends_in_time ts q n h =
    ends_more _ (len ts) ts q
    (subst (λ z. length (climb n ts q) ≤ z) (sym (len-entries ts))
    (length-le_from_keys same_equiv (climb n ts q) (entries ts) (climb_distinct n ts q h)
    (λ a u. found a (in_climb n ts q a u))))
    (ends_own n ts q h)
  where
    some_of : {X : Type 0} (o : Option X) → (o ≢ None) → IsSome o
    some_of None h = absurd (h refl)
    some_of (Some x) h = refl

    found : (a : Text) → get ts a ≢ None → IsSome (lookup (same a) (entries ts))
    found a ne = some_of _ (λ e. ne (get-lookup ts a ∙ e))

-- under is transitive
pub is_under_trans : (ts : Tokens) (q a t : Text) → ChainsEnd ts → is_under ts q a ≡ true → is_under ts a t ≡ true
    → is_under ts q t ≡ true
is_under_trans ts q a t h u v = under_climb (len ts) (len ts) ts q a t (h q) (h a) u v

-- revocation keeps just the tokens that are not under t
pub get-revoke : (ts : Tokens) (t q : Text)
    → get (without_descendants ts t) q ≡ cond (not (is_under ts q t)) (get ts q) None
get-revoke ts t q = get-keep _ ts q

-- a token that is not under t stays as it is
pub revoke_other : (ts : Tokens) (t q : Text) → is_under ts q t ≡ false → get (without_descendants ts t) q ≡ get ts q
revoke_other ts t q h = get-revoke ts t q ∙ ap (λ b. cond (not b) (get ts q) None) h

-- nothing under t is left
pub revoke_under : (ts : Tokens) (t q : Text) → is_under ts q t ≡ true → get (without_descendants ts t) q ≡ None
revoke_under ts t q h = get-revoke ts t q ∙ ap (λ b. cond (not b) (get ts q) None) h

-- an unknown token changes nothing
pub revoke_unknown : (ts : Tokens) (t : Text) → get ts t ≡ None → without_descendants ts t ≡ ts
revoke_unknown ts t none =
    same_map (without_descendants ts t) ts
    (λ q. revoke_other ts t q (false_from_ne_true _ (λ e. in_climb (len ts) ts q t e none)))

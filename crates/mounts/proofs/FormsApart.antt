-- In a table in order no two patterns have one text and both a parameter, nor one text and both none.
use Rattle.std.proofs.Common.{◌≡◌, ◌==◌, ◌&&◌, ◌||◌, ◌++◌, ◌+◌, ◌∷◌, if◌then◌else◌, ℕ, List, [], length, get_or, true}
use Rattle.records.specs.Words.{false, cond, Option, Some, None, is_none, Result, Ok, Err, list_all, refl, sym, ◌∙◌, ap}
use Rattle.records.specs.Words.{subst, inl, inr, add-one, and_parts, or_left, or_right, false≢true, same_Some, Text}
use Rattle.records.specs.Words.{same_true, eqb_self}
use Rattle.matchit.specs.Conflict.{conflicts, wild_clash}
use Rattle.matchit.specs.Order.{common_len}
use Rattle.matchit.specs.Rows.{param_token, catch_all_token}
use Rattle.matchit.specs.Route.{Scan, parse_route}
use Rattle.matchit.specs.Router.{route_from, nearer, nearest, nearest_from}
use Rattle.matchit.specs.declared.error.InsertError.{InsertError}
use Rattle.matchit.proofs.NearestLemmas.{conflicts-self, nearer-some, from-some, near-yes}
use Rattle.mounts.specs.Words.{Ending, nothing, segment, segments, Form, form_of, is_literal, Router, with_next}
use Rattle.mounts.specs.Words.{placed_as, is_again, is_free, can_follow, fits_behind, router_behind, ending_tokens}
use Rattle.mounts.specs.Words.{tokens, is_read_as, reads_as_form, RouteRow}
use Rattle.mounts.proofs.FormRouters.{Keys, AreRoutes, HasPattern, IsBefore, placed_from, next_is}

-- one text, and both have a parameter or neither has
pub record AreAlike (f g : Form) : Type 0 where
  pub literal : f.literal ≡ g.literal
  pub ending : is_literal f.ending ≡ is_literal g.ending

-- ---- such patterns conflict

common_text : (l : Text) (x y : ℕ) → (x == y) ≡ false → common_len (l ++ x ∷ []) (l ++ y ∷ []) ≡ length l
common_text [] x y apart = ap (λ v. cond v 1 0) apart
common_text (b ∷ l) x y apart =
    ap (λ v. cond v (common_len (l ++ x ∷ []) (l ++ y ∷ []) + 1) 0) (eqb_self b)
    ∙ ap (λ n. n + 1) (common_text l x y apart)
    ∙ add-one (length l)

last_at : (l : Text) (x : ℕ) → get_or (l ++ x ∷ []) (length l) 0 ≡ x
last_at [] x = refl
last_at (b ∷ l) x = last_at l x

wild : (l : Text) (x y : ℕ) → (x == y) ≡ false → wild_clash x y ≡ true → conflicts (l ++ x ∷ []) (l ++ y ∷ []) ≡ true
wild l x y apart clash =
    let a = l ++ x ∷ [] in
    let b = l ++ y ∷ [] in
    let n : common_len a b ≡ length l = common_text l x y apart in
    let w : wild_clash (get_or a (common_len a b) 0) (get_or b (common_len a b) 0) ≡ true =
    ap (λ m. wild_clash (get_or a m 0) (get_or b m 0)) n ∙ (λ i. wild_clash (last_at l x i) (last_at l y i)) ∙ clash in
    or_left _ _ (or_right (common_len a b == length a && common_len a b == length b) _ w)

ends_conflict : (l : Text) (g h : Ending) → is_literal g ≡ is_literal h
    → conflicts (l ++ ending_tokens g) (l ++ ending_tokens h) ≡ true
ends_conflict l nothing nothing e = conflicts-self (l ++ [])
ends_conflict l segment segment e = conflicts-self (l ++ param_token ∷ [])
ends_conflict l segments segments e = conflicts-self (l ++ catch_all_token ∷ [])
ends_conflict l segment segments e = wild l param_token catch_all_token refl refl
ends_conflict l segments segment e = wild l catch_all_token param_token refl refl
ends_conflict l nothing segment e = absurd (false≢true (sym e))
ends_conflict l nothing segments e = absurd (false≢true (sym e))
ends_conflict l segment nothing e = absurd (false≢true e)
ends_conflict l segments nothing e = absurd (false≢true e)

alike_conflict : (f g : Form) → AreAlike f g → conflicts (tokens f) (tokens g) ≡ true
alike_conflict f g alike =
    ap (λ (l : Text). conflicts (tokens f) (l ++ ending_tokens g.ending)) (sym alike.literal)
    ∙ ends_conflict f.literal f.ending g.ending alike.ending

-- what conflicts with a pattern of the router has a nearest pattern
none_apart : (p : List ℕ) (best : Option Keys × ℕ) (q : Text) (router : Router) → AreRoutes router → HasPattern q router
    → conflicts p (tokens (form_of q)) ≡ true → nearest_from p best router ≡ None → ⊥
none_apart p best q [] are has c none = has
none_apart p best q ((t, k) ∷ router) are (inl is) c none =
    let here : conflicts p t ≡ true = ap (conflicts p) (are.0.tokens_are ∙ ap (λ (z : Text). tokens (form_of z)) is)
    ∙ c in
    let y = nearer-some best (common_len p t) k in
    from-some p (nearer best (common_len p t) k) router y.0 y.1 (near-yes p t k best router None none here)
none_apart p best q ((t, k) ∷ router) are (inr later) c none =
    none_apart p (cond (conflicts p t) (nearer best (common_len p t) k) best) q router are.1 later c none

-- ---- routers in which no two patterns are alike

abbrev pub AreApart : Router → Type 0
AreApart router = (p q : Text) → HasPattern p router → HasPattern q router → AreAlike (form_of p) (form_of q) → p ≡ q

no_nearest : (o : Option Keys) → is_none o ≡ true → o ≡ None
no_nearest None h = refl
no_nearest (Some k) h = absurd (false≢true h)

placed_apart : (p : Text) (router : Router) (r : Result Scan InsertError) → is_read_as (tokens (form_of p)) r ≡ true
    → is_free r router ≡ true
    → AreRoutes router → AreApart router → AreApart (placed_as r p router)
placed_apart p router (Err e) read free are apart a b has_a has_b alike = absurd (false≢true read)
placed_apart p router (Ok s) read free are apart a b has_a has_b alike =
    elim (placed_from s.pattern (route_from s p) router a has_a) [
      | inl is_a ↦ elim (placed_from s.pattern (route_from s p) router b has_b) [
        | inl is_b ↦ sym is_a ∙ is_b
        | inr old_b ↦ absurd (new_one b old_b (subst (λ (z : Text). AreAlike (form_of z) (form_of b)) (sym is_a) alike))
      ]
      | inr old_a ↦ elim (placed_from s.pattern (route_from s p) router b has_b) [
        | inl is_b ↦ absurd (new_one a old_a (subst (λ (z : Text). AreAlike (form_of z) (form_of a)) (sym is_b)
            (record { literal = sym alike.literal; ending = sym alike.ending })))
        | inr old_b ↦ apart a b old_a old_b alike
      ]
    ]
  where
    new_one : (q : Text) → HasPattern q router → AreAlike (form_of p) (form_of q) → ⊥
    new_one q has alike =
        none_apart s.pattern (None, 0) q router are has
        (ap (λ (t : List ℕ). conflicts t (tokens (form_of q))) (same_true s.pattern (tokens (form_of p)) read)
        ∙ alike_conflict (form_of p) (form_of q) alike)
        (no_nearest (nearest s.pattern router) free)

next_apart : (before : Option Text) (p : Text) (router : Router) → reads_as_form p ≡ true
    → can_follow before p router ≡ true → AreRoutes router
    → AreApart router → AreApart (with_next before p router)
next_apart before p router reads follows are apart =
    elim (is_again before p) as (λ v. (v || is_free (parse_route p) router) ≡ true
    → AreApart (if v then router else placed_as (parse_route p) p router)) [
      | true ↦ λ _. apart
      | false ↦ λ free. placed_apart p router (parse_route p) (and_parts _ _ reads).1 free are apart
    ] follows

-- the patterns of rows that can stand together
pub last_apart : (before : Option Text) (table : List RouteRow) (router : Router)
    → list_all (λ (r : RouteRow). reads_as_form r.pattern) table ≡ true
    → fits_behind before table router ≡ true → AreRoutes router → IsBefore before router → AreApart router
    → AreApart (router_behind before table router)
unfolding router_behind fits_behind
last_apart before [] router reads fit are known apart = apart
last_apart before (r ∷ table) router reads fit are known apart =
    let read = and_parts _ _ reads in
    let fits = and_parts _ _ fit in
    let next = next_is before r.pattern router read.0 are known in
    last_apart (Some r.pattern) table (with_next before r.pattern router) read.1 fits.1 next.are
    (λ q is. subst (λ p. HasPattern p (with_next before r.pattern router)) (same_Some _ _ is) next.here)
    (next_apart before r.pattern router read.0 fits.0 are apart)

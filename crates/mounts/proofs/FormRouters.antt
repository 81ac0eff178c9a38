-- The router of rows has the tokens of their patterns' forms, and no others.
use Rattle.std.proofs.Common.{◌≡◌, ◌⊎◌, ◌∷◌, if◌then◌else◌, ℕ, List, [], true, false, cond, Option, Some, None, Result}
use Rattle.records.specs.Words.{Ok, Err, list_all, refl, sym, ◌∙◌, ap, subst, inl, inr, and_parts, and_from, false≢true}
use Rattle.records.specs.Words.{or_left, or_right, or_cases, same_Some, Text, same, same_self, same_true}
use Rattle.matchit.specs.Order.{placed}
use Rattle.matchit.specs.Rows.{comes_before}
use Rattle.matchit.specs.Route.{Scan, parse_route}
use Rattle.matchit.specs.Router.{RouteOf, route_from}
use Rattle.matchit.specs.declared.error.InsertError.{InsertError}
use Rattle.mounts.specs.Words.{Ending, form_of, are_bytes, Router, with_next, placed_as, is_again, router_behind}
use Rattle.mounts.specs.Words.{tokens, is_read_as, reads_as_form, has_pattern, RouteRow}
use Rattle.mounts.proofs.FormSearch.{FormOf, Has}
use Rattle.mounts.proofs.FormSeek.{rows, all_bytes}

abbrev pub Keys : Type 0
Keys = RouteOf Text

-- the tokens of a route are those of its pattern's form
pub record IsRoute (t : List ℕ) (k : Keys) : Type 0 where
  pub tokens_are : t ≡ tokens (form_of k.value)
  pub bytes : are_bytes (form_of k.value).literal ≡ true

abbrev pub AreRoutes : Router → Type 0
AreRoutes [] = Unit {0}
AreRoutes (e ∷ es) = IsRoute e.0 e.1 × AreRoutes es

-- the router has a route with this pattern
abbrev pub HasPattern : Text → Router → Type 0
HasPattern p [] = ⊥
HasPattern p (e ∷ es) = (e.1.value ≡ p) ⊎ HasPattern p es

abbrev pub forms_of : Router → List (FormOf Keys)
forms_of [] = []
forms_of (e ∷ es) = ((form_of e.1.value).literal, (form_of e.1.value).ending, e.1) ∷ forms_of es

-- ---- the router as forms

pub rows_forms : (router : Router) → AreRoutes router → router ≡ rows (forms_of router)
rows_forms [] are = refl
rows_forms (e ∷ es) are = λ i. (are.0.tokens_are i, e.1) ∷ rows_forms es are.1 i

pub bytes_forms : (router : Router) → AreRoutes router → all_bytes (forms_of router) ≡ true
bytes_forms [] are = refl
bytes_forms (e ∷ es) are = and_from _ _ are.0.bytes (bytes_forms es are.1)

pub record IsOf (router : Router) (l : Text) (g : Ending) (k : Keys) : Type 0 where
  pub literal : l ≡ (form_of k.value).literal
  pub ending : g ≡ (form_of k.value).ending
  pub has : HasPattern k.value router

pub has_is : (router : Router) (l : Text) (g : Ending) (k : Keys) → Has l g k (forms_of router) → IsOf router l g k
has_is [] l g k has = absurd has
has_is (e ∷ es) l g k (inl is) =
    let key : k ≡ e.1 = ap (λ (z : FormOf Keys). z.2) is in
    record {
      literal = (λ i. (is i).0) ∙ ap (λ (z : Keys). (form_of z.value).literal) (sym key);
      ending = (λ i. (is i).1) ∙ ap (λ (z : Keys). (form_of z.value).ending) (sym key);
      has = inl (ap (λ (z : Keys). z.value) (sym key));
    }
has_is (e ∷ es) l g k (inr later) = let r = has_is es l g k later in
    record { literal = r.literal; ending = r.ending; has = inr r.has }

pub is_has : (router : Router) (p : Text) → HasPattern p router → (k : Keys)
    × Has (form_of p).literal (form_of p).ending k (forms_of router)
is_has [] p has = absurd has
is_has (e ∷ es) p (inl is) = (e.1, inl (ap (λ (q : Text). ((form_of q).literal, (form_of q).ending, e.1)) (sym is)))
is_has (e ∷ es) p (inr later) = let r = is_has es p later in (r.0, inr r.1)

-- ---- a route put in its place

module _ (t : List ℕ) (k : Keys) where
  placed_routes : (router : Router) → IsRoute t k → AreRoutes router → AreRoutes (placed (t, k) router)
  placed_routes [] new are = (new, tt)
  placed_routes (e ∷ es) new are =
      elim (comes_before t e.0) as (λ v. AreRoutes (cond v ((t, k) ∷ e ∷ es) (e ∷ placed (t, k) es))) [
        | true ↦ (new, are)
        | false ↦ (are.0, placed_routes es new are.1)
      ]

  placed_here : (router : Router) → HasPattern k.value (placed (t, k) router)
  placed_here [] = inl refl
  placed_here (e ∷ es) =
      elim (comes_before t e.0) as (λ v. HasPattern k.value (cond v ((t, k) ∷ e ∷ es) (e ∷ placed (t, k) es))) [
        | true ↦ inl refl
        | false ↦ inr (placed_here es)
      ]

  placed_keeps : (router : Router) (p : Text) → HasPattern p router → HasPattern p (placed (t, k) router)
  placed_keeps [] p has = absurd has
  placed_keeps (e ∷ es) p has =
      elim (comes_before t e.0) as (λ v. HasPattern p (cond v ((t, k) ∷ e ∷ es) (e ∷ placed (t, k) es))) [
        | true ↦ inr has
        | false ↦ kept (placed_keeps es p) has
      ]
    where
      kept : (HasPattern p es → HasPattern p (placed (t, k) es)) → HasPattern p (e ∷ es)
          → HasPattern p (e ∷ placed (t, k) es)
      kept deeper (inl is) = inl is
      kept deeper (inr later) = inr (deeper later)

  pub placed_from : (router : Router) (p : Text) → HasPattern p (placed (t, k) router) → (k.value ≡ p)
      ⊎ HasPattern p router
  placed_from [] p has = has
  placed_from (e ∷ es) p has =
      elim (comes_before t e.0) as (λ v. HasPattern p (cond v ((t, k) ∷ e ∷ es) (e ∷ placed (t, k) es)) → (k.value ≡ p)
      ⊎ HasPattern p (e ∷ es)) [
        | true ↦ λ h. h
        | false ↦ λ h. later (placed_from es p) h
      ] has
    where
      later : (HasPattern p (placed (t, k) es) → (k.value ≡ p) ⊎ HasPattern p es) → HasPattern p (e ∷ placed (t, k) es)
          → (k.value ≡ p) ⊎ HasPattern p (e ∷ es)
      later deeper (inl is) = inr (inl is)
      later deeper (inr h) = elim (deeper h) [
        | inl is ↦ inl is
        | inr old ↦ inr (inr old)
      ]

-- ---- the router of rows

-- the next router has the pattern and those of the router
pub record IsNext (p : Text) (router next : Router) : Type 0 where
  pub are : AreRoutes next
  pub here : HasPattern p next
  pub keeps : (q : Text) → HasPattern q router → HasPattern q next
  pub from : (q : Text) → HasPattern q next → (p ≡ q) ⊎ HasPattern q router

-- the pattern of the row before is in the router
abbrev pub IsBefore : Option Text → Router → Type 0
IsBefore before router = (q : Text) → before ≡ Some q → HasPattern q router

next_placed : (p : Text) (router : Router) (r : Result Scan InsertError) → are_bytes (form_of p).literal ≡ true
    → is_read_as (tokens (form_of p)) r ≡ true
    → AreRoutes router → IsNext p router (placed_as r p router)
next_placed p router (Err e) bytes read are = absurd (false≢true read)
next_placed p router (Ok s) bytes read are =
    let k : Keys = route_from s p in
    let new : IsRoute s.pattern k =
    record { tokens_are = same_true s.pattern (tokens (form_of p)) read; bytes = bytes } in
    record {
      are = placed_routes s.pattern k router new are;
      here = placed_here s.pattern k router;
      keeps = λ q has. placed_keeps s.pattern k router q has;
      from = λ q has. placed_from s.pattern k router q has;
    }

pub next_is : (before : Option Text) (p : Text) (router : Router) → reads_as_form p ≡ true → AreRoutes router
    → IsBefore before router
    → IsNext p router (with_next before p router)
next_is before p router reads are known =
    let parts = and_parts _ _ reads in
    elim (is_again before p) as (λ v. is_again before p ≡ v
    → IsNext p router (if v then router else placed_as (parse_route p) p router)) [
      | false ↦ λ _. next_placed p router (parse_route p) parts.0 parts.1 are
      | true ↦ λ again. record {
        are = are;
        here = again_here before known again;
        keeps = λ q has. has;
        from = λ q has. inr has;
      }
    ] refl
  where
    again_here : (o : Option Text) → IsBefore o router → is_again o p ≡ true → HasPattern p router
    again_here None h again = absurd (false≢true again)
    again_here (Some b) h again = subst (λ q. HasPattern q router) (same_true b p again) (h b refl)

-- the last router has the patterns of the rows and those of the router
pub record IsLast (table : List RouteRow) (router last : Router) : Type 0 where
  pub are : AreRoutes last
  pub listed : (p : Text) → has_pattern table p ≡ true → HasPattern p last
  pub keeps : (p : Text) → HasPattern p router → HasPattern p last
  pub from : (p : Text) → HasPattern p last → (has_pattern table p ≡ true) ⊎ HasPattern p router

pub last_is : (before : Option Text) (table : List RouteRow) (router : Router)
    → list_all (λ (r : RouteRow). reads_as_form r.pattern) table ≡ true → AreRoutes router
    → IsBefore before router → IsLast table router (router_behind before table router)
unfolding router_behind
last_is before [] router reads are known =
    record { are = are; listed = λ p h. absurd (false≢true h); keeps = λ p has. has; from = λ p has. inr has }
last_is before (r ∷ table) router reads are known =
    let parts = and_parts _ _ reads in
    let next = next_is before r.pattern router parts.0 are known in
    let last = last_is (Some r.pattern) table (with_next before r.pattern router) parts.1 next.are
    (λ q is. subst (λ p. HasPattern p (with_next before r.pattern router)) (same_Some _ _ is) next.here) in
    record {
      are = last.are;
      listed = λ p h. elim (or_cases (same r.pattern p) (has_pattern table p) h) [
        | inl is ↦ last.keeps p
            (subst (λ q. HasPattern q (with_next before r.pattern router)) (same_true r.pattern p is) next.here)
        | inr later ↦ last.listed p later
      ];
      keeps = λ p has. last.keeps p (next.keeps p has);
      from = λ p has. elim (last.from p has) [
        | inl later ↦ inl (or_right (same r.pattern p) (has_pattern table p) later)
        | inr here ↦ elim (next.from p here) [
          | inl is ↦ inl (or_left (same r.pattern p) (has_pattern table p)
              (ap (same r.pattern) (sym is) ∙ same_self r.pattern))
          | inr old ↦ inr old
        ]
      ];
    }

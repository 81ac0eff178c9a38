-- Laws of lineages, revocation and expiry: what they find and leave, and that a tree of tokens stays a tree.
use Rattle.std.specs.Prelude.{◌≡◌, ◌≢◌, ◌⊎◌, ◌∷◌, ◌||◌, if◌then◌else◌, ℕ, zero, suc, List, [], Bool, true, false, not}
use Rattle.broker_types.specs.Words.{cond, Option, Some, None, is_none, length, option_map, option_and_then, list_any}
use Rattle.broker_types.specs.Words.{list_all, lookup, len-entries, refl, sym, ◌∙◌, ap, subst, inl, inr, ltb-true}
use Rattle.broker_types.specs.Words.{lt-ltb, and_parts, and_from, or_right, false≢true, none-some, same_Some, Text}
use Rattle.broker_types.specs.Words.{same, get, len, entries, map_values, without, keep, Token, Tokens, climb, lineage}
use Rattle.broker_types.specs.Words.{is_under, ends_within, ParentsExist, ChainsEnd, outlasts, is_alive}
use Rattle.broker_types.specs.Words.{with_live_leases, alive_at, without_descendants, orphaned_by, without_parent}
use Rattle.broker_types.specs.Laws.{IsTree, OutlastsAbove}
use Rattle.broker_types.specs.TextLaws.{same_self, same_true, same_false}
use Rattle.broker_types.specs.MapLaws.{without_is, valued_is, valued_none, get-lookup, get-keep, get-without}
use Rattle.broker_types.specs.MapLaws.{get-map_values, same_map}
use Rattle.broker_types.specs.LineageLaws.{ends_above, ends_at, climb_above, climb_at, climb_none, climb_enough}
use Rattle.broker_types.specs.LineageLaws.{in_climb, ends_in_time, revoke_other}
use Rattle.broker_types.specs.SearchLaws.{kept_get}
use Rattle.broker_types.specs.OptionLaws.{found_or_not}

-- ---- lineages

-- a map with an entry is not empty
len_some : (ts : Tokens) (t : Text) (x : Token) → get ts t ≡ Some x → (n : ℕ) × (len ts ≡ suc n)
len_some ts t x is = let r = by (entries ts) (sym (get-lookup ts t) ∙ is) in (r.0, len-entries ts ∙ r.1)
  where
    by : (es : List (Text × Token)) → lookup (same t) es ≡ Some x → (n : ℕ) × (length es ≡ suc n)
    by [] e = absurd (none-some _ e)
    by (e ∷ es) h = (length es, refl)

climb_some : (n : ℕ) (ts : Tokens) (t : Text) (x : Token) → get ts t ≡ Some x
    → climb (suc n) ts t ≡ t ∷ climb_above n ts x.parent
climb_some n ts t x is = ap (λ o. climb_at n ts t o) is

ends_some : (n : ℕ) (ts : Tokens) (t : Text) (x : Token) → get ts t ≡ Some x
    → ends_within (suc n) ts t ≡ ends_above n ts x.parent
ends_some n ts t x is = ap (λ o. ends_at n ts o) is

-- an unknown token has no lineage
pub lineage_none : (ts : Tokens) (t : Text) → get ts t ≡ None → lineage ts t ≡ []
lineage_none ts t none = climb_none (len ts) ts t (ap is_none none)

lineage_some : (ts : Tokens) (t : Text) (x : Token) → get ts t ≡ Some x
    → (n : ℕ) × (len ts ≡ suc n) × (lineage ts t ≡ t ∷ climb_above n ts x.parent)
lineage_some ts t x is = let n = len_some ts t x is in (n.0, n.1, ap (λ k. climb k ts t) n.1 ∙ climb_some n.0 ts t x is)

-- the lineage of a token without parent is the token
pub lineage_orphan : (ts : Tokens) (t : Text) (x : Token) → get ts t ≡ Some x → x.parent ≡ None → lineage ts t ≡ t ∷ []
lineage_orphan ts t x is none = let r = lineage_some ts t x is in r.2 ∙ ap (λ o. t ∷ climb_above r.0 ts o) none

-- the lineage of another is the token and the lineage of its parent
pub lineage_child : (ts : Tokens) (t p : Text) (x : Token) → ChainsEnd ts → get ts t ≡ Some x → x.parent ≡ Some p
    → lineage ts t ≡ t ∷ lineage ts p
lineage_child ts t p x chains is parent =
    let r = lineage_some ts t x is in
    let here : ends_within (suc r.0) ts t ≡ true = subst (λ k. ends_within k ts t ≡ true) r.1 (chains t) in
    let above : ends_within r.0 ts p ≡ true =
    sym (ends_some r.0 ts t x is ∙ ap (λ o. ends_above r.0 ts o) parent) ∙ here in
    r.2 ∙ ap (λ o. t ∷ climb_above r.0 ts o) parent ∙ ap (λ l. t ∷ l) (climb_enough r.0 (len ts) ts p above (chains p))

-- a token is under itself
pub under_self : (ts : Tokens) (t : Text) → get ts t ≢ None → is_under ts t t ≡ true
under_self ts t ne = elim (found_or_not (get ts t)) [
  | inl none ↦ absurd (ne none)
  | inr x ↦ let r = lineage_some ts t x.0 x.1 in
      ap (list_any (same t)) r.2 ∙ ap (λ b. b || list_any (same t) (climb_above r.0 ts x.0.parent)) (same_self t)
]

-- what is under another is a token, and so is the other
pub under_tokens : (ts : Tokens) (t a : Text) → is_under ts t a ≡ true → (get ts t ≢ None) × (get ts a ≢ None)
under_tokens ts t a h = (
  λ none. absurd (false≢true (sym (ap (list_any (same a)) (lineage_none ts t none)) ∙ h)),
  in_climb (len ts) ts t a h,
)

under_child : (ts : Tokens) (t p a : Text) (x : Token) → ChainsEnd ts → get ts t ≡ Some x → x.parent ≡ Some p
    → is_under ts p a ≡ true → is_under ts t a ≡ true
under_child ts t p a x chains is parent h =
    ap (list_any (same a)) (lineage_child ts t p x chains is parent) ∙ or_right (same a t) _ h

-- ---- fewer tokens

-- each token of us is one of ts, with the same parent unless it has none
abbrev IsPruned : Tokens → Tokens → Type 0
IsPruned ts us =
    (t : Text) (y : Token) → get us t ≡ Some y
    → (x : Token) × (get ts t ≡ Some x) × ((y.parent ≡ x.parent) ⊎ (y.parent ≡ None))

pruned_ends : (n : ℕ) (ts us : Tokens) (t : Text) → IsPruned ts us → ends_within n ts t ≡ true
    → ends_within n us t ≡ true
pruned_ends zero ts us t pruned h = elim (found_or_not (get us t)) [
  | inl none ↦ ap is_none none
  | inr y ↦ absurd (false≢true (sym (ap is_none (pruned t y.0 y.1).1) ∙ h))
]
pruned_ends (suc n) ts us t pruned h = elim (found_or_not (get us t)) [
  | inl none ↦ ap (λ o. ends_at n us o) none
  | inr y ↦ let x = pruned t y.0 y.1 in
      ends_some n us t y.0 y.1 ∙ elim x.2 [
        | inr orphan ↦ ap (λ o. ends_above n us o) orphan
        | inl parent ↦ ap (λ o. ends_above n us o) parent
            ∙ elim (x.0.parent) as (λ o. ends_above n ts o ≡ true → ends_above n us o ≡ true) [
              | None ↦ λ _. refl
              | Some p ↦ λ e. pruned_ends n ts us p pruned e
            ] (sym (ends_some n ts t x.0 x.1) ∙ h)
      ]
]

pruned_chains : (ts us : Tokens) → IsPruned ts us → ChainsEnd ts → ChainsEnd us
pruned_chains ts us pruned chains t = ends_in_time us t (len ts) (pruned_ends (len ts) ts us t pruned (chains t))

-- tokens that keep their parents, whatever else of them changes, stay a tree
pub values_tree : (f : Text → Token → Token) (ts : Tokens) → ((q : Text) (x : Token) → (f q x).parent ≡ x.parent)
    → IsTree ts → IsTree (map_values f ts)
values_tree f ts same_parent tree = record {
  parents_exist = λ q p y is parent none.
      let x = valued_is f ts q y is in
      tree.parents_exist q p x.0 x.1
      (sym (same_parent q x.0) ∙ ap (λ (z : Token). z.parent) (sym x.2) ∙ parent) (valued_none f ts p none);
  chains_end =
      pruned_chains ts (map_values f ts)
      (λ q y is. let x = valued_is f ts q y is in
      (x.0, x.1, inl (ap (λ (z : Token). z.parent) x.2 ∙ same_parent q x.0)))
      tree.chains_end;
}

-- ---- revocation

-- revocation leaves a tree
pub revoke_tree : (ts : Tokens) (t : Text) → IsTree ts → IsTree (without_descendants ts t)
revoke_tree ts t tree = record {
  parents_exist = λ q p x is parent none.
      let k = kept_get (λ q. not (is_under ts q t)) ts q x is in
      elim (is_under ts p t) as (λ b. is_under ts p t ≡ b → ⊥) [
        | true ↦ λ u. absurd (false≢true (sym (ap not (under_child ts q p t x tree.chains_end k.0 parent u)) ∙ k.1))
        | false ↦ λ u. tree.parents_exist q p x k.0 parent (sym (revoke_other ts t p u) ∙ none)
      ] refl;
  chains_end =
      pruned_chains ts (without_descendants ts t)
      (λ q y is. (y, (kept_get (λ q. not (is_under ts q t)) ts q y is).0, inl refl)) tree.chains_end;
}

-- ---- revocation of one token

get-revoke_orphan : (ts : Tokens) (t q : Text)
    → get (without_parent ts t) q ≡ option_map (orphaned_by t) (cond (same q t) None (get ts q))
get-revoke_orphan ts t q = get-map_values _ _ q ∙ ap (option_map (orphaned_by t)) (get-without ts t q)

-- the revoked token is gone
pub orphan_gone : (ts : Tokens) (t : Text) → get (without_parent ts t) t ≡ None
orphan_gone ts t =
    get-revoke_orphan ts t t ∙ ap (λ b. option_map (orphaned_by t) (cond b None (get ts t))) (same_self t)

orphan_other : (ts : Tokens) (t q : Text) → q ≢ t → get (without_parent ts t) q ≡ option_map (orphaned_by t) (get ts q)
orphan_other ts t q ne =
    get-revoke_orphan ts t q ∙ ap (λ b. option_map (orphaned_by t) (cond b None (get ts q))) (same_false q t ne)

-- its children have no parent then
pub orphan_child : (ts : Tokens) (t q : Text) (x : Token) → q ≢ t → get ts q ≡ Some x → x.parent ≡ Some t
    → get (without_parent ts t) q ≡ Some (record x { parent = None })
orphan_child ts t q x ne is parent =
    orphan_other ts t q ne ∙ ap (option_map (orphaned_by t)) is
    ∙ ap (λ o. Some (record x { parent = option_and_then (λ p. if same p t then None else Some p) o })) parent
    ∙ ap (λ b. Some (record x { parent = if b then None else Some t })) (same_self t)

-- a token of another parent, or of none, is as it was
pub orphan_unrelated : (ts : Tokens) (t q : Text) (x : Token) → q ≢ t → get ts q ≡ Some x → x.parent ≢ Some t
    → get (without_parent ts t) q ≡ Some x
orphan_unrelated ts t q x ne is parent =
    orphan_other ts t q ne ∙ ap (option_map (orphaned_by t)) is
    ∙ ap (λ o. Some (record x { parent = o })) (by x.parent parent)
  where
    by : (o : Option Text) → o ≢ Some t → option_and_then (λ p. if same p t then None else Some p) o ≡ o
    by None h = refl
    by (Some p) h = ap (λ b. if b then None else Some p) (same_false p t (λ e. h (ap Some e)))

-- no token is new
pub orphan_none : (ts : Tokens) (t q : Text) → get ts q ≡ None → get (without_parent ts t) q ≡ None
orphan_none ts t q none =
    get-revoke_orphan ts t q ∙ ap (λ o. option_map (orphaned_by t) (cond (same q t) None o)) none
    ∙ elim (same q t) as (λ b. option_map (orphaned_by t) (cond b None None) ≡ None) [ true ↦ refl | false ↦ refl ]

-- an unknown token changes nothing
pub orphan_unknown : (ts : Tokens) (t : Text) → ParentsExist ts → get ts t ≡ None → without_parent ts t ≡ ts
orphan_unknown ts t stand none = same_map (without_parent ts t) ts (λ q. elim (found_or_not (get ts q)) [
  | inl nothing ↦ orphan_none ts t q nothing ∙ sym nothing
  | inr x ↦ orphan_unrelated ts t q x.0 (λ e. absurd (none-some _ (sym none ∙ ap (get ts) (sym e) ∙ x.1))) x.1
      (λ parent. stand q t x.0 x.1 parent none) ∙ sym x.1
])

-- a token that is left was there, with its parent unless that was revoked
pub orphaned_is : (ts : Tokens) (t q : Text) (y : Token) → get (without_parent ts t) q ≡ Some y
    → (x : Token) × (get ts q ≡ Some x) × (y ≡ orphaned_by t x)
orphaned_is ts t q y is =
    let x = valued_is (λ q. orphaned_by t) (without ts t) q y is in (x.0, (without_is ts t q x.0 x.1).1, x.2)

parent_left : (t p : Text) (o : Option Text) → option_and_then (λ p. if same p t then None else Some p) o ≡ Some p
    → (o ≡ Some p) × (same p t ≡ false)
parent_left t p None e = absurd (none-some _ e)
parent_left t p (Some r) e =
    elim (same r t)
    as (λ b. same r t ≡ b → (if b then None else Some r) ≡ Some p → (Some r ≡ Some p) × (same p t ≡ false)) [
      | true ↦ λ _ g. absurd (none-some _ g)
      | false ↦ λ h g. (g, subst (λ z. same z t ≡ false) (same_Some _ _ g) h)
    ] refl e

parent_kept : (t : Text) (o : Option Text)
    → (option_and_then (λ p. if same p t then None else Some p) o ≡ o)
    ⊎ (option_and_then (λ p. if same p t then None else Some p) o ≡ None)
parent_kept t None = inl refl
parent_kept t (Some r) =
    elim (same r t)
    as (λ b. ((if b then None else Some r) ≡ Some r) ⊎ ((if b then None else Some r) ≡ None)) [
      | true ↦
          inr refl
      | false ↦ inl refl
    ]

-- revocation of one token leaves a tree
pub orphan_tree : (ts : Tokens) (t : Text) → IsTree ts → IsTree (without_parent ts t)
orphan_tree ts t tree = record {
  parents_exist = λ q p y is parent none.
      let x = orphaned_is ts t q y is in
      let left = parent_left t p x.0.parent (ap (λ (z : Token). z.parent) (sym x.2) ∙ parent) in
      let there : get (without_parent ts t) p ≡ option_map (orphaned_by t) (get ts p) =
      get-revoke_orphan ts t p ∙ ap (λ b. option_map (orphaned_by t) (cond b None (get ts p))) left.1 in
      elim (found_or_not (get ts p)) [
        | inl nothing ↦ tree.parents_exist q p x.0 x.1 left.0 nothing
        | inr z ↦ absurd (none-some _ (sym none ∙ there ∙ ap (option_map (orphaned_by t)) z.1))
      ];
  chains_end = pruned_chains ts (without_parent ts t)
      (λ q y is. let x = orphaned_is ts t q y is in (
        x.0,
        x.1,
        elim (parent_kept t x.0.parent) [
          | inl e ↦ inl (ap (λ (z : Token). z.parent) x.2 ∙ e)
          | inr e ↦ inr (ap (λ (z : Token). z.parent) x.2 ∙ e)
        ],
      ))
      tree.chains_end;
}

-- ---- expiry

get-alive_at : (now : ℕ) (ts : Tokens) (t : Text)
    → get (alive_at now ts) t ≡ option_map (with_live_leases now) (cond (is_alive now ts t) (get ts t) None)
get-alive_at now ts t = get-map_values _ _ t ∙ ap (option_map (with_live_leases now)) (get-keep (is_alive now ts) ts t)

-- a token that is alive was there, with all its leases
pub alive_is : (now : ℕ) (ts : Tokens) (t : Text) (y : Token) → get (alive_at now ts) t ≡ Some y
    → (x : Token) × (get ts t ≡ Some x) × (is_alive now ts t ≡ true) × (y ≡ with_live_leases now x)
alive_is now ts t y is =
    let x = valued_is (λ t. with_live_leases now) (keep (is_alive now ts) ts) t y is in
    let kept = kept_get (is_alive now ts) ts t x.0 x.1 in
    (x.0, kept.0, kept.1, x.2)

all_at : (f : Text → Bool) (xs : List Text) (a : Text) → list_all f xs ≡ true → list_any (same a) xs ≡ true → f a ≡ true
all_at f [] a h u = absurd (false≢true u)
all_at f (x ∷ xs) a h u =
    elim (same a x) as (λ b. same a x ≡ b → (b || list_any (same a) xs) ≡ true → f a ≡ true) [
      | true ↦ λ e _. ap f (same_true a x e) ∙ (and_parts (f x) (list_all f xs) h).0
      | false ↦ λ _ v. all_at f xs a (and_parts (f x) (list_all f xs) h).1 v
    ] refl u

all_from : (f : Text → Bool) (xs : List Text) → ((a : Text) → list_any (same a) xs ≡ true → f a ≡ true)
    → list_all f xs ≡ true
all_from f [] h = refl
all_from f (x ∷ xs) h =
    and_from (f x) (list_all f xs) (h x (ap (λ b. b || list_any (same x) xs) (same_self x)))
    (all_from f xs (λ a u. h a (or_right (same a x) _ u)))

abbrev outlasts_end : ℕ → Tokens → Text → Bool
outlasts_end now ts a = outlasts now (option_and_then (λ (x : Token). x.ends) (get ts a))

-- what is left outlasts now, as does all above it
pub left_outlasts : (now : ℕ) (ts : Tokens) (t : Text) → get (alive_at now ts) t ≢ None → OutlastsAbove now ts t
left_outlasts now ts t ne a y m u is ends = elim (found_or_not (get (alive_at now ts) t)) [
  | inl none ↦ absurd (ne none)
  | inr z ↦
      let alive = (alive_is now ts t z.0 z.1).2 in
      let at : outlasts_end now ts a ≡ true = all_at (outlasts_end now ts) (lineage ts t) a alive u in
      ltb-true now m (sym (ap (λ o. outlasts now (option_and_then (λ (x : Token). x.ends) o)) is
      ∙ ap (outlasts now) ends)
      ∙ at)
]

-- a token that outlasts now, as does all above it, is left, with its leases that do
pub outlasting_is_left : (now : ℕ) (ts : Tokens) (t : Text) (x : Token) → get ts t ≡ Some x → OutlastsAbove now ts t
    → get (alive_at now ts) t ≡ Some (with_live_leases now x)
outlasting_is_left now ts t x is above =
    get-alive_at now ts t ∙ ap (λ b. option_map (with_live_leases now) (cond b (get ts t) None)) alive
    ∙ ap (option_map (with_live_leases now)) is
  where
    by_end : (a : Text) (y : Token) → is_under ts t a ≡ true → get ts a ≡ Some y → (o : Option ℕ) → y.ends ≡ o
        → outlasts now o ≡ true
    by_end a y u at None e = refl
    by_end a y u at (Some m) e = lt-ltb now m (above a y m u at e)

    one : (a : Text) → is_under ts t a ≡ true → outlasts_end now ts a ≡ true
    one a u = elim (found_or_not (get ts a)) [
      | inl none ↦ ap (λ o. outlasts now (option_and_then (λ (x : Token). x.ends) o)) none
      | inr y ↦ ap (λ o. outlasts now (option_and_then (λ (x : Token). x.ends) o)) y.1
          ∙ by_end a y.0 u y.1 y.0.ends refl
    ]

    alive : is_alive now ts t ≡ true
    alive = all_from (outlasts_end now ts) (lineage ts t) one

-- expiry leaves a tree
pub alive_tree : (now : ℕ) (ts : Tokens) → IsTree ts → IsTree (alive_at now ts)
alive_tree now ts tree = record {
  parents_exist = λ q p y is parent none.
      let x = alive_is now ts q y is in
      let above : x.0.parent ≡ Some p = ap (λ (z : Token). z.parent) (sym x.3) ∙ parent in
      let line : list_all (outlasts_end now ts) (q ∷ lineage ts p) ≡ true =
      ap (list_all (outlasts_end now ts)) (sym (lineage_child ts q p x.0 tree.chains_end x.1 above)) ∙ x.2 in
      let alive : is_alive now ts p ≡ true = (and_parts (outlasts_end now ts q) (is_alive now ts p) line).1 in
      elim (found_or_not (get ts p)) [
        | inl nothing ↦ tree.parents_exist q p x.0 x.1 above nothing
        | inr z ↦ absurd
            (none-some _
            (sym none ∙ get-alive_at now ts p
            ∙ ap (λ b. option_map (with_live_leases now) (cond b (get ts p) None)) alive
            ∙ ap (option_map (with_live_leases now)) z.1))
      ];
  chains_end =
      pruned_chains ts (alive_at now ts)
      (λ q y is. let x = alive_is now ts q y is in (x.0, x.1, inl (ap (λ (z : Token). z.parent) x.3))) tree.chains_end;
}

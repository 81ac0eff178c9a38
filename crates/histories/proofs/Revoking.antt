-- Laws of what a revocation leaves.
use Rattle.std.proofs.Common.{◌≡◌, ◌≢◌, ◌&&◌, ◌||◌, ◌⊎◌, ◌∷◌, if◌then◌else◌, ◌==◌}
use Rattle.broker_model.specs.Words.{IsDistinct, ChainsEnd, lineage, without_descendants, without_parent, climb_enough}
use Rattle.broker_model.specs.Words.{climb_distinct, is_under_trans, revoke_other, lineage_child, lineage_orphan}
use Rattle.broker_model.specs.Words.{orphan_child, orphan_gone, orphan_none, orphan_tree, orphan_unrelated}
use Rattle.broker_model.specs.Words.{orphaned_is, revoke_tree}
use Rattle.histories.specs.Words.{ℕ, zero, suc, Bool, true, false, not, cond, Option, Some, None, is_none}
use Rattle.histories.specs.Words.{option_and_then, List, [], AllByRecursion, list_any, option_map_or, refl, sym, ◌∙◌}
use Rattle.histories.specs.Words.{ap, subst, inl, inr, and_parts, false≢true, false_from_ne_true, none-some, same_Some}
use Rattle.histories.specs.Words.{Text, same, get, len, Token, Tokens, climb, ends_within, is_under, climb_above}
use Rattle.histories.specs.Words.{climb_at, ends_above, ends_at, get-revoke, IsTree, Broker, revoke, found_or_not}
use Rattle.histories.specs.Words.{end_spent, is_spent, same_self, same_true, under_self, under_tokens, revoke_under}
use Rattle.histories.specs.Words.{EndsWithCaller, has_no_use, left_by_caller}

-- ---- lineages of what is left

-- tokens that are left, with all that are not under t as they were
module _ (ts left : Tokens) (t : Text) (tree : IsTree ts) (keeps : (q : Text) → is_under ts q t ≡ false
    → get left q ≡ get ts q)
    (ends : ChainsEnd left) where
  -- the parent of what is not under t is not under t
  parent_apart : (q p : Text) (x : Token) → is_under ts q t ≡ false → get ts q ≡ Some x → x.parent ≡ Some p
      → is_under ts p t ≡ false
  parent_apart q p x apart is parent =
      false_from_ne_true (is_under ts p t) (λ u. false≢true (sym apart
      ∙ ap (list_any (same t)) (lineage_child ts q p x tree.chains_end is parent)
      ∙ elim (same t q) as (λ v. (v || is_under ts p t) ≡ true) [ true ↦ refl | false ↦ u ]))

  same_climb : (n : ℕ) (q : Text) → is_under ts q t ≡ false → climb n left q ≡ climb n ts q
  same_climb zero q apart = refl
  same_climb (suc n) q apart =
      ap (climb_at n left q) (keeps q apart)
      ∙ elim (get ts q) as (λ o. get ts q ≡ o → climb_at n left q o ≡ climb_at n ts q o) [
        | None ↦ λ _. refl
        | Some x ↦ λ is. ap (λ l. q ∷ l) (elim (x.parent) as (λ o. x.parent ≡ o
            → climb_above n left o ≡ climb_above n ts o) [
              | None ↦ λ _. refl
              | Some p ↦ λ parent. same_climb n p (parent_apart q p x apart is parent)
            ] refl)
      ] refl

  same_ends : (n : ℕ) (q : Text) → is_under ts q t ≡ false → ends_within n left q ≡ ends_within n ts q
  same_ends zero q apart = ap is_none (keeps q apart)
  same_ends (suc n) q apart =
      ap (ends_at n left) (keeps q apart)
      ∙ elim (get ts q) as (λ o. get ts q ≡ o → ends_at n left o ≡ ends_at n ts o) [
        | None ↦ λ _. refl
        | Some x ↦ λ is. elim (x.parent) as (λ o. x.parent ≡ o → ends_above n left o ≡ ends_above n ts o) [
          | None ↦ λ _. refl
          | Some p ↦ λ parent. same_ends n p (parent_apart q p x apart is parent)
        ] refl
      ] refl

  -- what is left has the same above it as before
  pub same_under : (q c : Text) → is_under ts q t ≡ false → is_under left q c ≡ is_under ts q c
  same_under q c apart =
      ap (list_any (same c))
      (climb_enough (len left) (len ts) left q (ends q) (same_ends (len ts) q apart ∙ tree.chains_end q)
      ∙ same_climb (len ts) q apart)

  -- so what a caller that has spent its last use leaves of it is the same
  pub same_left : (c q : Text) → is_under ts q t ≡ false → left_by_caller left c q ≡ left_by_caller ts c q
  same_left c q apart =
      ap (λ o. if has_no_use left c && is_under left q c then None else o) (keeps q apart)
      ∙ ap (λ v. if has_no_use left c && v then None else get ts q) (same_under q c apart)
      ∙ elim (is_under ts q c) as
      (λ v. is_under ts q c ≡ v → (if has_no_use left c && v then None else get ts q)
      ≡ (if has_no_use ts c && v then None else get ts q)) [
        | true ↦ λ under. ap (λ (o : Option Token). if option_map_or is_spent o false && true then None else get ts q)
            (keeps c (false_from_ne_true (is_under ts c t)
            (λ u. false≢true (sym apart ∙ is_under_trans ts q c t tree.chains_end under u))))
        | false ↦ λ _. by (has_no_use left c) (has_no_use ts c)
      ] refl
    where
      by : (v w : Bool) → (if v && false then None else get ts q) ≡ (if w && false then None else get ts q)
      by true true = refl
      by true false = refl
      by false true = refl
      by false false = refl

-- a token that is not under t is no child of it
orphans_apart : (ts : Tokens) (t : Text) → IsTree ts → (q : Text) → is_under ts q t ≡ false
    → get (without_parent ts t) q ≡ get ts q
orphans_apart ts t tree q apart = elim (found_or_not (get ts q)) [
  | inl none ↦ orphan_none ts t q none ∙ sym none
  | inr x ↦
      orphan_unrelated ts t q x.0
      (λ e. false≢true (sym apart ∙ ap (λ u. is_under ts u t) e
      ∙ under_self ts t (λ none. none-some _ (sym none ∙ ap (get ts) (sym e) ∙ x.1)))) x.1
      (λ parent. false≢true (sym apart ∙ ap (list_any (same t)) (lineage_child ts q t x.0 tree.chains_end x.1 parent)
      ∙ elim (same t q) as (λ v. (v || is_under ts t t) ≡ true) [
        | true ↦ refl
        | false ↦ under_self ts t (tree.parents_exist q t x.0 x.1 parent)
      ]))
      ∙ sym x.1
]

-- ---- the end of the caller

-- what the end of a spent caller leaves of each token
pub end_spent_leaves : (b : Broker) (c q : Text) → get (end_spent b (Some c)).tokens q ≡ left_by_caller b.tokens c q
end_spent_leaves b c q =
    elim (has_no_use b.tokens c) as
    (λ v. get (if v then revoke b c else b).tokens q ≡ (if v && is_under b.tokens q c then None else get b.tokens q)) [
      | true ↦ get-revoke b.tokens c q ∙ elim (is_under b.tokens q c) as
          (λ u. cond (not u) (get b.tokens q) None ≡ (if u then None else get b.tokens q)) [
            | true ↦ refl
            | false ↦ refl
          ]
      | false ↦ refl
    ]

-- the tokens of d are those of b without t and all under it; the caller c may have spent its last use
module _ (b d : Broker) (t c : Text) (is : d.tokens ≡ without_descendants b.tokens t) where
  -- nothing under t is left
  pub revoked_are_gone : (q : Text) → is_under b.tokens q t ≡ true → get (end_spent d (Some c)).tokens q ≡ None
  revoked_are_gone q under =
      let ts = without_descendants b.tokens t in
      end_spent_leaves d c q ∙ ap (λ us. left_by_caller us c q) is
      ∙ ap (λ o. if has_no_use ts c && is_under ts q c then None else o) (revoke_under b.tokens t q under)
      ∙ elim (has_no_use ts c && is_under ts q c) as (λ v. ◌≡◌ {A = Option Token} (if v then None else None) None) [
        | true ↦ refl
        | false ↦ refl
      ]

  -- the others are as they were, but for the end of the caller
  pub others_are_left : IsTree b.tokens → (q : Text) → is_under b.tokens q t ≡ false
      → get (end_spent d (Some c)).tokens q ≡ left_by_caller b.tokens c q
  others_are_left tree q apart =
      end_spent_leaves d c q ∙ ap (λ us. left_by_caller us c q) is
      ∙ same_left b.tokens (without_descendants b.tokens t) t tree (revoke_other b.tokens t)
      (revoke_tree b.tokens t tree).chains_end c q apart

-- ---- of one token

-- the parent of a token that is left was its parent, and is not t
parent_left : (t p : Text) (o : Option Text) → option_and_then (λ r. if same r t then None else Some r) o ≡ Some p
    → (o ≡ Some p) × (p ≢ t)
parent_left t p None e = absurd (none-some _ e)
parent_left t p (Some r) e =
    elim (same r t) as (λ b. same r t ≡ b → (if b then None else Some r) ≡ Some p → (Some r ≡ Some p) × (p ≢ t)) [
      | true ↦ λ _ g. absurd (none-some _ g)
      | false ↦ λ apart g. (
        g,
        λ is. false≢true (sym apart ∙ ap (λ z. same z t) (same_Some _ _ g ∙ is) ∙ same_self t),
      )
    ] refl e

module _ (ts : Tokens) (t : Text) (tree : IsTree ts) where
  abbrev left_alone : Tokens
  left_alone = without_parent ts t

  -- the parent of what is under t, apart from it, is under t
  parent_under : (q p : Text) (x : Token) → q ≢ t → is_under ts q t ≡ true → get ts q ≡ Some x → x.parent ≡ Some p
      → is_under ts p t ≡ true
  parent_under q p x other under is parent =
      elim (same t q) as (λ v. same t q ≡ v → (v || is_under ts p t) ≡ true → is_under ts p t ≡ true) [
        | true ↦ λ e _. absurd (other (sym (same_true t q e)))
        | false ↦ λ _ h. h
      ] refl (sym (ap (list_any (same t)) (lineage_child ts q p x tree.chains_end is parent)) ∙ under)

  -- what is above a token that is left, where that was under t, was above it and under t
  above_left : (n : ℕ) (q c : Text) → q ≢ t → is_under ts q t ≡ true → list_any (same c) (climb n left_alone q) ≡ true
      → (is_under ts c t ≡ true) × (is_under ts q c ≡ true)
  above_left zero q c other under above = absurd (false≢true above)
  above_left (suc n) q c other under above = elim (found_or_not (get left_alone q)) [
    | inl none ↦ absurd (false≢true (sym (ap (λ o. list_any (same c) (climb_at n left_alone q o)) none) ∙ above))
    | inr y ↦
        let x = orphaned_is ts t q y.0 y.1 in
        let here : (same c q || list_any (same c) (climb_above n left_alone y.0.parent)) ≡ true =
        sym (ap (λ o. list_any (same c) (climb_at n left_alone q o)) y.1) ∙ above in
        elim (same c q) as
        (λ v. same c q ≡ v → (v || list_any (same c) (climb_above n left_alone y.0.parent)) ≡ true
        → (is_under ts c t ≡ true) × (is_under ts q c ≡ true)) [
          | true ↦ λ e _.
              let is_q : c ≡ q = same_true c q e in (
                subst (λ u. is_under ts u t ≡ true) (sym is_q) under,
                subst (λ u. is_under ts q u ≡ true) (sym is_q)
                    (under_self ts q (λ none. none-some _ (sym none ∙ x.1))),
              )
          | false ↦ λ apart rest.
              elim (y.0.parent) as
              (λ o. y.0.parent ≡ o → list_any (same c) (climb_above n left_alone o) ≡ true
              → (is_under ts c t ≡ true) × (is_under ts q c ≡ true)) [
                | None ↦ λ _ h. absurd (false≢true h)
                | Some p ↦ λ parent h.
                    let was = parent_left t p x.0.parent (ap (λ (z : Token). z.parent) (sym x.2) ∙ parent) in
                    let more = above_left n p c was.1 (parent_under q p x.0 other under x.1 was.0) h in (
                      more.0,
                      ap (list_any (same c)) (lineage_child ts q p x.0 tree.chains_end x.1 was.0)
                          ∙ ap (λ v. v || is_under ts p c) apart ∙ more.1,
                    )
              ] refl rest
        ] refl here
  ]

-- none of those that differ from it is it
none_among : (c : Text) (l : List Text) → AllByRecursion (λ y. same c y ≡ false) l → list_any (same c) l ≡ true → ⊥
none_among c [] all among = false≢true among
none_among c (y ∷ ys) (apart, rest) among =
    none_among c ys rest (ap (λ v. v || list_any (same c) ys) (sym apart) ∙ among)

module _ (ts : Tokens) (t : Text) (tree : IsTree ts) where
  -- two tokens that are under each other are one
  not_both_ways : (c : Text) → c ≢ t → is_under ts c t ≡ true → is_under ts t c ≡ true → ⊥
  unfolding IsDistinct
  not_both_ways c apart down up = elim (found_or_not (get ts c)) [
    | inl none ↦ (under_tokens ts c t down).0 none
    | inr x ↦
        elim (x.0.parent) as (λ o. x.0.parent ≡ o → ⊥) [
          | None ↦ λ none.
              let alone : (same t c || false) ≡ true = sym (ap (list_any (same t)) (lineage_orphan ts c x.0 x.1 none))
              ∙ down in
              elim (same t c) as (λ v. same t c ≡ v → (v || false) ≡ true → ⊥) [
                | true ↦ λ e _. apart (sym (same_true t c e))
                | false ↦ λ _ e. false≢true e
              ] refl alone
          | Some p ↦ λ parent.
              let above : is_under ts p t ≡ true = parent_under ts t tree c p x.0 apart down x.1 parent in
              let again : is_under ts p c ≡ true = is_under_trans ts p t c tree.chains_end above up in
              let distinct : IsDistinct same (c ∷ lineage ts p) =
              subst (IsDistinct same) (lineage_child ts c p x.0 tree.chains_end x.1 parent)
              (climb_distinct (len ts) ts c (tree.chains_end c)) in
              none_among c (lineage ts p) distinct.0 again
        ] refl
  ]

  -- a token that is left has as many uses as before
  left_there : (q : Text) (x : Token) → q ≢ t → get ts q ≡ Some x
      → (y : Token) × (get (left_alone ts t tree) q ≡ Some y) × (y.uses_left ≡ x.uses_left)
  left_there q x other is =
      elim (x.parent) as
      (λ o. x.parent ≡ o → (y : Token) × (get (left_alone ts t tree) q ≡ Some y) × (y.uses_left ≡ x.uses_left)) [
        | None ↦ λ none. (x, orphan_unrelated ts t q x other is (λ e. none-some _ (sym none ∙ e)), refl)
        | Some r ↦ λ parent.
            elim (same r t) as
            (λ v. same r t ≡ v → (y : Token) × (get (left_alone ts t tree) q ≡ Some y) × (y.uses_left ≡ x.uses_left)) [
              | true ↦ λ e. (
                record x { parent = None },
                orphan_child ts t q x other is (parent ∙ ap Some (same_true r t e)),
                refl,
              )
              | false ↦ λ e. (
                x,
                orphan_unrelated ts t q x other is
                    (λ same_parent. false≢true (sym e ∙ ap (λ z. same z t) (same_Some _ _ (sym parent ∙ same_parent))
                    ∙ same_self t)),
                refl,
              )
            ] refl
      ] refl

  -- what is under a token that is under t, apart from it, still is
  still_under : (n : ℕ) (q c : Text) → c ≢ t → is_under ts c t ≡ true → ends_within n ts q ≡ true
      → list_any (same c) (climb n ts q) ≡ true → is_under (left_alone ts t tree) q c ≡ true
  still_under zero q c apart down ends above = absurd (false≢true above)
  still_under (suc n) q c apart down ends above = elim (found_or_not (get ts q)) [
    | inl none ↦ absurd (false≢true (sym (ap (λ o. list_any (same c) (climb_at n ts q o)) none) ∙ above))
    | inr x ↦
        let here : (same c q || list_any (same c) (climb_above n ts x.0.parent)) ≡ true =
        sym (ap (λ o. list_any (same c) (climb_at n ts q o)) x.1) ∙ above in
        let ends_here : ends_above n ts x.0.parent ≡ true = sym (ap (ends_at n ts) x.1) ∙ ends in
        elim (same c q) as
        (λ v. same c q ≡ v → (v || list_any (same c) (climb_above n ts x.0.parent)) ≡ true
        → is_under (left_alone ts t tree) q c ≡ true) [
          | true ↦ λ e _.
              let is_q : c ≡ q = same_true c q e in
              let there = left_there q x.0 (λ is_t. apart (is_q ∙ is_t)) x.1 in
              subst (λ u. is_under (left_alone ts t tree) q u ≡ true) (sym is_q)
              (under_self (left_alone ts t tree) q (λ none. none-some _ (sym none ∙ there.1)))
          | false ↦ λ other rest.
              elim (x.0.parent) as
              (λ o. x.0.parent ≡ o → ends_above n ts o ≡ true → list_any (same c) (climb_above n ts o) ≡ true
              → is_under (left_alone ts t tree) q c ≡ true) [
                | None ↦ λ _ _ h. absurd (false≢true h)
                | Some p ↦ λ parent fits h.
                    let up : is_under ts p c ≡ true =
                    ap (list_any (same c)) (climb_enough (len ts) n ts p (tree.chains_end p) fits) ∙ h in
                    let q_up : is_under ts q c ≡ true =
                    ap (list_any (same c)) (lineage_child ts q p x.0 tree.chains_end x.1 parent)
                    ∙ ap (λ v. v || is_under ts p c) other ∙ up in
                    let not_t : q ≢ t = λ e. not_both_ways c apart down (subst (λ u. is_under ts u c ≡ true) e q_up) in
                    let not_child : p ≢ t =
                    λ e. not_both_ways c apart down (subst (λ u. is_under ts u c ≡ true) e up) in
                    let there : get (left_alone ts t tree) q ≡ Some x.0 =
                    orphan_unrelated ts t q x.0 not_t x.1 (λ e. not_child (same_Some _ _ (sym parent ∙ e))) in
                    ap (list_any (same c)) (lineage_child (left_alone ts t tree) q p x.0
                    (orphan_tree ts t tree).chains_end there parent)
                    ∙ ap (λ v. v || is_under (left_alone ts t tree) p c) other
                    ∙ still_under n p c apart down fits h
              ] refl ends_here rest
        ] refl here
  ]

module _ (b d : Broker) (t c : Text) (is_left : d.tokens ≡ without_parent b.tokens t) where
  -- it is gone
  pub orphaned_is_gone : get (end_spent d (Some c)).tokens t ≡ None
  orphaned_is_gone =
      let ts = without_parent b.tokens t in
      end_spent_leaves d c t ∙ ap (λ us. left_by_caller us c t) is_left
      ∙ ap (λ o. if has_no_use ts c && is_under ts t c then None else o) (orphan_gone b.tokens t)
      ∙ elim (has_no_use ts c && is_under ts t c) as (λ v. ◌≡◌ {A = Option Token} (if v then None else None) None) [
        | true ↦ refl
        | false ↦ refl
      ]

  -- its children have no parent, but for a caller that has spent its last use
  pub children_are_orphans : (q : Text) (x : Token) → q ≢ t → get b.tokens q ≡ Some x → x.parent ≡ Some t
      → (q ≢ c) ⊎ (has_no_use b.tokens c ≡ false)
      → get (end_spent d (Some c)).tokens q ≡ Some (record x { parent = None })
  children_are_orphans q x apart is parent free =
      let ts = without_parent b.tokens t in
      let child : get ts q ≡ Some (record x { parent = None }) = orphan_child b.tokens t q x apart is parent in
      end_spent_leaves d c q ∙ ap (λ us. left_by_caller us c q) is_left
      ∙ ap (λ v. if has_no_use ts c && v then None else get ts q)
      (ap (list_any (same c)) (lineage_orphan ts q (record x { parent = None }) child refl))
      ∙ ap (λ o. if has_no_use ts c && (same c q || false) then None else o) child
      ∙ elim free [
        | inl other ↦ ap (λ v. if has_no_use ts c && (v || false) then None else Some (record x { parent = None }))
            (false_from_ne_true (same c q) (λ e. other (sym (same_true c q e))))
            ∙ elim (has_no_use ts c) as (λ v. (if v && false then None else Some (record x { parent = None }))
            ≡ Some (record x { parent = None })) [
              | true ↦ refl
              | false ↦ refl
            ]
        | inr uses ↦ ap (λ v. if v && (same c q || false) then None else Some (record x { parent = None }))
            (uses_left ts uses)
      ]
    where
      uses_left : (ts : Tokens) → has_no_use b.tokens c ≡ false → has_no_use (without_parent b.tokens t) c ≡ false
      uses_left ts uses = elim (found_or_not (get (without_parent b.tokens t) c)) [
        | inl none ↦ ap (λ (o : Option Token). option_map_or is_spent o false) none
        | inr y ↦
            let z = orphaned_is b.tokens t c y.0 y.1 in
            ap (λ (o : Option Token). option_map_or is_spent o false) (y.1 ∙ ap Some z.2)
            ∙ sym (ap (λ (o : Option Token). option_map_or is_spent o false) z.1) ∙ uses
      ]

  -- a caller without uses left, which is left, was there without uses left
  no_use_before : has_no_use (without_parent b.tokens t) c ≡ true → (has_no_use b.tokens c ≡ true) × (c ≢ t)
  no_use_before none_left = elim (found_or_not (get (without_parent b.tokens t) c)) [
    | inl none ↦ absurd (false≢true (sym (ap (λ (o : Option Token). option_map_or is_spent o false) none) ∙ none_left))
    | inr y ↦
        let z = orphaned_is b.tokens t c y.0 y.1 in (
          ap (λ (o : Option Token). option_map_or is_spent o false) z.1 ∙ ap is_spent (sym z.2)
              ∙ sym (ap (λ (o : Option Token). option_map_or is_spent o false) y.1) ∙ none_left,
          λ is. none-some _ (sym (orphan_gone b.tokens t) ∙ ap (get (without_parent b.tokens t)) (sym is) ∙ y.1),
        )
  ]

  -- a token further below it is as it was, unless it ends with the caller
  pub below_are_left : IsTree b.tokens → (q : Text) (x : Token) → q ≢ t → is_under b.tokens q t ≡ true
      → get b.tokens q ≡ Some x
      → x.parent ≢ Some t → (EndsWithCaller b.tokens c t q → ⊥) → get (end_spent d (Some c)).tokens q ≡ Some x
  below_are_left tree q x other under is parent stays =
      let ts = without_parent b.tokens t in
      let off : (has_no_use ts c && is_under ts q c) ≡ false =
      false_from_ne_true (has_no_use ts c && is_under ts q c) (λ on.
      let both = and_parts (has_no_use ts c) (is_under ts q c) on in
      let spent = no_use_before both.0 in
      let above = above_left b.tokens t tree (len ts) q c other under both.1 in
      stays (record { spent = spent.0; under_caller = above.1; caller_under = above.0; apart = spent.1 })) in
      end_spent_leaves d c q ∙ ap (λ us. left_by_caller us c q) is_left
      ∙ ap (λ v. if v then None else get ts q) off ∙ orphan_unrelated b.tokens t q x other is parent

  -- one that does end with the caller is gone
  pub below_are_gone : (tree : IsTree b.tokens) (q : Text) → EndsWithCaller b.tokens c t q
      → get (end_spent d (Some c)).tokens q ≡ None
  below_are_gone tree q ends =
      let ts = without_parent b.tokens t in
      let under : is_under ts q c ≡ true =
      still_under b.tokens t tree (len b.tokens) q c ends.apart ends.caller_under
      (tree.chains_end q) ends.under_caller in
      let spent : has_no_use ts c ≡ true = elim (found_or_not (get b.tokens c)) [
        | inl none ↦ absurd (false≢true (sym (ap (λ (o : Option Token). option_map_or is_spent o false) none)
            ∙ ends.spent))
        | inr x ↦
            let y = left_there b.tokens t tree c x.0 ends.apart x.1 in
            ap (λ (o : Option Token). option_map_or is_spent o false) y.1
            ∙ ap (λ u. option_map_or (λ n. n == 0) u false) y.2
            ∙ sym (ap (λ (o : Option Token). option_map_or is_spent o false) x.1) ∙ ends.spent
      ] in
      end_spent_leaves d c q ∙ ap (λ us. left_by_caller us c q) is_left
      ∙ ap (λ v. if v && is_under ts q c then None else get ts q) spent
      ∙ ap (λ v. if v then None else get ts q) under

  -- a token that is not under it is as it was, but for the end of the caller
  pub others_stay : IsTree b.tokens → (q : Text) → is_under b.tokens q t ≡ false
      → get (end_spent d (Some c)).tokens q ≡ left_by_caller b.tokens c q
  others_stay tree q apart =
      end_spent_leaves d c q ∙ ap (λ us. left_by_caller us c q) is_left
      ∙ same_left b.tokens (without_parent b.tokens t) t tree (orphans_apart b.tokens t tree)
      (orphan_tree b.tokens t tree).chains_end c q apart

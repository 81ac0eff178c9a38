-- The children of keys in order are the set of them.
use Rattle.std.proofs.Common.{◌≡◌, ◌-◌, ◌⊎◌, ◌==◌, ◌∷◌, ◌++◌, if◌then◌else◌, List, [], map, filter, drop, length, true}
use Rattle.records.specs.Words.{slice_get, nat_eq, false, cond, Some, ⊤, Less, Equal, Greater, starts_with, nat_cmp}
use Rattle.records.specs.Words.{is_eq, ordering_then, tied_itself, nat_list_cmp_total, is_sorted, below_all, by_order}
use Rattle.records.specs.Words.{refl, sym, ◌∙◌, ap, append_assoc, arith, inl, inr, length-append, get_or-append_seam}
use Rattle.records.specs.Words.{and_parts, nil_from_length, slice_get-get_or, Text, text_cmp, same, same-text_cmp}
use Rattle.records.specs.Words.{same_self, is_less, child, below, children, children_in_order, member, set_of, is_text}
use Rattle.records.specs.Words.{push_each, slash, after_prefix, begun}
use Rattle.std.specs.FinMap as fin
use Rattle.std.specs.FinMap.{put}

-- ---- texts one after another, each once where equal ones stand together

abbrev once_after : Text → List Text → List Text
once_after last [] = []
once_after last (t ∷ texts) = if same last t then once_after last texts else t ∷ once_after t texts

pub last_is : (before : List Text) (last : Text)
    → slice_get (before ++ last ∷ []) (length (before ++ last ∷ []) - 1) ≡ Some last
last_is before last =
    let long : length (before ++ last ∷ []) - 1 ≡ length before = omega (arith, length-append before (last ∷ [])) in
    ap (slice_get (before ++ last ∷ [])) long
    ∙ slice_get-get_or (before ++ last ∷ []) (length before) last (omega (arith, length-append before (last ∷ [])))
    ∙ ap Some (get_or-append_seam before last [] last)

push_each-after : (before : List Text) (last : Text) (texts : List Text)
    → push_each (before ++ last ∷ []) texts ≡ before ++ last ∷ once_after last texts
push_each-after before last [] = refl
push_each-after before last (t ∷ texts) =
    ap (λ o. push_each (if is_text t o then before ++ last ∷ [] else (before ++ last ∷ []) ++ t ∷ []) texts)
    (last_is before last)
    ∙ elim (same last t) as (λ v. push_each (if v then before ++ last ∷ [] else (before ++ last ∷ []) ++ t ∷ []) texts
    ≡ before ++ last ∷ (if v then once_after last texts else t ∷ once_after t texts)) [
      | true ↦ push_each-after before last texts
      | false ↦ push_each-after (before ++ last ∷ []) t texts ∙ append_assoc before (last ∷ []) (t ∷ once_after t texts)
    ]

-- ---- texts that rise, or stay

abbrev Rises : Text → List Text → Type 0
Rises last [] = ⊤
Rises last (t ∷ texts) = ((text_cmp last t ≡ Less) ⊎ (last ≡ t)) × Rises t texts

no_entries : fin.entries (set_of []) ≡ []
no_entries = nil_from_length (fin.entries (set_of [])) (sym (fin.len-entries (set_of [])) ∙ fin.len-empty text_cmp ⊤)

below_apart : (a b : Text) → text_cmp a b ≡ Less → same a b ≡ false
below_apart a b h = same-text_cmp a b ∙ ap is_eq h

once_entries : (last : Text) (texts : List Text) → Rises last texts
    → fin.entries (set_of (last ∷ texts)) ≡ map member (last ∷ once_after last texts)
once_entries last [] rises = fin.entries-insert nat_list_cmp_total (set_of []) last tt
    ∙ ap (put text_cmp last tt) no_entries
once_entries last (t ∷ texts) rises =
    fin.entries-insert nat_list_cmp_total (set_of (t ∷ texts)) last tt
    ∙ ap (put text_cmp last tt) (once_entries t texts rises.1)
    ∙ elim rises.0 [
      | inl less ↦
          ap (λ o. by_order o (member last ∷ member t ∷ map member (once_after t texts))
          (member t ∷ map member (once_after t texts))
          (member t ∷ put text_cmp last tt (map member (once_after t texts)))) less
          ∙ sym (ap (λ v. map member (last ∷ (if v then once_after last texts else t ∷ once_after t texts)))
          (below_apart last t less))
      | inr same_one ↦
          ap (λ o. by_order o (member last ∷ member t ∷ map member (once_after t texts))
          (member t ∷ map member (once_after t texts))
          (member t ∷ put text_cmp last tt (map member (once_after t texts))))
          (ap (text_cmp last) (sym same_one) ∙ tied_itself nat_list_cmp_total last)
          ∙ (λ i. map member (sym same_one i ∷ once_after (sym same_one i) texts))
          ∙ sym (ap (λ v. map member (last ∷ (if v then once_after last texts else t ∷ once_after t texts)))
          (ap (same last) (sym same_one) ∙ same_self last))
    ]

texts_of : (texts : List Text) → map (λ (e : Text × ⊤). e.0) (map member texts) ≡ texts
texts_of [] = refl
texts_of (t ∷ texts) = ap (λ z. t ∷ z) (texts_of texts)

once_set : (last : Text) (texts : List Text) → Rises last texts
    → push_each [] (last ∷ texts) ≡ fin.keys (set_of (last ∷ texts))
once_set last texts rises =
    push_each-after [] last texts ∙ sym
    (ap (map (λ (e : Text × ⊤). e.0)) (once_entries last texts rises) ∙ texts_of (last ∷ once_after last texts))

-- ---- paths in order have first parts that rise, or stay

child_order : (x y : Text) → text_cmp x y ≡ Less → (text_cmp (child x) (child y) ≡ Less) ⊎ (child x ≡ child y)
child_order [] [] h = absurd (cc)
child_order [] (d ∷ y) h = inl refl
child_order (c ∷ x) [] h = absurd (cc)
child_order (c ∷ x) (d ∷ y) h =
    elim (nat_cmp c d) as (λ o. nat_cmp c d ≡ o → ordering_then o (text_cmp x y) ≡ Less
    → (text_cmp (child (c ∷ x)) (child (d ∷ y)) ≡ Less) ⊎ (child (c ∷ x) ≡ child (d ∷ y))) [
      | Less ↦ λ is _. inl
          (ap (λ o. ordering_then o
          (text_cmp (if c == slash then [] else child x) (if d == slash then [] else child y))) is)
      | Equal ↦ λ is later.
          let one : c ≡ d = grind (arith, is) in
          elim (c == slash) as (λ v. (c == slash) ≡ v → (text_cmp (child (c ∷ x)) (child (d ∷ y)) ≡ Less)
          ⊎ (child (c ∷ x) ≡ child (d ∷ y))) [
            | true ↦ λ at. inr ((λ i. c ∷ (if at i then [] else child x)) ∙ ap (λ z. z ∷ []) one
                ∙ sym (λ i. d ∷ (if (ap (λ z. z == slash) (sym one) ∙ at) i then [] else child y)))
            | false ↦ λ at.
                let front : child (c ∷ x) ≡ c ∷ child x = (λ i. c ∷ (if at i then [] else child x)) in
                let back : child (d ∷ y) ≡ d ∷ child y =
                (λ i. d ∷ (if (ap (λ z. z == slash) (sym one) ∙ at) i then [] else child y)) in
                elim (child_order x y later) [
                  | inl less ↦ inl ((λ i. text_cmp (front i) (back i))
                      ∙ ap (λ o. ordering_then o (text_cmp (child x) (child y))) is ∙ less)
                  | inr same_one ↦ inr (front ∙ (λ i. one i ∷ same_one i) ∙ sym back)
                ]
          ] refl
      | Greater ↦ λ _ e. absurd (cc)
    ] refl h

-- ---- what follows a prefix is in the same order

dropped_order : (prefix a b : Text) → starts_with nat_eq a prefix ≡ true → starts_with nat_eq b prefix ≡ true
    → text_cmp a b ≡ Less → text_cmp (drop (length prefix) a) (drop (length prefix) b) ≡ Less
dropped_order prefix a b ha hb less =
    sym (after_prefix prefix (drop (length prefix) a) (drop (length prefix) b))
    ∙ sym (λ i. text_cmp (begun prefix a ha i) (begun prefix b hb i)) ∙ less

module _ {X : Type 0} (prefix : Text) where
  abbrev names_of : List (Text × X) → List Text
  names_of es = map (λ e. e.0) es

  rises_below : (last : Text) (es : List (Text × X)) → starts_with nat_eq last prefix ≡ true
      → below_all text_cmp last es ≡ true → is_sorted text_cmp es ≡ true
      → Rises (child (drop (length prefix) last)) (map child (below prefix (names_of es)))
  rises_below last [] begins low sorted = tt
  rises_below last (e ∷ es) begins low sorted =
      let lows = and_parts _ _ low in
      let sorts = and_parts _ _ sorted in
      elim (starts_with nat_eq e.0 prefix) as (λ v. starts_with nat_eq e.0 prefix ≡ v
      → Rises (child (drop (length prefix) last))
      (map child (map (drop (length prefix))
      (cond v (e.0 ∷ filter (λ q. starts_with nat_eq q prefix) (names_of es))
      (filter (λ q. starts_with nat_eq q prefix) (names_of es)))))) [
        | true ↦ λ is. (
          child_order (drop (length prefix) last) (drop (length prefix) e.0)
              (dropped_order prefix last e.0 begins is (is_less _ lows.0)),
          rises_below e.0 es is sorts.0 sorts.1,
        )
        | false ↦ λ _. rises_below last es begins lows.1 sorts.1
      ] refl

  pub children_ordered : (es : List (Text × X)) → is_sorted text_cmp es ≡ true
      → children_in_order prefix (names_of es) ≡ children prefix (names_of es)
  children_ordered [] sorted = sym (ap (map (λ (e : Text × ⊤). e.0)) no_entries)
  children_ordered (e ∷ es) sorted =
      let sorts = and_parts _ _ sorted in
      elim (starts_with nat_eq e.0 prefix) as (λ v. starts_with nat_eq e.0 prefix ≡ v
      → push_each [] (map child (map (drop (length prefix))
      (cond v (e.0 ∷ filter (λ q. starts_with nat_eq q prefix) (names_of es))
      (filter (λ q. starts_with nat_eq q prefix) (names_of es)))))
      ≡ fin.keys (set_of (map child (map (drop (length prefix))
      (cond v (e.0 ∷ filter (λ q. starts_with nat_eq q prefix) (names_of es))
      (filter (λ q. starts_with nat_eq q prefix) (names_of es))))))) [
        | true ↦ λ is. once_set (child (drop (length prefix) e.0)) (map child (below prefix (names_of es)))
            (rises_below e.0 es is sorts.0 sorts.1)
        | false ↦ λ _. children_ordered es sorts.1
      ] refl

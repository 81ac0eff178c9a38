-- Texts with the same rests have the same children.
use Rattle.std.specs.Prelude.{◌≡◌, ◌&&◌, ◌||◌, ◌∷◌, ◌++◌, List, [], map, filter, drop, length, is_some, nat_eq, Bool, ⊤}
use Rattle.records.specs.Words.{true, false, cond, Option, Some, None, starts_with, list_any, eq_by_cmp}
use Rattle.records.specs.Words.{nat_list_cmp_total, is_some-find, refl, sym, ◌∙◌, ap, append_assoc, and_parts, and_from}
use Rattle.records.specs.Words.{false≢true, drop-append_seam, both_ways, Text, text_cmp, same-text_cmp, same_map, Kind}
use Rattle.records.specs.Words.{Row, child, below, children, member, set_of, has, keys_under, AreNames, Rows}
use Rattle.records.specs.Words.{rows_under, named, find-listed, names_are, any_found, any_from, begins_with, begun}
use Rattle.std.specs.FinMap as fin

-- ---- whether a child is among the children

abbrev child_is : Text → Text → Text → Bool
child_is prefix q t = starts_with nat_eq t prefix && eq_by_cmp text_cmp q (child (drop (length prefix) t))

any-below : (prefix q : Text) (ts : List Text)
    → list_any (eq_by_cmp text_cmp q) (map child (below prefix ts)) ≡ list_any (child_is prefix q) ts
any-below prefix q [] = refl
any-below prefix q (t ∷ ts) = elim (starts_with nat_eq t prefix) as (λ v.
    list_any (eq_by_cmp text_cmp q)
    (map child (map (drop (length prefix))
    (cond v (t ∷ filter (λ q. starts_with nat_eq q prefix) ts) (filter (λ q. starts_with nat_eq q prefix) ts))))
    ≡ ((v && eq_by_cmp text_cmp q (child (drop (length prefix) t))) || list_any (child_is prefix q) ts)) [
      | true ↦ ap (λ v. eq_by_cmp text_cmp q (child (drop (length prefix) t)) || v) (any-below prefix q ts)
      | false ↦ any-below prefix q ts
    ]

some-get : (prefix q : Text) (ts : List Text)
    → is_some (fin.get (set_of (map child (below prefix ts))) q) ≡ list_any (child_is prefix q) ts
some-get prefix q ts =
    ap is_some (fin.get-from_entries nat_list_cmp_total (map member (map child (below prefix ts))) q)
    ∙ is_some-find text_cmp q (map member (map child (below prefix ts)))
    ∙ ap (list_any (eq_by_cmp text_cmp q)) (keys_of (map child (below prefix ts)))
    ∙ any-below prefix q ts
  where
    keys_of : (cs : List Text) → map (λ (e : Text × ⊤). e.0) (map member cs) ≡ cs
    keys_of [] = refl
    keys_of (c ∷ cs) = ap (λ z. c ∷ z) (keys_of cs)

same_unit : (o p : Option ⊤) → is_some o ≡ is_some p → o ≡ p
same_unit None None h = refl
same_unit None (Some u) h = absurd (false≢true h)
same_unit (Some u) None h = absurd (false≢true (sym h))
same_unit (Some u) (Some v) h = refl

-- ---- texts with the same rests

module _ (outer folder : Text) (keys paths : List Text)
    (there : (rest : Text) → has paths (folder ++ rest) ≡ true → has keys ((outer ++ folder) ++ rest) ≡ true)
    (back : (rest : Text) → has keys ((outer ++ folder) ++ rest) ≡ true → has paths (folder ++ rest) ≡ true) where
  moved : (from to : Text) (ts us : List Text) (q : Text)
      → ((rest : Text) → has ts (from ++ rest) ≡ true → has us (to ++ rest) ≡ true)
      → list_any (child_is from q) ts ≡ true → list_any (child_is to q) us ≡ true
  moved from to ts us q move h =
      let f = any_found (child_is from q) ts h in
      let parts = and_parts _ _ f.2 in
      let rest : Text = drop (length from) f.0 in
      let here : has us (to ++ rest) ≡ true = move rest (ap (has ts) (sym (begun from f.0 parts.0)) ∙ f.1) in
      any_from (child_is to q) us (to ++ rest) here
      (and_from _ _ (begins_with to (to ++ rest) rest refl)
      (ap (λ r. eq_by_cmp text_cmp q (child r)) (drop-append_seam to rest) ∙ parts.1))

  pub same_children : children (outer ++ folder) keys ≡ children folder paths
  same_children = ap fin.keys
      (same_map (set_of (map child (below (outer ++ folder) keys))) (set_of (map child (below folder paths))) (λ q.
      same_unit _ _ (some-get (outer ++ folder) q keys
      ∙ both_ways _ _ (moved (outer ++ folder) folder keys paths q back)
      (moved folder (outer ++ folder) paths keys q there)
      ∙ sym (some-get folder q paths))))

-- ---- what is listed

has-keys : (rows : Rows) (kind : Kind) (prefix t : Text) → has (keys_under rows kind prefix) t
    ≡ (starts_with nat_eq t prefix && is_some (fin.get rows (kind, t)))
has-keys rows kind prefix t =
    ap (has- t) (names_are (rows_under rows kind prefix))
    ∙ by_order (map (λ (e : Text × Row). e.0) (named (rows_under rows kind prefix)))
    ∙ sym (is_some-find text_cmp t (named (rows_under rows kind prefix)))
    ∙ ap is_some (find-listed kind prefix rows t)
    ∙ inner (starts_with nat_eq t prefix) (fin.get rows (kind, t))
  where
    has- : Text → List Text → Bool
    has- t ts = has ts t

    by_order : (ts : List Text) → has ts t ≡ list_any (eq_by_cmp text_cmp t) ts
    by_order [] = refl
    by_order (u ∷ ts) = λ i. same-text_cmp t u i || by_order ts i

    inner : (v : Bool) (o : Option Row) → is_some (cond v o None) ≡ (v && is_some o)
    inner true o = refl
    inner false o = refl

pub named_children : (rows : Rows) (kind : Kind) (outer folder : Text) (paths : List Text)
    → AreNames rows kind outer paths
    → children (outer ++ folder) (keys_under rows kind (outer ++ folder)) ≡ children folder paths
named_children rows kind outer folder paths names =
    same_children outer folder (keys_under rows kind (outer ++ folder)) paths
    (λ rest h. has-keys rows kind (outer ++ folder) ((outer ++ folder) ++ rest)
    ∙ and_from _ _ (begins_with (outer ++ folder) ((outer ++ folder) ++ rest) rest refl)
    (ap (λ q. is_some (fin.get rows (kind, q))) (append_assoc outer folder rest) ∙ names (folder ++ rest) ∙ h))
    (λ rest h. sym (names (folder ++ rest)) ∙ ap (λ q. is_some (fin.get rows (kind, q)))
    (sym (append_assoc outer folder rest))
    ∙ (and_parts _ _ (sym (has-keys rows kind (outer ++ folder) ((outer ++ folder) ++ rest)) ∙ h)).1)

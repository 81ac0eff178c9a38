-- Laws of maps that are made of lists of entries: metadata, and sets of texts, as code has them.
use Rattle.std.specs.Prelude.{◌≡◌, ◌≤◌, ◌+◌, ◌&&◌, ◌∷◌, ℕ, suc, List, [], length, map, Bool, true, false, cond, Some}
use Rattle.broker_types.specs.Words.{All, nat_list_cmp_total, find, from_entries, get-from_entries, is_sorted}
use Rattle.broker_types.specs.Words.{len-insert, len-empty, contains_key, below_all, is_lt, refl, sym, ◌∙◌, ap, subst}
use Rattle.broker_types.specs.Words.{arith, and_parts, All-head, All-tail, same_Some, T_from_true, Text, text_cmp, same}
use Rattle.broker_types.specs.Words.{Map, get, len, entries, is_ascending}
use Rattle.broker_types.specs.MapLaws.{get-put, no_entry, entries_are}
use Rattle.broker_types.specs.TextLaws.{same_true}
use Rattle.broker_types.specs.TestLaws.{is_less}

-- ---- a list whose names ascend

below_next : (k t u : Text) → is_lt (text_cmp k t) ≡ true → is_lt (text_cmp t u) ≡ true → is_lt (text_cmp k u) ≡ true
below_next k t u h g = ap is_lt (nat_list_cmp_total.trans k t u (is_less (text_cmp k t) h) (is_less (text_cmp t u) g))

tail_ascends : (k : Text) (ts : List Text) → is_ascending (k ∷ ts) ≡ true → is_ascending ts ≡ true
tail_ascends k [] h = refl
tail_ascends k (t ∷ ts) h = (and_parts _ _ h).1

module _ {X : Type 0} where
  below_each : (k : Text) (es : List (Text × X)) → is_ascending (k ∷ map (λ e. e.0) es) ≡ true
      → below_all text_cmp k es ≡ true
  below_each k [] h = refl
  below_each k (e ∷ es) h =
      let two = and_parts (is_lt (text_cmp k e.0)) (is_ascending (e.0 ∷ map (λ e. e.0) es)) h in
      λ i. two.0 i && below_each k es (next es two.1) i
    where
      next : (fs : List (Text × X)) → is_ascending (e.0 ∷ map (λ e. e.0) fs) ≡ true
          → is_ascending (k ∷ map (λ e. e.0) fs) ≡ true
      next [] g = refl
      next (f ∷ fs) g =
          let two = and_parts (is_lt (text_cmp e.0 f.0)) (is_ascending (f.0 ∷ map (λ e. e.0) fs)) g in
          let first = and_parts (is_lt (text_cmp k e.0)) (is_ascending (e.0 ∷ map (λ e. e.0) es)) h in
          λ i. below_next k e.0 f.0 first.0 two.0 i && two.1 i

  sorted_from : (es : List (Text × X)) → is_ascending (map (λ e. e.0) es) ≡ true → is_sorted text_cmp es ≡ true
  sorted_from [] h = refl
  sorted_from (e ∷ es) h =
      λ i. below_each e.0 es h i && sorted_from es (tail_ascends e.0 (map (λ e. e.0) es) h) i

  -- a sorted list that finds what the map has is its list of entries
  pub ascending_entries : (m : Map X) (es : List (Text × X)) → is_ascending (map (λ e. e.0) es) ≡ true
      → ((q : Text) → find text_cmp q es ≡ get m q) → entries m ≡ es
  ascending_entries m es h finds = entries_are m es (T_from_true _ (sorted_from es h)) finds

  -- the map of a list whose names ascend has these entries
  pub listed_entries : (es : List (Text × X)) → is_ascending (map (λ e. e.0) es) ≡ true
      → entries (from_entries {R = text_cmp} es) ≡ es
  listed_entries es h =
      ascending_entries (from_entries es) es h (λ q. sym (get-from_entries nat_list_cmp_total es q))

-- ---- any list

more : (v : Bool) (n m : ℕ) → n ≤ m → cond v n (n + 1) ≤ suc m
more true n m h = omega arith
more false n m h = omega arith

module _ {X : Type 0} where
  -- its map has no more entries
  pub few_listed : (es : List (Text × X)) → len (from_entries {R = text_cmp} es) ≤ length es
  few_listed [] = subst (λ n. n ≤ 0) (sym (len-empty text_cmp X)) (omega arith)
  few_listed (e ∷ es) =
      let m = from_entries {R = text_cmp} es in
      subst (λ n. n ≤ suc (length es)) (sym (len-insert nat_list_cmp_total m e.0 e.1))
      (more (contains_key m e.0) (len m) (length es) (few_listed es))

  -- what holds of each entry of the list holds of each of the map
  pub each_listed : (P : Text → X → Type 0) (es : List (Text × X)) → All (λ e. P e.0 e.1) es
      → (q : Text) (x : X) → get (from_entries {R = text_cmp} es) q ≡ Some x → P q x
  each_listed P [] all q x is = absurd (no_entry q x is)
  each_listed P (e ∷ es) all q x is =
      elim (same q e.0)
      as (λ v. same q e.0 ≡ v → cond v (Some e.1) (get (from_entries {R = text_cmp} es) q) ≡ Some x → P q x) [
        | true ↦ λ s g. at (same_true q e.0 s) g
        | false ↦ λ _ g. each_listed P es (All-tail (λ e. P e.0 e.1) e es all) q x g
      ] refl (sym (get-put (from_entries {R = text_cmp} es) e.0 e.1 q) ∙ is)
    where
      at : q ≡ e.0 → Some e.1 ≡ Some x → P q x
      at s g = subst (λ k. P k x) (sym s) (subst (P e.0) (same_Some _ _ g) (All-head (λ e. P e.0 e.1) e es all))

-- Laws of finite maps from texts: what they have at each key.
use Rattle.std.proofs.Common.{◌≡◌, ◌&&◌, ◌∷◌, if◌then◌else◌, T, List, [], Bool, true, false, cond, Some, None, refl, ap}
use Rattle.broker_types.specs.Words.{option_map, nat_list_cmp_total, find, is_sorted, slice_cmp-IsAntisymmetric}
use Rattle.broker_types.specs.Words.{nat_cmp-IsAntisymmetric, below_all, lookup, is_lt, sym, ◌∙◌, subst, none-some}
use Rattle.broker_types.specs.Words.{same_Some, Text, text_cmp, same, Map, get, empty, entries, put, without, keep}
use Rattle.broker_types.specs.Words.{with_values, map_values, change, first_where}
use Rattle.std.specs.FinMap as fin
use Rattle.std.specs.List.{find as first}
use Rattle.broker_types.specs.OptionLaws.{mapped, mapped_none}
use Rattle.broker_types.specs.TextLaws.{same-text_cmp, same_self, same_true}

module _ {X : Type 0} where
  -- the value at each key of a map with x at k
  pub get-put : (m : Map X) (k : Text) (x : X) (q : Text) → get (put m k x) q ≡ cond (same q k) (Some x) (get m q)
  get-put m k x q =
      fin.get-insert nat_list_cmp_total m k x q ∙ ap (λ b. cond b (Some x) (get m q)) (sym (same-text_cmp q k))

  -- k has the value x in a map with x at k
  pub get-put_self : (m : Map X) (k : Text) (x : X) → get (put m k x) k ≡ Some x
  get-put_self m k x = get-put m k x k ∙ ap (λ b. cond b (Some x) (get m k)) (same_self k)

  -- of a map without k
  pub get-without : (m : Map X) (k q : Text) → get (without m k) q ≡ cond (same q k) None (get m q)
  get-without m k q =
      fin.get-remove nat_list_cmp_total m k q ∙ ap (λ b. cond b None (get m q)) (sym (same-text_cmp q k))

  -- k has no value in a map without k
  pub get-without_self : (m : Map X) (k : Text) → get (without m k) k ≡ None
  get-without_self m k = get-without m k k ∙ ap (λ b. cond b None (get m k)) (same_self k)

  -- what is in a map without k was there, under another key
  pub without_is : (m : Map X) (k q : Text) (x : X)
      → get (without m k) q ≡ Some x → (same q k ≡ false) × (get m q ≡ Some x)
  without_is m k q x e =
      elim (same q k)
      as (λ b. same q k ≡ b → cond b None (get m q) ≡ Some x → (same q k ≡ false) × (get m q ≡ Some x)) [
        | true ↦ λ _ none. absurd (none-some x none)
        | false ↦ λ other is. (other, is)
      ] refl (sym (get-without m k q) ∙ e)

  -- of the entries that pass
  pub get-keep : (p : Text → Bool) (m : Map X) (q : Text) → get (keep p m) q ≡ cond (p q) (get m q) None
  get-keep p m q =
      fin.get-retain_keys m p q (λ x e. ap p (sym (slice_cmp-IsAntisymmetric nat_cmp-IsAntisymmetric q x e)))

  -- maps that have the same at each key are equal
  pub same_map : (m n : Map X) → ((q : Text) → get m q ≡ get n q) → m ≡ n
  same_map m n h = fin.same_map nat_list_cmp_total (slice_cmp-IsAntisymmetric nat_cmp-IsAntisymmetric) m n h

  -- a sorted list that answers as the map does is its list of entries
  pub entries_are : (m : Map X) (es : List (Text × X)) → T (is_sorted text_cmp es)
      → ((q : Text) → find text_cmp q es ≡ get m q) → entries m ≡ es
  entries_are m es sorted finds =
      ap entries
      (same_map m (fin.from_sorted es) (λ q. sym (finds q) ∙ sym (fin.get-from_sorted text_cmp es q sorted)))
      ∙ fin.entries-from_sorted text_cmp es sorted

  -- the empty map has no entries
  pub entries-empty : entries (empty {X = X} {R = text_cmp}) ≡ []
  entries-empty = entries_are empty [] tt (λ q. sym (fin.get-empty text_cmp q))

  -- and no value
  pub no_entry : (q : Text) (x : X) → get (empty {R = text_cmp}) q ≡ Some x → ⊥
  no_entry q x e = absurd (none-some _ (sym (fin.get-empty text_cmp q) ∙ e))

  -- a map with one value at k alone
  pub get-one : (k : Text) (x : X) (q : Text) → get (put empty k x) q ≡ cond (same q k) (Some x) None
  get-one k x q = get-put empty k x q ∙ ap (cond (same q k) (Some x)) (fin.get-empty text_cmp q)

  pub one_entry : (k q : Text) (x y : X) → get (put empty k x) q ≡ Some y → (q ≡ k) × (y ≡ x)
  one_entry k q x y e =
      elim (same q k) as (λ b. same q k ≡ b → cond b (Some x) None ≡ Some y → (q ≡ k) × (y ≡ x)) [
        | true ↦ λ s g. (same_true q k s, sym (same_Some _ _ g))
        | false ↦ λ _ g. absurd (none-some _ g)
      ] refl (sym (get-one k x q) ∙ e)

  pub entries-one : (k : Text) (x : X) → entries (put empty k x) ≡ (k, x) ∷ []
  entries-one k x =
      entries_are (put empty k x) ((k, x) ∷ []) tt
      (λ q. ap (λ b. cond b (Some x) None) (sym (same-text_cmp q k)) ∙ sym (get-one k x q))

  find-lookup : (q : Text) (es : List (Text × X)) → find text_cmp q es ≡ lookup (same q) es
  find-lookup q [] = refl
  find-lookup q (e ∷ es) =
      ap (λ b. cond b (Some e.1) (find text_cmp q es)) (sym (same-text_cmp q e.0))
      ∙ ap (cond (same q e.0) (Some e.1)) (find-lookup q es)

  -- the value at a key is the first in the list of entries
  pub get-lookup : (m : Map X) (q : Text) → get m q ≡ lookup (same q) (entries m)
  get-lookup m q = fin.get-entries m q ∙ find-lookup q (entries m)

module _ {X Y : Type 0} where
  below-with_values : (f : Text → X → Y) (k : Text) (es : List (Text × X))
      → below_all text_cmp k (with_values f es) ≡ below_all text_cmp k es
  below-with_values f k [] = refl
  below-with_values f k (e ∷ es) = ap (λ b. is_lt (text_cmp k e.0) && b) (below-with_values f k es)

  sorted-with_values : (f : Text → X → Y) (es : List (Text × X))
      → is_sorted text_cmp (with_values f es) ≡ is_sorted text_cmp es
  sorted-with_values f [] = refl
  sorted-with_values f (e ∷ es) = λ i. below-with_values f e.0 es i && sorted-with_values f es i

  still_sorted : (f : Text → X → Y) (m : Map X) → T (is_sorted text_cmp (with_values f (entries m)))
  still_sorted f m = subst T (sym (sorted-with_values f (entries m))) (fin.entries_sorted m)

  -- the entries of a map of changed values
  pub entries-map_values : (f : Text → X → Y) (m : Map X) → entries (map_values f m) ≡ with_values f (entries m)
  unfolding map_values
  entries-map_values f m = fin.entries-from_sorted text_cmp (with_values f (entries m)) (still_sorted f m)

  lookup-with_values : (f : Text → X → Y) (q : Text) (es : List (Text × X))
      → lookup (same q) (with_values f es) ≡ option_map (f q) (lookup (same q) es)
  lookup-with_values f q [] = refl
  lookup-with_values f q (e ∷ es) =
      elim (same q e.0)
      as (λ b. same q e.0 ≡ b
      → cond b (Some (f e.0 e.1)) (lookup (same q) (with_values f es))
      ≡ option_map (f q) (cond b (Some e.1) (lookup (same q) es))) [
        | true ↦ λ h. ap (λ k. Some (f k e.1)) (sym (same_true q e.0 h))
        | false ↦ λ h. lookup-with_values f q es
      ] refl

  -- the value at each key of a map of changed values
  pub get-map_values : (f : Text → X → Y) (m : Map X) (q : Text) → get (map_values f m) q ≡ option_map (f q) (get m q)
  get-map_values f m q =
      get-lookup (map_values f m) q ∙ ap (lookup (same q)) (entries-map_values f m) ∙ lookup-with_values f q (entries m)
      ∙ ap (option_map (f q)) (sym (get-lookup m q))

  -- a value of a map of changed values
  pub valued_is : (f : Text → X → Y) (m : Map X) (q : Text) (y : Y)
      → get (map_values f m) q ≡ Some y → (x : X) × (get m q ≡ Some x) × (y ≡ f q x)
  valued_is f m q y e = mapped (f q) (get m q) y (sym (get-map_values f m q) ∙ e)

  -- if it has none, neither has the map
  pub valued_none : (f : Text → X → Y) (m : Map X) (q : Text) → get (map_values f m) q ≡ None → get m q ≡ None
  valued_none f m q e = mapped_none (f q) (get m q) (sym (get-map_values f m q) ∙ e)

  found-with_values : (f : Text → X → Y) (p : Text → Y → Bool) (p' : Text → X → Bool)
      → ((q : Text) (x : X) → p q (f q x) ≡ p' q x) → (es : List (Text × X))
      → first (λ e. p e.0 e.1) (with_values f es) ≡ option_map (λ e. (e.0, f e.0 e.1)) (first (λ e. p' e.0 e.1) es)
  found-with_values f p p' h [] = refl
  found-with_values f p p' h (e ∷ es) =
      ap (λ b. cond b (Some (e.0, f e.0 e.1)) (first (λ e. p e.0 e.1) (with_values f es))) (h e.0 e.1)
      ∙ elim (p' e.0 e.1)
      as (λ b. cond b (Some (e.0, f e.0 e.1)) (first (λ e. p e.0 e.1) (with_values f es))
      ≡ option_map (λ e. (e.0, f e.0 e.1)) (cond b (Some e) (first (λ e. p' e.0 e.1) es))) [
        | true ↦ refl
        | false ↦ found-with_values f p p' h es
      ]

  -- a search among changed values
  pub first_where-map_values : (f : Text → X → Y) (p : Text → Y → Bool) (p' : Text → X → Bool) (m : Map X)
      → ((q : Text) (x : X) → p q (f q x) ≡ p' q x)
      → first_where p (map_values f m) ≡ option_map (λ e. (e.0, f e.0 e.1)) (first_where p' m)
  first_where-map_values f p p' m h =
      ap (first (λ e. p e.0 e.1)) (entries-map_values f m) ∙ found-with_values f p p' h (entries m)

module _ {X : Type 0} where
  -- of a map changed at k
  pub get-change : (m : Map X) (k : Text) (f : X → X) (q : Text)
      → get (change m k f) q ≡ option_map (λ x. if same q k then f x else x) (get m q)
  get-change m k f q = get-map_values (λ q x. if same q k then f x else x) m q

module _ {X Y : Type 0} where
  -- a sorted list of entries that answers as a map does is the map's list of entries
  pub listing_is : (f : Text → X → Y) (m : Map X) (xs : List (Text × Y)) → T (is_sorted text_cmp xs)
      → ((q : Text) → find text_cmp q xs ≡ option_map (f q) (get m q)) → xs ≡ with_values f (entries m)
  listing_is f m xs sorted finds =
      sym (entries_are (map_values f m) xs sorted (λ q. finds q ∙ sym (get-map_values f m q)))
      ∙ entries-map_values f m

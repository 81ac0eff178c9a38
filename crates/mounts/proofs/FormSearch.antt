-- A search among forms: it finds one that the path has, with the longest text before the parameter.
use Rattle.std.proofs.Common.{◌≡◌, ◌⊎◌, ◌==◌, ◌&&◌, ◌∷◌, ℕ, List, [], Bool, true, false, not, cond, Option, Some, None}
use Rattle.records.specs.Words.{refl, sym, ◌∙◌, ap, subst, inl, inr, and_parts, and_from, eqb-true, none-some}
use Rattle.records.specs.Words.{same_Some, Text, slash, lacks}
use Rattle.matchit.specs.Seek.{or_else, has_slash}
use Rattle.mounts.specs.Words.{Ending, nothing, segment, segments, has_form}

-- whether a path has the form of a text and an ending
abbrev pub fits_form : Text → Ending → Text → Bool
fits_form l g path = has_form (record { literal = l; ending = g }) path

abbrev pub is_nothing : Ending → Bool
is_nothing nothing = true
is_nothing segment = false
is_nothing segments = false

abbrev pub is_segment : Ending → Bool
is_segment nothing = false
is_segment segment = true
is_segment segments = false

abbrev pub is_segments : Ending → Bool
is_segments nothing = false
is_segments segment = false
is_segments segments = true

-- the rest of a text that begins with the byte
abbrev pub behind : ℕ → Text → Option Text
behind b [] = None
behind b (x ∷ l) = cond (x == b) (Some l) None

-- the first of the keys
abbrev pub first_of_keys : {K : Type 0} → List K → Option K
first_of_keys [] = None
first_of_keys (k ∷ ks) = Some k

-- a form, by its text and its ending, with a key
abbrev pub FormOf : Type 0 → Type 0
FormOf K = Text × Ending × K

-- whether a form is without text and ends so
abbrev pub is_end : (Ending → Bool) → Text → Ending → Bool
is_end test [] g = test g
is_end test (x ∷ l) g = false

module _ {K : Type 0} where
  abbrev pub Has : Text → Ending → K → List (FormOf K) → Type 0
  Has l g k [] = ⊥
  Has l g k (e ∷ es) = ((l, g, k) ≡ e) ⊎ Has l g k es

  abbrev pub go_on : Option Text → Ending → K → List (FormOf K) → List (FormOf K)
  go_on None g k es = es
  go_on (Some l) g k es = (l, g, k) ∷ es

  -- the forms that begin with the byte, without it
  abbrev pub after : ℕ → List (FormOf K) → List (FormOf K)
  after b [] = []
  after b (e ∷ es) = go_on (behind b e.0) e.1 e.2 (after b es)

  abbrev pub with_key : Bool → K → List K → List K
  with_key true k ks = k ∷ ks
  with_key false k ks = ks

  -- the keys of the forms without text that end so
  abbrev pub keys_at : (Ending → Bool) → List (FormOf K) → List K
  keys_at test [] = []
  keys_at test (e ∷ es) = with_key (is_end test e.0 e.1) e.2 (keys_at test es)

  abbrev pub segment_key : Bool → List K → Option K
  segment_key true ks = None
  segment_key false ks = first_of_keys ks

  abbrev pub search : List (FormOf K) → Text → Option K
  search es [] = first_of_keys (keys_at is_nothing es)
  search es (b ∷ path) =
      or_else (search (after b es) path)
      (or_else (segment_key (has_slash (b ∷ path)) (keys_at is_segment es)) (first_of_keys (keys_at is_segments es)))

  -- ---- the forms that begin with a byte

  more : (o : Option Text) (l : Text) (g h : Ending) (k j : K) (es : List (FormOf K)) → Has l g k es
      → Has l g k (go_on o h j es)
  more None l g h k j es has = has
  more (Some m) l g h k j es has = inr has

  pub after_has : (b x : ℕ) (l : Text) (g : Ending) (k : K) (es : List (FormOf K)) → (x == b) ≡ true
      → Has (x ∷ l) g k es → Has l g k (after b es)
  after_has b x l g k [] at has = absurd has
  after_has b x l g k (e ∷ es) at (inl is) =
      subst (λ (z : FormOf K). Has l g k (go_on (behind b z.0) z.1 z.2 (after b es))) is
      (subst (λ v. Has l g k (go_on (cond v (Some l) None) g k (after b es))) (sym at) (inl refl))
  after_has b x l g k (e ∷ es) at (inr later) =
      more (behind b e.0) l g e.1 k e.2 (after b es) (after_has b x l g k es at later)

  one_after : (b : ℕ) (l m : Text) (g h : Ending) (k j : K) (es : List (FormOf K))
      → Has l g k (go_on (behind b m) h j es)
      → (◌≡◌ {A = FormOf K} (b ∷ l, g, k) (m, h, j)) ⊎ Has l g k es
  one_after b l [] g h k j es has = inr has
  one_after b l (y ∷ m) g h k j es has =
      elim (y == b) as (λ v. (y == b) ≡ v → Has l g k (go_on (cond v (Some m) None) h j es)
      → (◌≡◌ {A = FormOf K} (b ∷ l, g, k) (y ∷ m, h, j)) ⊎ Has l g k es) [
        | false ↦ λ _ later. inr later
        | true ↦ λ at. here at
      ] refl has
    where
      here : (y == b) ≡ true → Has l g k ((m, h, j) ∷ es) → (◌≡◌ {A = FormOf K} (b ∷ l, g, k) (y ∷ m, h, j))
          ⊎ Has l g k es
      here at (inr later) = inr later
      here at (inl is) = inl (λ i. (sym (eqb-true y b at) i ∷ (is i).0, (is i).1, (is i).2))

  pub after_was : (b : ℕ) (l : Text) (g : Ending) (k : K) (es : List (FormOf K)) → Has l g k (after b es)
      → Has (b ∷ l) g k es
  after_was b l g k [] has = absurd has
  after_was b l g k (e ∷ es) has = elim (one_after b l e.0 g e.1 k e.2 (after b es) has) [
    | inl is ↦ inl is
    | inr later ↦ inr (after_was b l g k es later)
  ]

  -- ---- the forms without text

  pub record Ends (test : Ending → Bool) (es : List (FormOf K)) (k : K) : Type 0 where
    pub ending : Ending
    pub passes : test ending ≡ true
    pub has : Has [] ending k es

  ends_one : (test : Ending → Bool) (es : List (FormOf K)) (k : K) (m : Text) (g : Ending) (j : K)
      → (first_of_keys (keys_at test es) ≡ Some k → Ends test es k)
      → first_of_keys (with_key (is_end test m g) j (keys_at test es)) ≡ Some k → Ends test ((m, g, j) ∷ es) k
  ends_one test es k (x ∷ m) g j later e =
      let r = later e in
      record { ending = r.ending; passes = r.passes; has = inr r.has }
  ends_one test es k [] g j later e =
      elim (test g) as (λ v. test g ≡ v → first_of_keys (with_key v j (keys_at test es)) ≡ Some k
      → Ends test (([], g, j) ∷ es) k) [
        | false ↦ λ _ z. let r = later z in record { ending = r.ending; passes = r.passes; has = inr r.has }
        | true ↦ λ passes z. record { ending = g; passes = passes; has = inl (λ i. ([], g, sym (same_Some j k z) i)) }
      ] refl e

  pub ends_is : (test : Ending → Bool) (es : List (FormOf K)) (k : K) → first_of_keys (keys_at test es) ≡ Some k
      → Ends test es k
  ends_is test [] k h = absurd (none-some _ h)
  ends_is test (e ∷ es) k h = ends_one test es k e.0 e.1 e.2 (ends_is test es k) h

  pub ends_none : (test : Ending → Bool) (es : List (FormOf K)) (g : Ending) (k : K) → Has [] g k es → test g ≡ true
      → first_of_keys (keys_at test es) ≡ None → ⊥
  ends_none test [] g k has passes h = has
  ends_none test (e ∷ es) g k (inl is) passes h =
      none-some k (sym (
      ap (λ v. first_of_keys (with_key v k (keys_at test es))) (sym passes)
      ∙ ap (λ (z : FormOf K). first_of_keys (with_key (is_end test z.0 z.1) z.2 (keys_at test es))) is ∙ h))
  ends_none test (e ∷ es) g k (inr later) passes h = ends_none test es g k later passes (gone (is_end test e.0 e.1) h)
    where
      gone : (v : Bool) → first_of_keys (with_key v e.2 (keys_at test es)) ≡ None
          → first_of_keys (keys_at test es) ≡ None
      gone true z = absurd (none-some _ (sym z))
      gone false z = z

-- ---- what forms fit

pub fits_cons : (x b : ℕ) (l : Text) (g : Ending) (path : Text) → fits_form (x ∷ l) g (b ∷ path) ≡ true
    → ((x == b) ≡ true) × (fits_form l g path ≡ true)
fits_cons x b l g path h =
    let outer = and_parts _ _ h in
    let inner = and_parts _ _ outer.0 in
    (inner.0, and_from _ _ inner.1 outer.1)

pub cons_fits : (b : ℕ) (l : Text) (g : Ending) (path : Text) → (b == b) ≡ true → fits_form l g path ≡ true
    → fits_form (b ∷ l) g (b ∷ path) ≡ true
cons_fits b l g path at h =
    let parts = and_parts _ _ h in
    and_from _ _ (and_from _ _ at parts.0) parts.1

-- no path has a slash where it lacks one
pub slash_or_not : (p : Text) → has_slash p ≡ not (lacks slash p)
slash_or_not [] = refl
slash_or_not (b ∷ p) = elim (b == slash) as (λ v. cond v true (has_slash p) ≡ not (not v && lacks slash p)) [
  | true ↦ refl
  | false ↦ slash_or_not p
]

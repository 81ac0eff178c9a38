-- Lines without tokens: one byte more, and that no segment of them begins as a token does.
use Rattle.std.proofs.Common.{◌≡◌, ◌+◌, ◌<◌, ◌≤◌, ◌==◌, ◌&&◌, ◌||◌, ◌∷◌, ◌++◌, if◌then◌else◌, ℕ, Bool, true, false}
use Rattle.std.proofs.Common.{List, [], All}
use Rattle.std.proofs.Common.{length, get_or, drop, codes, slice_range}
use Rattle.std.specs.Prelude.{⊤}
use Rattle.std.proofs.lemmas.List.Elements.{All-cons, All-nil}
use Rattle.records.specs.Words.{Text, refl, sym, subst, ◌∙◌, ap, append_assoc, append-nil}
use Rattle.broker_types.specs.Words.{and-false, or_parts}
use Rattle.broker_types.specs.SliceLaws.{slice_grown, slice_none, drop_first}
use Rattle.server.specs.Hiding.{HidesTokens, IsHidden, hidden, hidden_segment, is_boundary, is_token, segments}

-- ---- one byte of a line more

hidden_at : (begun : Text) (c : ℕ) (cs : Text) → is_boundary c ≡ true
    → hidden begun (c ∷ cs) ≡ hidden_segment begun ++ c ∷ hidden [] cs
hidden_at begun c cs is =
    ap (λ (v : Bool). if v then hidden_segment begun ++ c ∷ hidden [] cs else hidden (begun ++ c ∷ []) cs) is

hidden_on : (begun : Text) (c : ℕ) (cs : Text) → is_boundary c ≡ false
    → hidden begun (c ∷ cs) ≡ hidden (begun ++ c ∷ []) cs
hidden_on begun c cs is =
    ap (λ (v : Bool). if v then hidden_segment begun ++ c ∷ hidden [] cs else hidden (begun ++ c ∷ []) cs) is

-- at a boundary a segment is shown
pub at_boundary : (s shown : List ℕ) (start i : ℕ) → i < length s → is_boundary (get_or s i 0) ≡ true
    → shown ++ hidden (slice_range s start i) (drop i s)
    ≡ ((shown ++ hidden_segment (slice_range s start i)) ++ get_or s i 0 ∷ [])
    ++ hidden (slice_range s (i + 1) (i + 1)) (drop (i + 1) s)
at_boundary s shown start i within is =
    let begun = slice_range s start i in
    let c = get_or s i 0 in
    let rest = drop (i + 1) s in
    ap (λ (l : List ℕ). shown ++ hidden begun l) (drop_first s i within)
    ∙ ap (λ (l : List ℕ). shown ++ l) (hidden_at begun c rest is)
    ∙ sym (append_assoc (shown ++ hidden_segment begun) (c ∷ []) (hidden [] rest)
    ∙ append_assoc shown (hidden_segment begun) (c ∷ hidden [] rest))
    ∙ ap (λ (l : List ℕ). ((shown ++ hidden_segment begun) ++ c ∷ []) ++ hidden l rest) (sym (slice_none s (i + 1)))

-- at another byte it grows
pub at_inner : (s : List ℕ) (start i : ℕ) → start ≤ i → i < length s → is_boundary (get_or s i 0) ≡ false
    → hidden (slice_range s start i) (drop i s) ≡ hidden (slice_range s start (i + 1)) (drop (i + 1) s)
at_inner s start i from within is =
    let rest = drop (i + 1) s in
    ap (hidden (slice_range s start i)) (drop_first s i within)
    ∙ hidden_on (slice_range s start i) (get_or s i 0) rest is
    ∙ ap (λ (l : List ℕ). hidden l rest) (sym (slice_grown s start i from within))

-- ---- no segment begins as a token does

-- no byte of it is a boundary
abbrev NoneIn : Text → Type 0
NoneIn [] = ⊤
NoneIn (c ∷ cs) = (is_boundary c ≡ false) × NoneIn cs

none_more : (s : Text) (c : ℕ) → NoneIn s → is_boundary c ≡ false → NoneIn (s ++ c ∷ [])
none_more [] c none is = (is, tt)
none_more (d ∷ ds) c none is = (none.0, none_more ds c none.1 is)

none_hidden : (s : Text) → NoneIn s → NoneIn (hidden_segment s)
none_hidden s none = by (is_token s)
  where
    by : (v : Bool) → NoneIn (if v then codes "hvs.*" else s)
    by true = (refl, (refl, (refl, (refl, (refl, tt)))))
    by false = none

is_hidden : (s : Text) → IsHidden (hidden_segment s)
is_hidden s = by (is_token s) refl
  where
    by : (v : Bool) → is_token s ≡ v → IsHidden (if v then codes "hvs.*" else s)
    by true is = λ token. refl
    by false is = λ token. let bad : false ≡ true = sym is ∙ token in cc bad

-- the segment that ends where such a text does
ends_at : (pre s : Text) (c : ℕ) (rest : Text) → NoneIn s → is_boundary c ≡ true
    → segments pre (s ++ c ∷ rest) ≡ (pre ++ s) ∷ segments [] rest
ends_at pre [] c rest none is =
    ap (λ (v : Bool). if v then pre ∷ segments [] rest else segments (pre ++ c ∷ []) rest) is
    ∙ ap (λ (l : Text). l ∷ segments [] rest) (sym (append-nil pre))
ends_at pre (d ∷ ds) c rest none is =
    ap (λ (v : Bool). if v then pre ∷ segments [] (ds ++ c ∷ rest) else segments (pre ++ d ∷ []) (ds ++ c ∷ rest))
    none.0
    ∙ ends_at (pre ++ d ∷ []) ds c rest none.1 is
    ∙ ap (λ (l : Text). l ∷ segments [] rest) (append_assoc pre (d ∷ []) ds)

-- the last one
ends : (pre s : Text) → NoneIn s → segments pre s ≡ (pre ++ s) ∷ []
ends pre [] none = ap (λ (l : Text). l ∷ []) (sym (append-nil pre))
ends pre (d ∷ ds) none =
    ap (λ (v : Bool). if v then pre ∷ segments [] ds else segments (pre ++ d ∷ []) ds) none.0
    ∙ ends (pre ++ d ∷ []) ds none.1
    ∙ ap (λ (l : Text). l ∷ []) (append_assoc pre (d ∷ []) ds)

hides_from : (begun cs : Text) → NoneIn begun → HidesTokens (hidden begun cs)
hides_from begun [] none =
    subst (All IsHidden) (sym (ends [] (hidden_segment begun) (none_hidden begun none)))
    (All-cons IsHidden (hidden_segment begun) [] (is_hidden begun) (All-nil IsHidden))
hides_from begun (c ∷ cs) none =
    by (is_boundary c) refl (hides_from [] cs tt)
    (λ inner. hides_from (begun ++ c ∷ []) cs (none_more begun c none inner))
  where
    by : (v : Bool) → is_boundary c ≡ v → HidesTokens (hidden [] cs)
        → (is_boundary c ≡ false → HidesTokens (hidden (begun ++ c ∷ []) cs))
        → HidesTokens (if v then hidden_segment begun ++ c ∷ hidden [] cs else hidden (begun ++ c ∷ []) cs)
    by true is rest more =
        subst (All IsHidden) (sym (ends_at [] (hidden_segment begun) c (hidden [] cs) (none_hidden begun none) is))
        (All-cons IsHidden (hidden_segment begun) (segments [] (hidden [] cs)) (is_hidden begun) rest)
    by false is rest more = more is

-- a line as it is shown
pub hides : (line : Text) → HidesTokens (hidden [] line)
hides line = hides_from [] line tt

-- ---- a line in which no token begins stays as it is

-- whether a token begins somewhere in it
abbrev pub has_token : Text → Bool
has_token [] = false
has_token (c ∷ cs) = is_token (c ∷ cs) || has_token cs

-- what goes on after a token begins as a token
grows : (a b : Text) → is_token a ≡ true → is_token (a ++ b) ≡ true
grows [] b is = let bad : false ≡ true = is in cc bad
grows (x ∷ []) b is =
    let bad : false ≡ true = sym (and-false (x == 104)) ∙ is in cc bad
grows (x ∷ y ∷ []) b is =
    let bad : false ≡ true =
    sym (ap (λ (v : Bool). x == 104 && v) (and-false (y == 118)) ∙ and-false (x == 104)) ∙ is in
    cc bad
grows (x ∷ y ∷ z ∷ []) b is =
    let bad : false ≡ true =
    sym (ap (λ (v : Bool). x == 104 && (y == 118 && v)) (and-false (z == 115))
    ∙ ap (λ (v : Bool). x == 104 && v) (and-false (y == 118)) ∙ and-false (x == 104)) ∙ is in
    cc bad
grows (x ∷ y ∷ z ∷ w ∷ rest) b is = is

-- so none is a part of a line without one
no_prefix : (a b : Text) → has_token (a ++ b) ≡ false → is_token a ≡ false
no_prefix [] b none = refl
no_prefix (x ∷ xs) b none =
    by (is_token (x ∷ xs)) refl
  where
    by : (v : Bool) → is_token (x ∷ xs) ≡ v → v ≡ false
    by false is = refl
    by true is =
        let bad : true ≡ false = sym (grows (x ∷ xs) b is)
        ∙ (or_parts (is_token (x ∷ xs ++ b)) (has_token (xs ++ b)) none).0 in
        cc bad

no_rest : (a b : Text) → has_token (a ++ b) ≡ false → has_token b ≡ false
no_rest [] b none = none
no_rest (x ∷ xs) b none = no_rest xs b (or_parts (is_token (x ∷ xs ++ b)) (has_token (xs ++ b)) none).1

stays_from : (begun cs : Text) → has_token (begun ++ cs) ≡ false → hidden begun cs ≡ begun ++ cs
stays_from begun [] none =
    ap (λ (v : Bool). if v then codes "hvs.*" else begun) (no_prefix begun [] none) ∙ sym (append-nil begun)
stays_from begun (c ∷ cs) none =
    by (is_boundary c)
    (ap (λ (l : Text). hidden_segment begun ++ c ∷ l) (stays_from [] cs after)
    ∙ ap (λ (l : Text). l ++ c ∷ cs) begun_stays)
    (stays_from (begun ++ c ∷ []) cs (ap has_token (append_assoc begun (c ∷ []) cs) ∙ none)
    ∙ append_assoc begun (c ∷ []) cs)
  where
    begun_stays : hidden_segment begun ≡ begun
    begun_stays = ap (λ (v : Bool). if v then codes "hvs.*" else begun) (no_prefix begun (c ∷ cs) none)

    after : has_token cs ≡ false
    after = (or_parts (is_token (c ∷ cs)) (has_token cs) (no_rest begun (c ∷ cs) none)).1

    by : (v : Bool) → hidden_segment begun ++ c ∷ hidden [] cs ≡ begun ++ c ∷ cs
        → hidden (begun ++ c ∷ []) cs ≡ begun ++ c ∷ cs
        → (if v then hidden_segment begun ++ c ∷ hidden [] cs else hidden (begun ++ c ∷ []) cs) ≡ begun ++ c ∷ cs
    by true ends grown = ends
    by false ends grown = grown

-- such a line
pub stays : (line : Text) → has_token line ≡ false → hidden [] line ≡ line
stays line none = stays_from [] line none

-- no token begins at a byte, so there is one exactly if one begins later
pub no_token_at : (s : List ℕ) (i : ℕ) → i < length s → is_token (drop i s) ≡ false
    → has_token (drop i s) ≡ has_token (drop (i + 1) s)
no_token_at s i within none =
    let first = drop_first s i within in
    ap has_token first
    ∙ ap (λ (v : Bool). v || has_token (drop (i + 1) s)) (sym (ap is_token first) ∙ none)

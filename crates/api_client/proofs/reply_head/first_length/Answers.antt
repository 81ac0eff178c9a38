use Rattle.broker_types.specs.Words.{get_or, add-one, slice_get, to_ascii_lowercase, drop-cons, same_from_decides}
use Rattle.broker_types.specs.Words.{map_more, bytes_eq-Decides}
use Rattle.api_client.specs.Words.{◌≡◌, ◌<◌, ◌+◌, ◌++◌, ◌∷◌, ◌∙◌, [], Bool, true, false, cond, codes, drop, length}
use Rattle.api_client.specs.Words.{Some, ap, sym, map, take, List, ℕ, filter, map-append, take-append-drop, append-nil}
use Rattle.api_client.specs.Words.{header_bytes, HeaderSpan, HeadField, values_named, is_named, same_in_any_case}
use Rattle.api_client.specs.Words.{values_named-append}
use Rattle.api_client.proofs.reply_head.first_length.Goals as goal

abbrev none : HeaderSpan
none = record { name = record { start = 0; end = 0 }; value = record { start = 0; end = 0 } }

-- a field of another name adds no value
other_name : (name : List ℕ) (fields : List HeadField) (f : HeadField) → is_named name f ≡ false
    → values_named name fields ≡ []
    → values_named name (fields ++ f ∷ []) ≡ []
other_name name fields f other before =
    values_named-append name fields (f ∷ [])
    ∙ ap (λ (b : Bool). values_named name fields ++ map (λ (g : HeadField). g.1) (cond b (f ∷ []) [])) other
    ∙ append-nil (values_named name fields) ∙ before

-- the first field with the name gives the first value
first_named : (name : List ℕ) (fields more : List HeadField) (f : HeadField) → is_named name f ≡ true
    → values_named name fields ≡ []
    → Some f.1 ≡ slice_get (values_named name (fields ++ f ∷ more)) 0
first_named name fields more f named before =
    ap (λ (b : Bool). slice_get (map (λ (g : HeadField). g.1)
    (cond b (f ∷ filter (is_named name) more) (filter (is_named name) more))) 0) (sym named)
    ∙ ap (λ (vs : List (List ℕ)). slice_get (vs ++ values_named name (f ∷ more)) 0) (sym before)
    ∙ ap (λ (vs : List (List ℕ)). slice_get vs 0) (sym (values_named-append name fields (f ∷ more)))

split_at : {X Y : Type 0} (f : X → Y) (xs : List X) (i : ℕ) (d : X) → i < length xs
    → map f (take i xs) ++ f (get_or xs i d) ∷ map f (drop (i + 1) xs) ≡ map f xs
split_at f xs i d inside =
    sym (map-append f (take i xs) (get_or xs i d ∷ drop (i + 1) xs))
    ∙ ap (λ (ys : List _). map f (take i xs ++ ys)) (sym (rw add-one (drop-cons xs i d inside)))
    ∙ ap (map f) (take-append-drop i xs)

pub returns-then-eq_ignore_ascii_case : goal.returns-then-eq_ignore_ascii_case
returns-then-eq_ignore_ascii_case c =
    let text = c.args.bytes.now in
    let xs = c.args.headers.now in
    let i = c.loop-header.header-index in
    let f = header_bytes text (get_or xs i none) in
    let name = codes "content-length" in
    let test : same_in_any_case c.of.result.now name ≡ c.eq_ignore_ascii_case.result =
    sym (same_from_decides _ _ c.eq_ignore_ascii_case.ensures.test
    (bytes_eq-Decides (map to_ascii_lowercase c.of.result.now) (map to_ascii_lowercase name))) in
    let named : is_named name f ≡ true = ap (λ (t : List ℕ). same_in_any_case t name) (sym c.of.ensures) ∙ test
    ∙ c.if-eq_ignore_ascii_case.true in
    let value : c.of-then-eq_ignore_ascii_case.result.now ≡ f.1 = c.of-then-eq_ignore_ascii_case.ensures in
    ap (λ (v : List ℕ). Some v) value
    ∙ first_named name (map (header_bytes text) (take i xs))
    (map (header_bytes text) (drop (i + 1) xs)) f named c.loop-header.invariant
    ∙ ap (λ (fs : List HeadField). slice_get (values_named name fs) 0)
    (split_at (header_bytes text) xs i none c.loop-header-test.true)

pub loop-header-preserved : goal.loop-header-preserved
loop-header-preserved c =
    let text = c.args.bytes.now in
    let xs = c.args.headers.now in
    let i = c.loop-header.header-index in
    let f = header_bytes text (get_or xs i none) in
    let name = codes "content-length" in
    let test : same_in_any_case c.of.result.now name ≡ c.eq_ignore_ascii_case.result =
    sym (same_from_decides _ _ c.eq_ignore_ascii_case.ensures.test
    (bytes_eq-Decides (map to_ascii_lowercase c.of.result.now) (map to_ascii_lowercase name))) in
    let other : is_named name f ≡ false = ap (λ (t : List ℕ). same_in_any_case t name) (sym c.of.ensures) ∙ test
    ∙ c.if-eq_ignore_ascii_case.false in
    rw (map_more (header_bytes text) xs i none c.loop-header-test.true)
    (other_name name (map (header_bytes text) (take i xs)) f other c.loop-header.invariant)

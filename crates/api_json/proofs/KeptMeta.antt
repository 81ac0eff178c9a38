-- What a body brings for a token and for a policy can be kept.
use Rattle.std.proofs.Common.{◌≡◌, ◌<◌, ◌≤◌, ◌^◌, ◌+◌, ◌⊎◌, ◌==◌, ◌∷◌, ℕ, List, [], length, map, Bool, true, false, Ok}
use Rattle.broker_types.specs.Words.{Option, Some, None, Result, Err, IfOk, option_map, unwrap_or, All, slice_split}
use Rattle.broker_types.specs.Words.{slice_cmp, nat_cmp, ordering_reverse, is_lt, Greater, refl, sym, ap, ◌∙◌, subst}
use Rattle.broker_types.specs.Words.{inl, inr, arith, lit<, length-append, length-map, All-nil, All-cons}
use Rattle.broker_types.specs.Words.{length-slice_split, length-filter, count_by-le-length, same_Some, longest_body}
use Rattle.broker_types.specs.Words.{◌>>=◌, some_or, field_name, is_ascending, Text, text_cmp}
use Rattle.std.proofs.lemmas.Cmp.{nat_list_cmp_total}
use Rattle.json.specs.Print.{escape_byte, escape, quoted}
use Rattle.serde_json.specs.Data.{Data, null, boolean, number, string, array, object, Items, no_items, item, Members}
use Rattle.serde_json.specs.Data.{no_members, member}
use Rattle.serde_json.specs.Find.{get_member}
use Rattle.serde_json.specs.Written.{compact_text, items_text, members_text}
use Rattle.api_json.specs.Words.{Field, Refusal, IsRead, read_body, IsKeptMeta, each_item, each_text, comma_parts}
use Rattle.api_json.specs.Words.{is_part, without_spaces, optional, required, of_kind, given, invalid, missing, IsAfter}
use Rattle.api_json.specs.Words.{with_last, Ascends, IsCanonical}
use Rattle.broker_types.specs.declared.request_error.RequestError.{RequestError}
use Rattle.api_json.specs.Kinds as kind
use Rattle.api_json.proofs.KeptObjects.{body_stays}
use Rattle.api_json.proofs.Lengths.{length-body, short_object}
use Rattle.api_json.proofs.LengthsPrinted.{length-member}
use Rattle.api_json.proofs.Nested.{member_canonical, member_length}
use Rattle.api_json.proofs.ReadCanonical.{via_map, via_then}

-- ---- a member that may be absent

-- none, or the value of a member that is there
Taken : {X : Type 0} → (Data → Option X) → Option Data → Option X → Type 0
Taken kind found o = (o ≡ None) ⊎ ((d : Data) × (x : _) × (found ≡ Some d) × (kind d ≡ Some x) × (o ≡ Some x))

of_value : {X : Type 0} (kind : Data → Option X) (f : Field) (d : Data) (o : Option X)
    → (some_or (invalid f) (kind d) >>= (λ x. Ok (Some x))) ≡ Ok o → Taken kind (Some d) o
unfolding Taken
of_value {X = X} kind f d o e = by (kind d) refl e
  where
    by : (k : Option X) → kind d ≡ k → (some_or (invalid f) k >>= (λ x. Ok (Some x))) ≡ Ok o
        → (o ≡ None) ⊎ ((e : Data) × (x : X) × (Some d ≡ Some e) × (kind e ≡ Some x) × (o ≡ Some x))
    by None is h = cc
    by (Some x) is h = inr (d, x, refl, is, cc)

of_member : {X : Type 0} (kind : Data → Option X) (f : Field) (found : Option Data) (o : Option X)
    → of_kind kind f (given found) ≡ Ok o → Taken kind found o
unfolding Taken
of_member kind f None o e = inl cc
of_member kind f (Some null) o e = inl cc
of_member kind f (Some (boolean b)) o e = of_value kind f (boolean b) o e
of_member kind f (Some (number n)) o e = of_value kind f (number n) o e
of_member kind f (Some (string s)) o e = of_value kind f (string s) o e
of_member kind f (Some (array ds)) o e = of_value kind f (array ds) o e
of_member kind f (Some (object ms)) o e = of_value kind f (object ms) o e

-- ---- lengths

escape_byte_longer : (x : ℕ) → 1 ≤ length (escape_byte x)
unfolding escape_byte
escape_byte_longer x = grind arith

escape_longer : (s : List ℕ) → length s ≤ length (escape s)
escape_longer [] = omega arith
escape_longer (x ∷ s) = omega (arith, length-append (escape_byte x) (escape s), escape_byte_longer x, escape_longer s)

quoted_longer : (s : List ℕ) → length s ≤ length (quoted s)
quoted_longer s = omega (arith, length-append (escape s) (34 ∷ []), escape_longer s)

-- ---- names in order

above_last : (l k : Text) (d : Data) (before : Members) → IsAfter l (with_last before k d)
    → slice_cmp nat_cmp l k ≡ Greater
above_last l k d no_members h = h.0
above_last l k d (member m x before) h = above_last l k d before h.1

less : (l k : Text) → slice_cmp nat_cmp l k ≡ Greater → is_lt (text_cmp k l) ≡ true
less l k h = ap is_lt (nat_list_cmp_total.antisymm k l ∙ ap ordering_reverse h)

Ordered : List (Text × Text) → Type 0
Ordered es = is_ascending (map (λ e. e.0) es) ≡ true

front : (e f : Text × Text) (es : List (Text × Text)) → is_lt (text_cmp e.0 f.0) ≡ true → Ordered (f ∷ es)
    → Ordered (e ∷ f ∷ es)
unfolding Ordered
front e f es first rest = rw (first, rest) refl

ascends : (before ms : Members) (es : List (Text × Text)) → each_text ms ≡ Some es → Ascends before ms → Ordered es
unfolding Ordered
ascends before no_members es e h = subst Ordered (same_Some _ _ e) refl
ascends before (member k d no_members) es e h =
    let t = via_then (kind.as_text d) (λ t. option_map (λ es. (k, t) ∷ es) (Some [])) es e in
    subst Ordered (same_Some _ _ t.2) refl
ascends before (member k d (member l x rest)) es e h =
    let t = via_then (kind.as_text d) (λ t. option_map (λ es. (k, t) ∷ es) (each_text (member l x rest))) es e in
    let more = via_map (each_text (member l x rest)) (λ es. (k, t.0) ∷ es) es t.2 in
    let u = via_then (kind.as_text x) (λ t. option_map (λ es. (l, t) ∷ es) (each_text rest)) more.0 more.1 in
    let last = via_map (each_text rest) (λ es. (l, u.0) ∷ es) more.0 u.2 in
    let ih = ascends (with_last before k d) (member l x rest) more.0 more.1 h.1 in
    let whole = front (k, t.0) (l, u.0) last.0 (less l k (above_last l k d before h.1.0))
    (subst Ordered (sym last.2) ih) in
    subst Ordered more.2 (subst (λ (xs : List (Text × Text)). Ordered ((k, t.0) ∷ xs)) last.2 whole)

-- ---- how many, and how long

Both : ℕ → Text × Text → Type 0
Both n e = (length e.0 ≤ n) × (length e.1 ≤ n)

Fits : ℕ → List (Text × Text) → Type 0
Fits n es = (length es ≤ n) × All (Both n) es

more : (n m : ℕ) (es : List (Text × Text)) → All (Both m) es → m ≤ n → All (Both n) es
unfolding Both
more n m es h le = λ k d lt. let e = h k d lt in (omega (arith, e.0), omega (arith, e.1))

text_of : (d : Data) (t : Text) → kind.as_text d ≡ Some t → length t ≤ length (compact_text d)
text_of null t e = cc
text_of (boolean b) t e = cc
text_of (number n) t e = cc
text_of (string s) t e = subst (λ (x : Text). length x ≤ length (quoted s)) (same_Some _ _ e) (quoted_longer s)
text_of (array ds) t e = cc
text_of (object ms) t e = cc

fits : (later : Bool) (ms : Members) (es : List (Text × Text)) → each_text ms ≡ Some es
    → Fits (length (members_text later ms)) es
unfolding Fits Both
fits later no_members es e = subst (λ (xs : List (Text × Text)). Fits 1 xs) (same_Some _ _ e)
    (omega arith, All-nil (Both 1))
fits later (member k d ms) es e =
    let t = via_then (kind.as_text d) (λ t. option_map (λ es. (k, t) ∷ es) (each_text ms)) es e in
    let rest = via_map (each_text ms) (λ es. (k, t.0) ∷ es) es t.2 in
    let ih = fits true ms rest.0 rest.1 in
    let n = length (members_text later (member k d ms)) in
    let whole = length-member later k d ms in
    subst (λ (xs : List (Text × Text)). Fits n xs) rest.2 (
      omega (arith, whole, ih.0),
      All-cons (Both n) (k, t.0) rest.0 (omega (arith, whole, quoted_longer k), omega (arith, whole, text_of d t.0 t.1))
          (more n (length (members_text true ms)) rest.0 ih.1 (omega (arith, whole))),
    )

few_items : (ds : Items) (ts : List Text) → each_item kind.as_text ds ≡ Some ts
    → length ts ≤ length (items_text true ds)
few_items no_items ts e = subst (λ (xs : List Text). length xs ≤ 1) (same_Some _ _ e) (omega arith)
few_items (item d ds) ts e =
    let t = via_then (kind.as_text d) (λ t. option_map (λ es. t ∷ es) (each_item kind.as_text ds)) ts e in
    let rest = via_map (each_item kind.as_text ds) (λ es. t.0 ∷ es) ts t.2 in
    let n = length (items_text true (item d ds)) in
    subst (λ (xs : List Text). length xs ≤ n) rest.2
    (omega (arith, few_items ds rest.0 rest.1, length-append (compact_text d) (items_text true ds)))

first_item : (ds : Items) → length (items_text true ds) ≤ length (items_text false ds) + 1
first_item no_items = omega arith
first_item (item d ds) = omega arith

few_parts : (s : Text) → length (comma_parts s) ≤ length s + 1
unfolding comma_parts
few_parts s =
    let parts = slice_split (λ c. c == 44) s in
    omega (
      arith,
      length-filter is_part (map without_spaces parts),
      count_by-le-length is_part (map without_spaces parts),
      length-map parts without_spaces,
      length-slice_split (λ c. c == 44) s,
      count_by-le-length (λ c. c == 44) s,
    )

few_texts : (d : Data) (ts : List Text) → kind.as_texts d ≡ Some ts → length ts ≤ length (compact_text d) + 1
few_texts null ts e = cc
few_texts (boolean b) ts e = cc
few_texts (number n) ts e = cc
few_texts (string s) ts e = subst (λ (xs : List Text). length xs ≤ length (quoted s) + 1) (same_Some _ _ e)
    (omega (arith, few_parts s, quoted_longer s))
few_texts (array ds) ts e = omega (arith, few_items ds ts e, first_item ds)
few_texts (object ms) ts e = cc

-- ---- what a body brings

pub few_policies : (body : List ℕ) (ms : Members) (f : Field) (o : Option (List Text)) → length body ≤ longest_body
    → read_body body ≡ Some ms
    → optional kind.as_texts f ms ≡ Ok o → length (unwrap_or o []) + 1 < 2 ^ 32
unfolding optional Taken
few_policies body ms f o fit e h = by (of_member kind.as_texts f (get_member (field_name f) ms) o h)
  where
    by : Taken kind.as_texts (get_member (field_name f) ms) o → length (unwrap_or o []) + 1 < 2 ^ 32
    by (inl none) = subst (λ (x : Option (List Text)). length (unwrap_or x []) + 1 < 2 ^ 32) (sym none) (lit< tt)
    by (inr t) =
        subst (λ (x : Option (List Text)). length (unwrap_or x []) + 1 < 2 ^ 32) (sym t.4)
        (omega (arith, few_texts t.0 t.1 t.3, member_length (field_name f) ms t.0 t.2, length-body body ms e))

none_kept : IsKeptMeta []
none_kept = record { few = lit< tt; short = All-nil _; ascend = refl }

object_kept : (n : ℕ) (d : Data) (es : List (Text × Text)) → kind.as_pairs d ≡ Some es → IsCanonical d
    → length (compact_text d) ≤ n → n < 2 ^ 32 → IsKeptMeta es
unfolding Fits Both Ordered
object_kept n null es e c h s = cc
object_kept n (boolean b) es e c h s = cc
object_kept n (number m) es e c h s = cc
object_kept n (string t) es e c h s = cc
object_kept n (array ds) es e c h s = cc
object_kept n (object ms) es e c h s =
    let f = fits false ms es e in
    record {
      few = omega (arith, f.0);
      short = λ k d lt. let b = f.1 k d lt in (omega (arith, b.0), omega (arith, b.1));
      ascend = ascends no_members ms es e c.1;
    }

pub meta_kept : (body : List ℕ) (ms : Members) (f : Field) (o : Option (List (Text × Text)))
    → length body ≤ longest_body → read_body body ≡ Some ms
    → optional kind.as_pairs f ms ≡ Ok o → IsKeptMeta (unwrap_or o [])
unfolding optional Taken
meta_kept body ms f o fit e h = by (of_member kind.as_pairs f (get_member (field_name f) ms) o h)
  where
    by : Taken kind.as_pairs (get_member (field_name f) ms) o → IsKeptMeta (unwrap_or o [])
    by (inl none) = subst (λ (x : Option (List (Text × Text))). IsKeptMeta (unwrap_or x [])) (sym none) none_kept
    by (inr t) =
        subst (λ (x : Option (List (Text × Text))). IsKeptMeta (unwrap_or x [])) (sym t.4)
        (object_kept (length (compact_text (object ms))) t.0 t.1 t.3
        (member_canonical (field_name f) ms t.0 (body_stays body ms e).canonical.0 t.2)
        (member_length (field_name f) ms t.0 t.2) (short_object body ms e fit))

asked : (o : Option Text) (f : Field) (t : Text) → some_or (missing f) o ≡ Ok t → o ≡ Some t
asked None f t e = cc
asked (Some u) f t e = cc

pub short_text : (body : List ℕ) (ms : Members) (f : Field) (r : Result Text RequestError) → length body ≤ longest_body
    → read_body body ≡ Some ms
    → IsRead (required kind.as_text f ms) r → IfOk r (λ t. length t < 2 ^ 32)
unfolding optional Taken
short_text body ms f (Err x) fit e h = tt
short_text body ms f (Ok t) fit e h = by (optional kind.as_text f ms) refl h
  where
    of_taken : (o : Option Text) → o ≡ Some t → Taken kind.as_text (get_member (field_name f) ms) o → length t < 2 ^ 32
    of_taken o is (inl none) = absurd (cc)
    of_taken o is (inr g) =
        let same : g.1 ≡ t = same_Some _ _ (sym g.4 ∙ is) in
        subst (λ (x : Text). length x < 2 ^ 32) same
        (omega (arith, text_of g.0 g.1 g.3, member_length (field_name f) ms g.0 g.2, short_object body ms e fit))

    by : (m : Result (Option Text) Refusal) → optional kind.as_text f ms ≡ m
        → (m >>= (λ x. some_or (missing f) x)) ≡ Ok t → length t < 2 ^ 32
    by (Err x) is k = absurd (cc)
    by (Ok o) is k = of_taken o (asked o f t k) (of_member kind.as_text f (get_member (field_name f) ms) o is)

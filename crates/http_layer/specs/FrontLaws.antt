-- Laws of fronts: bytes have one, more bytes keep one that is known, and a whole request lies within the bytes.
use Rattle.std.specs.Prelude.{◌≡◌, ◌≢◌, ◌+◌, ◌-◌, ◌<◌, ◌≤◌, ◌∷◌, ◌++◌, ◌⊎◌, ℕ, Bool, true, false, cond, List, [], IfOk}
use Rattle.broker_types.specs.Words.{codes, length, take, drop, slice_range, Result, Ok, Err, nat_le, nat_lt, refl, sym}
use Rattle.broker_types.specs.Words.{ap, subst, length-append, length-take, zero-le, le_of_eq, le_of_lt, le-add_right}
use Rattle.broker_types.specs.Words.{lt_of_lt_of_le, add-sub_of_le, inl, inr, ◌∙◌, add-sub_cancel_left, min-le_left}
use Rattle.broker_types.specs.Words.{min-le_right, sub-eq-zero_iff_le, take-append-add, take-append-le, append-nil}
use Rattle.broker_types.specs.Words.{take_all, cases_lt, false≢true, le-leb, leb-true, digits_value, longest_body}
use Rattle.std.proofs.Common.{le_trans}
use Rattle.httparse.proofs.GrammarLemmas.{request_unique}
use Rattle.broker_types.specs.declared.status.Status.{Status}
use Rattle.broker_types.specs.declared.status.Status.TheVariants.{BadRequest, PayloadTooLarge, NotImplemented}
use Rattle.http_layer.specs.HeadParts.{HeadParts, IsHead, parts_of, values_named}
use Rattle.http_layer.specs.Front.{Front, need, refused_with, whole, HeadFront, unended, too_long, malformed, read}
use Rattle.http_layer.specs.Front.{HeadEnds, HasNoHeadEnd, window, is_too_long, IsHeadFront, IsFront, front_of_body}
use Rattle.http_layer.specs.Front.{front_of_head, body_length, content_length, is_number, may_have_hosts, longest_head}
use Rattle.http_layer.specs.HeadEndLaws.{slice-append, HeadEnds-some, HeadEnds-fits, HeadEnds-unique, HeadEnds-append}
use Rattle.http_layer.specs.Laws.{FrontIsUnique, KnownFrontStays, WholeRequestIsWithin, WholeRequestHasShortBody}

-- ---- the window: these alone look at what it is

window-some : (s : List ℕ) (len : ℕ) → HeadEnds (window s) len → 0 < len
window-some s len h = HeadEnds-some (window s) len h

window-fits : (s : List ℕ) (len : ℕ) → HeadEnds (window s) len → len ≤ length s
window-fits s len h =
    le_trans (HeadEnds-fits (window s) len h)
    (le_trans (le_of_eq (length-take longest_head s)) (min-le_right longest_head (length s)))

-- the first bytes of a longer list go on where those of the shorter one end
take-longer : (n : ℕ) (s t : List ℕ) → (n < length s) ⊎ (length s ≤ n)
    → take n (s ++ t) ≡ take n s ++ take (n - length s) t
take-longer n s t (inl less) =
    take-append-le n s t (le_of_lt less) ∙ sym (append-nil (take n s))
    ∙ ap (λ (k : ℕ). take n s ++ take k t) (sym (sub-eq-zero_iff_le.1 (le_of_lt less)))
take-longer n s t (inr more) =
    ap (λ (k : ℕ). take k (s ++ t)) (sym (add-sub_of_le more)) ∙ take-append-add s t (n - length s)
    ∙ ap (λ (l : List ℕ). l ++ take (n - length s) t) (sym (take_all n s more))

window-append : (s t : List ℕ) (len : ℕ) → HeadEnds (window s) len → HeadEnds (window (s ++ t)) len
window-append s t len h =
    subst (λ (w : List ℕ). HeadEnds w len) (sym (take-longer longest_head s t (cases_lt longest_head (length s))))
    (HeadEnds-append (window s) (take (longest_head - length s) t) len h)

is_too_long-append : (s t : List ℕ) → is_too_long s ≡ true → HasNoHeadEnd (window s)
    → (is_too_long (s ++ t) ≡ true) × HasNoHeadEnd (window (s ++ t))
is_too_long-append s t long none =
    let full : longest_head ≤ length s = leb-true longest_head (length s) long in
    let more : longest_head ≤ length (s ++ t) =
    subst (λ (k : ℕ). longest_head ≤ k) (sym (length-append s t))
    (le_trans full (le-add_right (length s) (length t))) in
    (le-leb longest_head (length (s ++ t)) more, subst HasNoHeadEnd (sym (take-append-le longest_head s t full)) none)

-- ---- one front

IsHead-unique : (text : List ℕ) (p q : HeadParts) → IsHead text p → IsHead text q → p ≡ q
IsHead-unique text p q a b =
    a.3 ∙ ap parts_of (request_unique text a.0 b.0 [] [] a.1 b.1).0 ∙ sym b.3

same_head : (s : List ℕ) (p q : HeadParts) → IsHeadFront s (read p) → IsHeadFront s (read q) → p ≡ q
same_head s p q a b =
    let size : p.size ≡ q.size = HeadEnds-unique (window s) p.size q.size a.0 b.0 in
    IsHead-unique (take q.size s) p q (subst (λ (n : ℕ). IsHead (take n s) p) size a.1) b.1

no_read : (s : List ℕ) (p : HeadParts) → IsHeadFront s malformed → IsHeadFront s (read p) → ⊥
no_read s p (len, ends, none) b =
    let size : p.size ≡ len = HeadEnds-unique (window s) p.size len b.0 ends in
    none p (subst (λ (n : ℕ). IsHead (take n s) p) size b.1)

same_front : (s : List ℕ) (a b : HeadFront) → IsHeadFront s a → IsHeadFront s b → front_of_head s a ≡ front_of_head s b
same_front s unended unended x y = refl
same_front s unended too_long x y = absurd (false≢true (sym x.0 ∙ y.0))
same_front s unended malformed x y = absurd (x.1 y.0 y.1)
same_front s unended (read q) x y = absurd (x.1 q.size y.0)
same_front s too_long unended x y = absurd (false≢true (sym y.0 ∙ x.0))
same_front s too_long too_long x y = refl
same_front s too_long malformed x y = absurd (x.1 y.0 y.1)
same_front s too_long (read q) x y = absurd (x.1 q.size y.0)
same_front s malformed unended x y = absurd (y.1 x.0 x.1)
same_front s malformed too_long x y = absurd (y.1 x.0 x.1)
same_front s malformed malformed x y = refl
same_front s malformed (read q) x y = absurd (no_read s q x y)
same_front s (read p) unended x y = absurd (y.1 p.size x.0)
same_front s (read p) too_long x y = absurd (y.1 p.size x.0)
same_front s (read p) malformed x y = absurd (no_read s p y x)
same_front s (read p) (read q) x y = ap (λ (r : HeadParts). front_of_head s (read r)) (same_head s p q x y)

-- a stream has at most one front
pub IsFront-unique : FrontIsUnique
IsFront-unique s f g a b = a.front ∙ same_front s a.head b.head a.is_head b.is_head ∙ sym b.front

-- ---- more bytes

body-append : (s t : List ℕ) (p : HeadParts) (r : Result ℕ Status) → front_of_body s p r ≢ need
    → front_of_body (s ++ t) p r ≡ front_of_body s p r
body-append s t p (Err status) known = refl
body-append s t p (Ok n) known = body_at (nat_le (p.size + n) (length s)) refl known
  where
    body_at : (b : Bool) → nat_le (p.size + n) (length s) ≡ b
        → (cond b (whole (p.size + n) p (slice_range s p.size (p.size + n))) need ≢ need)
        → front_of_body (s ++ t) p (Ok n) ≡ cond b (whole (p.size + n) p (slice_range s p.size (p.size + n))) need
    body_at false is known = absurd (known refl)
    body_at true is known =
        let room : p.size + n ≤ length s = leb-true (p.size + n) (length s) is in
        let more : p.size + n ≤ length (s ++ t) =
        subst (λ (k : ℕ). p.size + n ≤ k) (sym (length-append s t))
        (le_trans room (le-add_right (length s) (length t))) in
        let inside : p.size + (p.size + n - p.size) ≤ length s =
        subst (λ (k : ℕ). p.size + k ≤ length s) (sym (add-sub_cancel_left p.size n)) room in
        let body : slice_range (s ++ t) p.size (p.size + n) ≡ slice_range s p.size (p.size + n) =
        slice-append s t p.size (p.size + n - p.size) inside in
        ap (λ (b : Bool). cond b (whole (p.size + n) p (slice_range (s ++ t) p.size (p.size + n))) need)
        (le-leb (p.size + n) (length (s ++ t)) more)
        ∙ ap (whole (p.size + n) p) body

front-append_at : (s t : List ℕ) (h : HeadFront) → IsHeadFront s h → front_of_head s h ≢ need
    → IsFront (s ++ t) (front_of_head s h)
front-append_at s t unended x known = absurd (known refl)
front-append_at s t too_long x known =
    record { head = too_long; is_head = is_too_long-append s t x.0 x.1; front = refl }
front-append_at s t malformed (len, ends, none) known =
    let same : take len (s ++ t) ≡ take len s = take-append-le len s t (window-fits s len ends) in
    record {
      head = malformed;
      is_head = (
        len,
        window-append s t len ends,
        λ p there. none p (subst (λ (w : List ℕ). IsHead w p) same there),
      );
      front = refl;
    }
front-append_at s t (read p) x known =
    let same : take p.size (s ++ t) ≡ take p.size s = take-append-le p.size s t (window-fits s p.size x.0) in
    record {
      head = read p;
      is_head = (window-append s t p.size x.0, subst (λ (w : List ℕ). IsHead w p) (sym same) x.1);
      front = sym (body-append s t p (body_length p) known);
    }

-- more bytes do not change a front that is known
pub IsFront-append : KnownFrontStays
IsFront-append s t f a known =
    subst (IsFront (s ++ t)) (sym a.front) (front-append_at s t a.head a.is_head (λ e. known (a.front ∙ e)))

-- ---- a whole request lies within the bytes, and its body is short

length-short : (vs : List (List ℕ)) → IfOk (content_length vs) (λ n. n ≤ longest_body)
length-short [] = zero-le
length-short (v ∷ []) = at (is_number v) (nat_le (digits_value 10 v) longest_body) refl
  where
    at : (number short : Bool) → nat_le (digits_value 10 v) longest_body ≡ short
        → IfOk (cond number (cond short (Ok (digits_value 10 v)) (Err PayloadTooLarge)) (Err BadRequest))
        (λ n. n ≤ longest_body)
    at true true is = leb-true (digits_value 10 v) longest_body is
    at true false is = tt
    at false short is = tt
length-short (v ∷ w ∷ vs) = tt

body-short : (p : HeadParts) → IfOk (body_length p) (λ n. n ≤ longest_body)
body-short p =
    at (nat_lt 0 (length (values_named (codes "transfer-encoding") p.fields)))
    (may_have_hosts p.minor (length (values_named (codes "host") p.fields)))
  where
    at : (coded hosted : Bool)
        → IfOk (cond coded (Err NotImplemented)
        (cond hosted (content_length (values_named (codes "content-length") p.fields)) (Err BadRequest)))
        (λ n. n ≤ longest_body)
    at true hosted = tt
    at false true = length-short (values_named (codes "content-length") p.fields)
    at false false = tt

-- the bounds of a front in the stream s, if it is a whole request
abbrev IsBounded : List ℕ → Front → Type 0
IsBounded s need = Unit {0}
IsBounded s (refused_with status) = Unit {0}
IsBounded s (whole len head body) = (0 < len) × (len ≤ length s) × (length body ≤ longest_body)

body-bounded : (s : List ℕ) (p : HeadParts) (r : Result ℕ Status) → 0 < p.size → IfOk r (λ n. n ≤ longest_body)
    → IsBounded s (front_of_body s p r)
body-bounded s p (Err status) some short = tt
body-bounded s p (Ok n) some short = at (nat_le (p.size + n) (length s)) refl
  where
    at : (b : Bool) → nat_le (p.size + n) (length s) ≡ b
        → IsBounded s (cond b (whole (p.size + n) p (slice_range s p.size (p.size + n))) need)
    at false is = tt
    at true is =
        let size : p.size + n - p.size ≤ longest_body =
        subst (λ (k : ℕ). k ≤ longest_body) (sym (add-sub_cancel_left p.size n)) short in (
          lt_of_lt_of_le some (le-add_right p.size n),
          leb-true (p.size + n) (length s) is,
          le_trans (le_of_eq (length-take (p.size + n - p.size) (drop p.size s))) (le_trans (min-le_left _ _) size),
        )

front-bounded : (s : List ℕ) (h : HeadFront) → IsHeadFront s h → IsBounded s (front_of_head s h)
front-bounded s unended x = tt
front-bounded s too_long x = tt
front-bounded s malformed x = tt
front-bounded s (read p) x = body-bounded s p (body_length p) (window-some s p.size x.0) (body-short p)

whole-bounded : (s : List ℕ) (len : ℕ) (head : HeadParts) (body : List ℕ) → IsFront s (whole len head body)
    → IsBounded s (whole len head body)
whole-bounded s len head body a = subst (IsBounded s) (sym a.front) (front-bounded s a.head a.is_head)

-- a whole request takes at least one byte, and no more than there are
pub whole_within : WholeRequestIsWithin
whole_within s len head body a = let at = whole-bounded s len head body a in (at.0, at.1)

-- the body of a whole request is at most 1,048,576 bytes long
pub whole_short : WholeRequestHasShortBody
whole_short s len head body a = (whole-bounded s len head body a).2

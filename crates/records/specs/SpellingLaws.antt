-- Spellings of fields: none begins another.
use Rattle.std.specs.Prelude.{◌≡◌, ◌<◌, ◌≤◌, ◌^◌, ◌∷◌, ◌++◌, ℕ, List, [], length, take, drop, get_or, All, Bool, true}
use Rattle.broker_types.specs.Words.{false, Option, Some, None, ⊤, w32, w64, from_be_bytes, refl, sym, ◌∙◌, ap, arith}
use Rattle.broker_types.specs.Words.{append_assoc, take-append_seam, append_cancel_left, All-head, All-tail}
use Rattle.broker_types.specs.Words.{from_be_bytes-to_be_bytes_4, from_be_bytes-to_be_bytes_8, be_bytes_4, be_bytes_8}
use Rattle.broker_types.specs.Words.{Text, IsMoment, IsShortText}
use Rattle.records.specs.Fields.{IsLongText}
use Rattle.records.specs.RowReaders.{IsWide, IsSomeIn, IsListOf}
use Rattle.records.specs.RowForms.{pair}
use Rattle.records.specs.Spelling.{number, count, text, long_text, flag, optional_field, items, listed}
use Rattle.records.specs.TokenEntry.{IsPolicies, IsMeta, IsShortPair}

-- no spelling of one value begins that of another
pub record IsPrefixFree {X : Type 0} (IsInRange : X → Type 0) (spell : X → List ℕ) : Type 0 where
  pub unique : (x y : X) (r s : List ℕ) → IsInRange x → IsInRange y → spell x ++ r ≡ spell y ++ s → (x ≡ y) × (r ≡ s)

same_fronts : (xs ys r s : List ℕ) → length xs ≡ length ys → xs ++ r ≡ ys ++ s → xs ≡ ys
same_fronts xs ys r s long e = sym (take-append_seam xs r) ∙ (λ i. take (long i) (e i)) ∙ take-append_seam ys s

-- ---- numbers

-- numbers in that many bytes, greatest first
pub record IsWord (size : ℕ) (IsInRange : ℕ → Type 0) (told : List ℕ → ℕ) (spell : ℕ → List ℕ) : Type 0 where
  pub long : (n : ℕ) → length (spell n) ≡ size
  pub there : (n : ℕ) → IsInRange n → told (spell n) ≡ n
  pub back : (bytes : List ℕ) → length bytes ≡ size → ((i : ℕ) → get_or bytes i 0 < 256) → spell (told bytes) ≡ bytes

pub number_word : IsWord 8 IsWide (from_be_bytes w64) number
unfolding number
number_word = record {
  long = λ n. refl;
  there = from_be_bytes-to_be_bytes_8;
  back = λ bytes long small. be_bytes_8 bytes _ long small refl;
}

pub count_word : IsWord 4 (λ n. n < 2 ^ 32) (from_be_bytes w32) count
unfolding count
count_word = record {
  long = λ n. refl;
  there = from_be_bytes-to_be_bytes_4;
  back = λ bytes long small. be_bytes_4 bytes _ long small refl;
}

pub word_free : {size : ℕ} {P : ℕ → Type 0} {told : List ℕ → ℕ} {spell : ℕ → List ℕ} → IsWord size P told spell
    → IsPrefixFree P spell
word_free {told = told} {spell = spell} w = record {
  unique = λ x y r s hx hy e.
      let front = same_fronts (spell x) (spell y) r s (w.long x ∙ sym (w.long y)) e in
      let one : x ≡ y = sym (w.there x hx) ∙ ap told front ∙ w.there y hy in
      (one, append_cancel_left (spell y) r s (ap (λ n. spell n ++ r) (sym one) ∙ e));
}

pub number_free : IsPrefixFree IsWide number
number_free = word_free number_word

pub count_free : IsPrefixFree (λ n. n < 2 ^ 32) count
count_free = word_free count_word

-- ---- texts after their lengths

measured_free : {P : ℕ → Type 0} {measure : ℕ → List ℕ} {IsInRange : Text → Type 0} → IsPrefixFree P measure
    → ((t : Text) → IsInRange t → P (length t)) → IsPrefixFree IsInRange (λ t. measure (length t) ++ t)
measured_free {measure = measure} free within = record {
  unique = λ x y r s hx hy e.
      let e' = sym (append_assoc (measure (length x)) x r) ∙ e ∙ append_assoc (measure (length y)) y s in
      let parts = free.unique (length x) (length y) (x ++ r) (y ++ s) (within x hx) (within y hy) e' in
      let one : x ≡ y = same_fronts x y r s parts.0 parts.1 in
      (one, append_cancel_left y r s (ap (λ t. t ++ r) (sym one) ∙ parts.1));
}

pub text_free : IsPrefixFree IsShortText text
text_free = measured_free count_free (λ t h. h.short)

pub long_text_free : IsPrefixFree IsLongText long_text
long_text_free = measured_free number_free (λ t h. h.short)

-- ---- values by way of others

-- each value of Y in range has its own value of X
pub record IsWay {X Y : Type 0} (f : Y → X) (IsWithin : X → Type 0) (IsInRange : Y → Type 0) : Type 0 where
  pub within : (y : Y) → IsInRange y → IsWithin (f y)
  pub one : (y z : Y) → f y ≡ f z → y ≡ z

pub free_by : {X Y : Type 0} {f : Y → X} {IsWithin : X → Type 0} {IsInRange : Y → Type 0} {spell : X → List ℕ}
    → IsWay f IsWithin IsInRange
    → IsPrefixFree IsWithin spell → IsPrefixFree IsInRange (λ y. spell (f y))
free_by {f = f} way free = record {
  unique = λ y z r s hy hz e.
      let both = free.unique (f y) (f z) r s (way.within y hy) (way.within z hz) e in
      (way.one y z both.0, both.1);
}

pub moment_way : IsWay (λ (n : ℕ). n) IsWide IsMoment
moment_way = record { within = λ n h. omega (arith, h); one = λ m n e. e }

pub moment_free : IsPrefixFree IsMoment number
moment_free = free_by moment_way number_free

pub up_to_way : (most : ℕ) → most < 2 ^ 64 → IsWay (λ (n : ℕ). n) IsWide (λ n. n ≤ most)
up_to_way most below = record { within = λ n h. omega (arith, h, below); one = λ m n e. e }

pub up_to_free : (most : ℕ) → most < 2 ^ 64 → IsPrefixFree (λ n. n ≤ most) number
up_to_free most below = free_by (up_to_way most below) number_free

-- ---- flags, pairs and what may be absent

pub flag_free : IsPrefixFree (λ _. ⊤) flag
flag_free = record { unique = unique }
  where
    unique : (x y : Bool) (r s : List ℕ) → ⊤ → ⊤ → flag x ++ r ≡ flag y ++ s → (x ≡ y) × (r ≡ s)
    unique false false r s _ _ e = (refl, ap (drop 1) e)
    unique true true r s _ _ e = (refl, ap (drop 1) e)
    unique false true r s _ _ e = absurd (cc)
    unique true false r s _ _ e = absurd (cc)

pub pair_free : {X Y : Type 0} {P : X → Type 0} {Q : Y → Type 0} {s : X → List ℕ} {t : Y → List ℕ} → IsPrefixFree P s
    → IsPrefixFree Q t
    → IsPrefixFree (λ (p : X × Y). P p.0 × Q p.1) (λ p. s p.0 ++ t p.1)
pair_free {s = s} {t = t} first second = record {
  unique = λ y z q r hy hz e.
      let e' = sym (append_assoc (s y.0) (t y.1) q) ∙ e ∙ append_assoc (s z.0) (t z.1) r in
      let fronts = first.unique y.0 z.0 (t y.1 ++ q) (t z.1 ++ r) hy.0 hz.0 e' in
      let backs = second.unique y.1 z.1 q r hy.1 hz.1 fronts.1 in
      (λ i. (fronts.0 i, backs.0 i), backs.1);
}

pub optional_free : {X : Type 0} {P : X → Type 0} {spell : X → List ℕ} → IsPrefixFree P spell
    → IsPrefixFree (IsSomeIn P) (optional_field spell)
optional_free {X = X} {P = P} {spell = spell} free = record { unique = unique }
  where
    unique : (x y : Option X) (r s : List ℕ) → IsSomeIn P x → IsSomeIn P y
        → optional_field spell x ++ r ≡ optional_field spell y ++ s → (x ≡ y) × (r ≡ s)
    unique None None r s hx hy e = (refl, ap (drop 1) e)
    unique None (Some y) r s hx hy e = absurd (cc)
    unique (Some x) None r s hx hy e = absurd (cc)
    unique (Some x) (Some y) r s hx hy e =
        let parts = free.unique x y r s (hx x refl) (hy y refl) (ap (drop 1) e) in
        (ap Some parts.0, parts.1)

-- ---- lists

module _ {X : Type 0} {P : X → Type 0} {spell : X → List ℕ} (free : IsPrefixFree P spell) where
  items_unique : (xs ys : List X) (r s : List ℕ) → All P xs → All P ys → length xs ≡ length ys
      → items spell xs ++ r ≡ items spell ys ++ s → (xs ≡ ys) × (r ≡ s)
  items_unique [] [] r s hx hy long e = (refl, e)
  items_unique [] (y ∷ ys) r s hx hy long e = absurd (omega (arith, long))
  items_unique (x ∷ xs) [] r s hx hy long e = absurd (omega (arith, long))
  items_unique (x ∷ xs) (y ∷ ys) r s hx hy long e =
      let parts = free.unique x y (items spell xs ++ r) (items spell ys ++ s) (All-head P x xs hx) (All-head P y ys hy)
      (sym (append_assoc (spell x) (items spell xs) r) ∙ e ∙ append_assoc (spell y) (items spell ys) s) in
      let shorter : length xs ≡ length ys = omega (arith, long) in
      let rest = items_unique xs ys r s (All-tail P x xs hx) (All-tail P y ys hy) shorter parts.1 in
      ((λ i. parts.0 i ∷ rest.0 i), rest.1)

  pub listed_free : IsPrefixFree (IsListOf P) (listed spell)
  listed_free = record {
    unique = λ x y r s hx hy e.
        let counts = count_free.unique (length x) (length y) (items spell x ++ r) (items spell y ++ s) hx.few hy.few
        (sym (append_assoc (count (length x)) (items spell x) r) ∙ e
        ∙ append_assoc (count (length y)) (items spell y) s) in
        items_unique x y r s hx.each hy.each counts.0 counts.1;
  }

pub policies_way : IsWay (λ (xs : List Text). xs) (IsListOf IsShortText) IsPolicies
policies_way = record { within = λ xs h. h.names; one = λ xs ys e. e }

pub policies_free : IsPrefixFree IsPolicies (listed text)
policies_free = free_by policies_way (listed_free text_free)

pub meta_way : IsWay (λ (es : List (Text × Text)). es) (IsListOf IsShortPair) IsMeta
meta_way = record { within = λ es h. h.members; one = λ es fs e. e }

pub meta_free : IsPrefixFree IsMeta (listed pair)
meta_free = free_by meta_way (listed_free (pair_free text_free text_free))

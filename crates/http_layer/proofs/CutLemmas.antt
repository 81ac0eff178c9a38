-- The front, where the code knows its case.
use Rattle.std.proofs.Common.{◌≡◌, ◌+◌, ◌<◌, ◌≤◌, ℕ, Bool, true, false, cond, List, length, take, slice_range, Result}
use Rattle.broker_types.specs.Words.{Ok, Err, nat_le, refl, sym, ap, ◌∙◌, subst, arith, length-take-le, nat_tests}
use Rattle.http_layer.specs.Words.{Status, HeadParts, IsHead, need, refused_with, whole, read, unended, too_long}
use Rattle.http_layer.specs.Words.{HeadEnds, HasNoHeadEnd, window, is_too_long, longest_head, IsFront, front_of_body}
use Rattle.http_layer.specs.Words.{body_length}
use Rattle.broker_types.specs.declared.status.Status.TheVariants.{HeaderFieldsTooLarge}

-- the head is the first len bytes of s, and p has its parts
pub record ReadsHead (s : List ℕ) (len : ℕ) (p : HeadParts) : Type 0 where
  pub ends : HeadEnds (window s) len
  pub head : IsHead (take len s) p
  pub size : p.size ≡ len

pub reads_head : (s : List ℕ) (len : ℕ) (p : HeadParts) → HeadEnds (window s) len → len ≤ length s
    → IsHead (take len s) p
    → p.size ≡ length (take len s) → ReadsHead s len p
reads_head s len p ends within head size =
    record { ends = ends; head = head; size = size ∙ length-take-le len s within }

-- where no head ends within the first bytes
pub IsFront-unended : (s : List ℕ) → HasNoHeadEnd (window s)
    → IsFront s (cond (nat_le longest_head (length s)) (refused_with HeaderFieldsTooLarge) need)
IsFront-unended s none = at (is_too_long s) refl
  where
    at : (long : Bool) → is_too_long s ≡ long → IsFront s (cond long (refused_with HeaderFieldsTooLarge) need)
    at true is = record { head = too_long; is_head = (is, none); front = refl }
    at false is = record { head = unended; is_head = (is, none); front = refl }

IsFront-read : (s : List ℕ) (len : ℕ) (p : HeadParts) (r : Result ℕ Status) → ReadsHead s len p → body_length p ≡ r
    → IsFront s (front_of_body s p r)
IsFront-read s len p r h is =
    record {
      head = read p;
      is_head = (
        subst (λ (n : ℕ). HeadEnds (window s) n) (sym h.size) h.ends,
        subst (λ (n : ℕ). IsHead (take n s) p) (sym h.size) h.head,
      );
      front = ap (front_of_body s p) (sym is);
    }

pub IsFront-refused : (s : List ℕ) (len : ℕ) (p : HeadParts) (status : Status) → ReadsHead s len p
    → body_length p ≡ Err status
    → IsFront s (refused_with status)
IsFront-refused s len p status h is = IsFront-read s len p (Err status) h is

pub IsFront-whole : (s : List ℕ) (len : ℕ) (p : HeadParts) (n : ℕ) (body : List ℕ) → ReadsHead s len p
    → body_length p ≡ Ok n
    → len + n ≤ length s → body ≡ slice_range s len (len + n) → IsFront s (whole (len + n) p body)
IsFront-whole s len p n body h is fits same =
    let test : nat_le (p.size + n) (length s) ≡ true = grind (arith, nat_tests, h.size) in
    let there : front_of_body s p (Ok n) ≡ whole (len + n) p body =
    ap (λ (b : Bool). cond b (whole (p.size + n) p (slice_range s p.size (p.size + n))) need) test
    ∙ ap (λ (m : ℕ). whole (m + n) p (slice_range s m (m + n))) h.size
    ∙ ap (whole (len + n) p) (sym same) in
    subst (IsFront s) there (IsFront-read s len p (Ok n) h is)

pub IsFront-short : (s : List ℕ) (len : ℕ) (p : HeadParts) (n : ℕ) → ReadsHead s len p → body_length p ≡ Ok n
    → length s < len + n
    → IsFront s need
IsFront-short s len p n h is short =
    let test : nat_le (p.size + n) (length s) ≡ false = grind (arith, nat_tests, h.size) in
    let there : front_of_body s p (Ok n) ≡ need =
    ap (λ (b : Bool). cond b (whole (p.size + n) p (slice_range s p.size (p.size + n))) need) test in
    subst (IsFront s) there (IsFront-read s len p (Ok n) h is)

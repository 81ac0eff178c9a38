-- A request that is printed is the front of its bytes.
use Rattle.std.proofs.Common.{◌≡◌, ◌+◌, ◌-◌, ◌<◌, ◌≤◌, ◌++◌, refl, ℕ, Bool, true, cond, List, [], length, take, codes}
use Rattle.broker_types.specs.Words.{decimal, slice_range, Ok, Err, Result, nat_le, nat_lt, sym, ap, ◌∙◌, subst, arith}
use Rattle.broker_types.specs.Words.{append-nil, length-append, add-sub_of_le, drop-append_seam, take-append_seam}
use Rattle.broker_types.specs.Words.{take-append-add, take_all, le-leb, and_from, nat_tests, decimal_is_IsNumeral}
use Rattle.broker_types.specs.Words.{digits_value, longest_body}
use Rattle.httparse.specs.Grammar.{print_request}
use Rattle.http_layer.specs.Words.{Status, HeadParts, IsHead, parts_of, values_named, whole, need, read, HeadEnds}
use Rattle.http_layer.specs.Words.{window, longest_head, IsFront, front_of_body, body_length, content_length}
use Rattle.http_layer.specs.Words.{may_have_hosts, is_number, HeadEnds-append, PrintedRequestIsFront}
use Rattle.http_layer.specs.Words.{PrintedLengthIsRead, printed_head}
use Rattle.broker_types.specs.declared.status.Status.TheVariants.{BadRequest, PayloadTooLarge, NotImplemented}
use Rattle.broker_types.specs.DecimalLaws.{digits_all}
use Rattle.http_layer.proofs.PrintedLemmas.{printed_ends}

-- ---- the length of the body

-- the length that a number tells
abbrev of_value : ℕ → Result ℕ Status
of_value m = cond (nat_le m longest_body) (Ok m) (Err PayloadTooLarge)

-- a number in decimal digits is read again
pub printed_length : PrintedLengthIsRead
printed_length n short =
    let is = decimal_is_IsNumeral n (omega (arith, short)) in
    let number : is_number (decimal n) ≡ true =
    and_from _ _ (some (length (decimal n)) is.0.0) (digits_all (decimal n) is.0.1) in
    ap (λ (b : Bool). cond b (of_value (digits_value 10 (decimal n))) (Err BadRequest)) number
    ∙ ap of_value is.1
    ∙ ap (λ (b : Bool). cond b (Ok n) (Err PayloadTooLarge)) (le-leb n longest_body short)
  where
    some : (m : ℕ) → 0 < m → nat_lt 0 m ≡ true
    some m less = grind (arith, nat_tests)

-- ---- the front

sent_length : (p : HeadParts) (n : ℕ) → p.minor ≡ 1 → length (values_named (codes "host") p.fields) ≡ 1
    → values_named (codes "transfer-encoding") p.fields ≡ []
    → content_length (values_named (codes "content-length") p.fields) ≡ Ok n
    → body_length p ≡ Ok n
sent_length p n minor host uncoded told =
    ap (λ (l : List (List ℕ)). cond (nat_lt 0 (length l)) (Err NotImplemented)
    (of_hosts (may_have_hosts p.minor hosts))) uncoded
    ∙ ap (λ (m : ℕ). of_hosts (may_have_hosts m hosts)) minor
    ∙ ap (λ (m : ℕ). of_hosts (may_have_hosts 1 m)) host
    ∙ told
  where
    hosts : ℕ
    hosts = length (values_named (codes "host") p.fields)

    of_hosts : Bool → Result ℕ Status
    of_hosts may = cond may (content_length (values_named (codes "content-length") p.fields)) (Err BadRequest)

body_after : (x body : List ℕ) (p : HeadParts) → p.size ≡ length x
    → front_of_body (x ++ body) p (Ok (length body)) ≡ whole (length (x ++ body)) p body
body_after x body p size =
    let all : length (x ++ body) ≡ length x + length body = length-append x body in
    let fits : nat_le (length x + length body) (length (x ++ body)) ≡ true = grind (arith, nat_tests, all) in
    let count : length x + length body - length x ≡ length body = omega arith in
    let slice : slice_range (x ++ body) (length x) (length x + length body) ≡ body =
    ap (λ (l : List ℕ). take (length x + length body - length x) l) (drop-append_seam x body)
    ∙ ap (λ (k : ℕ). take k body) count ∙ take_all (length body) body (omega arith) in
    ap (λ (k : ℕ). cond (nat_le (k + length body) (length (x ++ body)))
    (whole (k + length body) p (slice_range (x ++ body) k (k + length body))) need) size
    ∙ ap (λ (b : Bool). cond b
    (whole (length x + length body) p (slice_range (x ++ body) (length x) (length x + length body))) need) fits
    ∙ ap (whole (length x + length body) p) slice ∙ ap (λ (k : ℕ). whole k p body) (sym all)

window_of : (x body : List ℕ) → length x ≤ longest_head → window (x ++ body) ≡ x ++ take (longest_head - length x) body
window_of x body short =
    ap (λ (k : ℕ). take k (x ++ body)) (sym (add-sub_of_le short)) ∙ take-append-add x body (longest_head - length x)

-- a head and the body that it tells are the front of their bytes
front_of_head_and_body : (x body : List ℕ) (p : HeadParts) → p.size ≡ length x → HeadEnds x (length x)
    → length x ≤ longest_head → IsHead x p
    → body_length p ≡ Ok (length body) → IsFront (x ++ body) (whole (length (x ++ body)) p body)
front_of_head_and_body x body p size ends short is told =
    let at : HeadEnds (window (x ++ body)) (length x) =
    subst (λ (w : List ℕ). HeadEnds w (length x)) (sym (window_of x body short))
    (HeadEnds-append x (take (longest_head - length x) body) (length x) ends) in
    let there : IsHead (take (length x) (x ++ body)) p =
    subst (λ (w : List ℕ). IsHead w p) (sym (take-append_seam x body)) is in
    record {
      head = read p;
      is_head = (
        subst (λ (k : ℕ). HeadEnds (window (x ++ body)) k) (sym size) at,
        subst (λ (k : ℕ). IsHead (take k (x ++ body)) p) (sym size) there,
      );
      front = sym (ap (front_of_body (x ++ body) p) told ∙ body_after x body p size);
    }

-- a request that is printed is the front of its bytes
pub printed_front : PrintedRequestIsFront
printed_front method target fields body h =
    let head = printed_head method target fields in
    front_of_head_and_body (print_request head) body (parts_of head) refl
    (printed_ends method target fields h.valid h.ends) h.short
    (head, (h.valid, sym (append-nil (print_request head))), h.few, refl)
    (sent_length (parts_of head) (length body) refl h.host h.uncoded h.body_length)

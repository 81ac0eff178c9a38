-- The accessor that a row tells is that of its token or response (this project's row format).
use Rattle.std.proofs.Common.{◌≡◌, ◌<◌, ◌^◌, ◌++◌, ℕ, List, length, take, ◌∙◌, ap, append_assoc}
use Rattle.broker_types.specs.Words.{w32, to_be_bytes, from_be_bytes, take-append_seam, from_be_bytes-to_be_bytes_4}
use Rattle.broker_types.specs.Words.{Waiting}
use Rattle.records.specs.Accessors.{accessor_in}
use Rattle.records.specs.Ranges.{IsTokenInRange, IsWaitingInRange}
use Rattle.records.specs.RowForms.{entry_row, waiting_row, pair}
use Rattle.records.specs.Spelling.{number, count, text, long_text, optional_field, listed}
use Rattle.records.specs.TokenEntry.{TokenEntry}

-- a text after its length
first_is : (a rest all : List ℕ) → all ≡ a ++ rest → length a < 2 ^ 32
    → take (from_be_bytes w32 (to_be_bytes w32 (length a))) all ≡ a
first_is a rest all is short =
    ap (λ n. take n all) (from_be_bytes-to_be_bytes_4 (length a) short) ∙ ap (take (length a)) is
    ∙ take-append_seam a rest

-- one more list behind
behind : (a rest all more : List ℕ) → all ≡ a ++ rest → all ++ more ≡ a ++ (rest ++ more)
behind a rest all more is = ap (λ l. l ++ more) is ∙ append_assoc a rest more

-- the row of a token tells its accessor
pub token_tells : (x : TokenEntry) → IsTokenInRange x → accessor_in (entry_row x) ≡ x.accessor
unfolding count
token_tells x h =
    let a = x.accessor in
    let p = listed text x.policies in
    let q = number x.issued ++ number x.ttl ++ number x.explicit_max_ttl ++ number x.period in
    let r = optional_field number x.uses_left in
    let s = listed pair x.meta in
    first_is a (p ++ q ++ r ++ s) (a ++ p ++ q ++ r ++ s)
    (behind a (p ++ q ++ r) (a ++ p ++ q ++ r) s
    (behind a (p ++ q) (a ++ p ++ q) r (append_assoc a p q))) h.accessor.short

-- that of a response tells the accessor of its wrapping token
pub response_tells : (w : Waiting) → IsWaitingInRange w → accessor_in (waiting_row w) ≡ w.accessor
unfolding count
response_tells w h =
    let a = w.accessor in
    let c = number w.created in
    let t = number w.ttl in
    let p = text w.path in
    let o = text w.origin in
    let r = long_text w.reply in
    first_is a (c ++ t ++ p ++ o ++ r) (a ++ c ++ t ++ p ++ o ++ r)
    (behind a (c ++ t ++ p ++ o) (a ++ c ++ t ++ p ++ o) r
    (behind a (c ++ t ++ p) (a ++ c ++ t ++ p) o
    (behind a (c ++ t) (a ++ c ++ t) p (append_assoc a c t)))) h.accessor.short

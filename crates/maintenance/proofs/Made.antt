-- A token that was made: from the rows to the broker.
use Rattle.std.proofs.Common.{◌≡◌, ◌+◌, if◌then◌else◌, Bool, true, false, cond, Option, Some, None, option_map, take}
use Rattle.std.proofs.Common.{option_and_then, drop, refl, sym, ◌∙◌, ap}
use Rattle.broker_model.specs.Words.{get-empty, false≢true, Text, text_cmp, same, get, put, empty, get-put, same_true}
use Rattle.broker_model.specs.Words.{token, token_identifier, lease_of, Token, Tokens, Broker, Sound, Kind, Tells}
use Rattle.broker_model.specs.Words.{KeepsOthers, of_tokens, of_cubbyholes, cubby_row, used_row, rows_of, token_len}
use Rattle.broker_model.specs.Words.{has_slash, object_row, Table, table_of, with_row, Rows, MayBeMade, created}
use Rattle.broker_model.specs.Words.{with_token, forms}
use Rattle.records.specs.declared.kind.Kind.TheVariants as kind
use Rattle.broker_rows.specs.Words.{marks_joined, Represents, no_token, is_object, is_elsewhere, other_tokens}
use Rattle.broker_rows.specs.Words.{leases_still}

-- ---- rows of cubbyholes and leases that stay

module _ (b : Broker) (us : Tokens) (alike : (t path : Text) → object_row us t path ≡ object_row b.tokens t path)
    (same : (t lease_id : Text) → lease_of (record b { tokens = us }) t lease_id ≡ lease_of b t lease_id) where
  same_cubbyholes : (k : Kind) (q : Text) → of_cubbyholes k ≡ true
      → rows_of b k q ≡ rows_of (record b { tokens = us }) k q
  unfolding rows_of
  same_cubbyholes kind.Cubby q h =
      ap (λ o. if has_slash q then o else None) (sym (alike (take token_len q) (drop (token_len + 1) q)))
  same_cubbyholes _ q h = absurd (false≢true h)

  -- tokens that have the same cubbyholes and leases, where nothing else has changed
  pub rows_alike : {who : Option Text} (old new : Rows) → Represents who old b
      → Tells of_tokens (table_of new) (record b { tokens = us })
      → KeepsOthers of_tokens (table_of old) (table_of new) → table_of new ≡ rows_of (record b { tokens = us })
  rows_alike old new st tells others =
      other_tokens b us (table_of old) (table_of new) st.rows tells
      (λ k q h. others k q (no_token k (is_object k h).0) ∙ ap (λ (t : Table). t k q) st.rows ∙ same_cubbyholes k q h)
      (leases_still b (record b { tokens = us }) old new st others same)
      (λ k q h. others k q (is_elsewhere k h).0)

-- ---- a creation

objects_made : (ts : Tokens) (t : Text) (x : Token) → get ts t ≡ None → x.cubbyhole ≡ empty → (q path : Text)
    → object_row (put ts t x) q path ≡ object_row ts q path
objects_made ts t x absent bare q path =
    ap (option_and_then (λ (x : Token). option_map (cubby_row q) (get x.cubbyhole path))) (get-put ts t x q)
    ∙ by (same q t) refl
  where
    by : (v : Bool) → same q t ≡ v
        → option_and_then (λ (x : Token). option_map (cubby_row q) (get x.cubbyhole path))
        (cond v (Some x) (get ts q)) ≡ object_row ts q path
    by true is =
        ap (λ m. option_map (cubby_row q) (get m path)) bare ∙ ap (option_map (cubby_row q)) (get-empty text_cmp path)
        ∙ sym (ap (option_and_then (λ (x : Token). option_map (cubby_row q) (get x.cubbyhole path)))
        (ap (get ts) (same_true q t is) ∙ absent))
    by false other = refl

leases_made : (b : Broker) (t : Text) (x : Token) → get b.tokens t ≡ None → x.leases ≡ empty → (q lease_id : Text)
    → lease_of (record b { tokens = put b.tokens t x }) q lease_id ≡ lease_of b q lease_id
leases_made b t x absent none q lease_id =
    ap (option_and_then (λ (x : Token). get x.leases lease_id)) (get-put b.tokens t x q) ∙ by (same q t) refl
  where
    by : (v : Bool) → same q t ≡ v
        → option_and_then (λ (x : Token). get x.leases lease_id) (cond v (Some x) (get b.tokens q))
        ≡ lease_of b q lease_id
    by true is =
        ap (λ m. get m lease_id) none ∙ get-empty text_cmp lease_id
        ∙ sym (ap (option_and_then (λ (x : Token). get x.leases lease_id)) (ap (get b.tokens) (same_true q t is)
        ∙ absent))
    by false other = refl

module _ {who : Option Text} (b : Broker) (t : Text) (x : Token) (old : Rows) (st : Represents who old b)
    (can : MayBeMade forms b t x) where
  absent : get b.tokens t ≡ None
  absent = by (get b.tokens t) refl
    where
      by : (o : Option Token) → get b.tokens t ≡ o → get b.tokens t ≡ None
      by None is = is
      by (Some y) is =
          absurd (st.sound.identifiers.all_used (token t) (token_identifier t)
          (ap (option_map (λ (z : Token). token_identifier t)) is) can.token_is_new)

  -- a token was made, without a cubbyhole, and then its identifiers were marked as used
  pub represents-created : (mid new : Rows) → x.cubbyhole ≡ empty → Sound forms who (created b t x)
      → Tells of_tokens (table_of mid) (with_token b t x) → KeepsOthers of_tokens (table_of old) (table_of mid)
      → table_of new ≡ with_row (with_row (table_of mid) kind.Used x.accessor used_row) kind.Used
      (token_identifier t) used_row
      → Represents who new (created b t x)
  represents-created mid new bare sound tells others marks =
      let made =
      rows_alike b (put b.tokens t x) (objects_made b.tokens t x absent bare) (leases_made b t x absent can.no_lease)
      old mid st tells others in
      record {
        rows = marks_joined (with_token b t x) (token_identifier t) x.accessor (table_of mid) (table_of new) marks made;
        sound = sound;
      }

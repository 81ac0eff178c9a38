-- The part of tokens: from rows that a call on tokens left to the broker that they represent.
use Rattle.std.proofs.Common.{◌≡◌, ◌+◌, if◌then◌else◌, ℕ, List, Bool, true, false, cond, Option, Some, None, option_map}
use Rattle.broker_model.specs.Words.{option_and_then, take, drop, get-empty, refl, sym, ◌∙◌, ap, false≢true, Text}
use Rattle.broker_model.specs.Words.{text_cmp, same, get, put, empty, change, get-put, get-change, same_true}
use Rattle.broker_model.specs.Words.{orphaned_is, without_descendants, without_parent, token, token_identifier}
use Rattle.broker_model.specs.Words.{lease_of, Token, Tokens, Broker, revoke, revoke_orphan, revoke_sound}
use Rattle.broker_model.specs.Words.{revoke_orphan_sound, IsEnd, Sound, Kind, Tells, KeepsOthers, of_tokens}
use Rattle.broker_model.specs.Words.{of_cubbyholes, cubby_row, used_row, rows_of, token_len, has_slash, object_row}
use Rattle.broker_model.specs.Words.{Table, table_of, with_row, Rows, AreEnded, MayBeMade, created, with_token}
use Rattle.broker_model.specs.Words.{with_end, forms, go_with_tokens, nothing_ends}
use Rattle.records.specs.declared.kind.Kind.TheVariants as kind
use Rattle.token_tree.specs.SoundLaws.{renew_sound}
use Rattle.token_tree.specs.Tokens.{renew}
use Rattle.broker_rows.specs.Words.{HaveEnded, revoked_left, marks_joined, Represents, no_token, is_object}
use Rattle.broker_rows.specs.Words.{is_elsewhere, other_tokens, leases_still, changed_leases}

-- ---- tokens that end

module _ {who : Option Text} (b : Broker) (t : Text) (old mid : Rows) (ended : List Text) (st : Represents who old b)
    (others : KeepsOthers of_tokens (table_of old) (table_of mid)) where
  -- a token was revoked with all under it
  pub has_revoked : AreEnded b (revoke b t) ended → Tells of_tokens (table_of mid) (revoke b t)
      → HaveEnded who who b (without_descendants b.tokens t) ended mid
  has_revoked are tells =
      revoked_left b t old mid ended st (revoke_sound forms who b st.sound t) are tells others

  -- a token was revoked alone: those that are left have their cubbyholes and their leases
  pub has_revoked_alone : AreEnded b (revoke_orphan b t) ended → Tells of_tokens (table_of mid) (revoke_orphan b t)
      → HaveEnded who who b (without_parent b.tokens t) ended mid
  has_revoked_alone are tells = record {
    old = old;
    mid = mid;
    represents = st;
    are = are;
    keep = λ q y is. let x = orphaned_is b.tokens t q y is in (x.0, x.1, ap (λ (z : Token). z.cubbyhole) x.2);
    sound = revoke_orphan_sound forms who b st.sound t;
    tells = tells;
    others = others;
    due = λ q row. false;
    ends = nothing_ends (table_of mid);
    leaves = go_with_tokens b (without_parent b.tokens t) ended (record {
      exact = are.exact;
      kept = λ q y is. let x = orphaned_is b.tokens t q y is in (x.0, x.1, ap (λ (z : Token). z.leases) x.2);
    });
  }

-- ---- rows of cubbyholes and leases that stay

module _ (b : Broker) (us : Tokens) (alike : (t path : Text) → object_row us t path ≡ object_row b.tokens t path)
    (same : (t lease_id : Text) → lease_of (record b { tokens = us }) t lease_id ≡ lease_of b t lease_id) where
  same_cubbyholes : (k : Kind) (q : Text) → of_cubbyholes k ≡ true
      → rows_of b k q ≡ rows_of (record b { tokens = us }) k q
  unfolding rows_of
  same_cubbyholes kind.Cubby q h =
      ap (λ o. if has_slash q then o else None) (sym (alike (take token_len q) (drop (token_len + 1) q)))
  same_cubbyholes _ q h = absurd (false≢true h)

  -- tokens that have the same cubbyholes and leases, where nothing else has changed
  pub rows_alike : {who : Option Text} (old new : Rows) → Represents who old b
      → Tells of_tokens (table_of new) (record b { tokens = us })
      → KeepsOthers of_tokens (table_of old) (table_of new) → table_of new ≡ rows_of (record b { tokens = us })
  rows_alike old new st tells others =
      other_tokens b us (table_of old) (table_of new) st.rows tells
      (λ k q h. others k q (no_token k (is_object k h).0) ∙ ap (λ (t : Table). t k q) st.rows ∙ same_cubbyholes k q h)
      (leases_still b (record b { tokens = us }) old new st others same)
      (λ k q h. others k q (is_elsewhere k h).0)

-- ---- a renewal

objects_renewed : (ts : Tokens) (t : Text) (ends : ℕ) (q path : Text)
    → object_row (change ts t (with_end ends)) q path ≡ object_row ts q path
objects_renewed ts t ends q path =
    ap (option_and_then (λ (x : Token). option_map (cubby_row q) (get x.cubbyhole path)))
    (get-change ts t (with_end ends) q)
    ∙ inner (same q t) (get ts q)
  where
    inner : (v : Bool) (o : Option Token)
        → option_and_then (λ (x : Token). option_map (cubby_row q) (get x.cubbyhole path))
        (option_map (λ x. if v then with_end ends x else x) o)
        ≡ option_and_then (λ (x : Token). option_map (cubby_row q) (get x.cubbyhole path)) o
    inner v None = refl
    inner true (Some x) = refl
    inner false (Some x) = refl

-- a token was given another end
pub represents-renewed : {who : Option Text} (b : Broker) (t : Text) (ends : ℕ) (old new : Rows)
    → Represents who old b → IsEnd ends
    → Tells of_tokens (table_of new) (renew b t ends) → KeepsOthers of_tokens (table_of old) (table_of new)
    → Represents who new (renew b t ends)
represents-renewed {who} b t ends old new st near tells others =
    record {
      rows = rows_alike b (change b.tokens t (with_end ends)) (objects_renewed b.tokens t ends)
          (changed_leases b t (with_end ends) (λ x. refl)) old new st tells others;
      sound = renew_sound forms who b t ends st.sound near;
    }

-- ---- a creation

objects_made : (ts : Tokens) (t : Text) (x : Token) → get ts t ≡ None → x.cubbyhole ≡ empty → (q path : Text)
    → object_row (put ts t x) q path ≡ object_row ts q path
objects_made ts t x absent bare q path =
    ap (option_and_then (λ (x : Token). option_map (cubby_row q) (get x.cubbyhole path))) (get-put ts t x q)
    ∙ by (same q t) refl
  where
    by : (v : Bool) → same q t ≡ v
        → option_and_then (λ (x : Token). option_map (cubby_row q) (get x.cubbyhole path))
        (cond v (Some x) (get ts q)) ≡ object_row ts q path
    by true is =
        ap (λ m. option_map (cubby_row q) (get m path)) bare ∙ ap (option_map (cubby_row q)) (get-empty text_cmp path)
        ∙ sym (ap (option_and_then (λ (x : Token). option_map (cubby_row q) (get x.cubbyhole path)))
        (ap (get ts) (same_true q t is) ∙ absent))
    by false other = refl

leases_made : (b : Broker) (t : Text) (x : Token) → get b.tokens t ≡ None → x.leases ≡ empty → (q lease_id : Text)
    → lease_of (record b { tokens = put b.tokens t x }) q lease_id ≡ lease_of b q lease_id
leases_made b t x absent none q lease_id =
    ap (option_and_then (λ (x : Token). get x.leases lease_id)) (get-put b.tokens t x q) ∙ by (same q t) refl
  where
    by : (v : Bool) → same q t ≡ v
        → option_and_then (λ (x : Token). get x.leases lease_id) (cond v (Some x) (get b.tokens q))
        ≡ lease_of b q lease_id
    by true is =
        ap (λ m. get m lease_id) none ∙ get-empty text_cmp lease_id
        ∙ sym (ap (option_and_then (λ (x : Token). get x.leases lease_id)) (ap (get b.tokens) (same_true q t is)
        ∙ absent))
    by false other = refl

module _ {who : Option Text} (b : Broker) (t : Text) (x : Token) (old : Rows) (st : Represents who old b)
    (can : MayBeMade forms b t x) where
  absent : get b.tokens t ≡ None
  absent = by (get b.tokens t) refl
    where
      by : (o : Option Token) → get b.tokens t ≡ o → get b.tokens t ≡ None
      by None is = is
      by (Some y) is =
          absurd (st.sound.identifiers.all_used (token t) (token_identifier t)
          (ap (option_map (λ (z : Token). token_identifier t)) is) can.token_is_new)

  -- a token was made, without a cubbyhole, and then its identifiers were marked as used
  pub represents-created : (mid new : Rows) → x.cubbyhole ≡ empty → Sound forms who (created b t x)
      → Tells of_tokens (table_of mid) (with_token b t x) → KeepsOthers of_tokens (table_of old) (table_of mid)
      → table_of new ≡ with_row (with_row (table_of mid) kind.Used x.accessor used_row) kind.Used
      (token_identifier t) used_row
      → Represents who new (created b t x)
  represents-created mid new bare sound tells others marks =
      let made =
      rows_alike b (put b.tokens t x) (objects_made b.tokens t x absent bare) (leases_made b t x absent can.no_lease)
      old mid st tells others in
      record {
        rows = marks_joined (with_token b t x) (token_identifier t) x.accessor (table_of mid) (table_of new) marks made;
        sound = sound;
      }

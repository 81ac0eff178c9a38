-- A reply that is kept: its identifiers, its rows, and the broker that they represent.
use Rattle.std.proofs.Common.{◌≡◌, List, false, Option, None, sym, ◌∙◌, subst}
use Rattle.broker_model.specs.Words.{list_any, Broker, Waiting, IsNew, get, Names, names_of, Done, IsSoundWaiting, Text}
use Rattle.broker_model.specs.Words.{same, token_text, Reply, joined_rows, rows_of-other_waiting, Tells, KeepsOthers}
use Rattle.broker_model.specs.Words.{of_waiting, used_row, rows_of, table_of, with_row, Rows, with_response}
use Rattle.broker_model.specs.Words.{with_waiting, reply_text, wrap_reply, forms, WrappingKeepsSoundness, AreTwo}
use Rattle.broker_model.specs.Words.{new_after, two_of, kept_entry, wrap, wrap_info}
use Rattle.broker_types.specs.Operation as operation
use Rattle.records.specs.declared.kind.Kind.TheVariants as kind
use Rattle.broker_rows.specs.Words.{Context, answered_of, counted, marks_joined, Represents}
use Rattle.broker_rows.specs.declared.answered.Answered.{Answered}
use Rattle.broker.specs.Stages.{IsServed}
use Rattle.broker.specs.Wraps.{MayWrap, Wrapping, kept_in, waiting_from, with_kept}

-- ---- the identifiers

module _ (x : Context) (w : Wrapping) (b : Broker) (own : List Text) (d : Done) (may : MayWrap x w b own d) where
  abbrev names : Names
  names = names_of x.words

  two : AreTwo b.used names.wrapping_token names.wrapping_accessor own
  two = two_of b.used names.wrapping_token names.wrapping_accessor own may.new

  left : (i : Text) → get b.used i ≡ None → list_any (same i) own ≡ false → IsNew (counted d) i
  left = new_after b own d may.proper.used may.proper.gives_own

  -- both are new after the operation
  pub token_new : IsNew (counted d) w.token
  token_new = subst (IsNew (counted d)) (sym may.token) (left names.wrapping_token two.one two.one_apart)

  pub accessor_new : IsNew (counted d) w.accessor
  accessor_new = subst (IsNew (counted d)) (sym may.accessor) (left names.wrapping_accessor two.two two.two_apart)

  -- ---- the broker

  module _ {who : Option Text} (r : Reply) (made : Option Text) (old new : Rows)
      (st : Represents who old (counted d)) (law : WrappingKeepsSoundness) where
    abbrev entry : Waiting
    entry = waiting_from x.clock w (reply_text r)

    kept : entry ≡ kept_entry b w.path w.ttl names r
    kept i =
        waiting_from (sym may.clock i) (record w { token = may.token i; accessor = may.accessor i }) (reply_text r)

    -- the reply was kept, and the answer tells of its wrapping token
    pub kept_served : (a : Answered) → IsSoundWaiting (token_text w.token) entry
        → table_of new ≡ rows_of (kept_in (counted d) (token_text w.token) entry)
        → answered_of a ≡ operation.reply (wrap_reply names.request (wrap_info (token_text w.token) entry made)) None
        → IsServed who new a (wrap b w.path w.ttl names d r made)
    kept_served a sound is told =
        let good = subst (λ (e : Text × Waiting). IsSoundWaiting (token_text e.0) e.1)
        (λ i. (may.token i, kept i)) sound in (
          told ∙ (λ i. operation.reply
              (wrap_reply names.request (wrap_info (token_text (may.token i)) (kept i) made)) None),
          record {
            rows = is ∙ (λ i. rows_of (kept_in (counted d) (token_text (may.token i)) (kept i)));
            sound = law forms who b w.path w.ttl names own d r made may.new may.proper.used may.proper.gives_own good
                st.sound;
          },
        )

-- ---- the rows

-- where a response was stored in the rows of a broker, and then its identifiers were marked, they are those of the next
pub kept_rows : {who : Option Text} (b : Broker) (t : Text) (w : Waiting) (old mid new : Rows) → Represents who old b
    → Tells of_waiting (table_of mid) (with_waiting b t w) → KeepsOthers of_waiting (table_of old) (table_of mid)
    → table_of mid ≡ with_response (table_of old) t w → table_of new ≡ with_kept (table_of old) t w
    → table_of new ≡ rows_of (kept_in b t w)
kept_rows b t w old mid new st tells keeps stored marked =
    let c = with_waiting b t w in
    marks_joined c w.origin w.accessor (table_of mid) (table_of new)
    (marked ∙ (λ i. with_row (with_row (sym stored i) kind.Used w.accessor used_row) kind.Used w.origin used_row))
    (joined_rows of_waiting (table_of old) (table_of mid) b c st.rows tells keeps (rows_of-other_waiting b c.waiting))

-- Expiry: from the rows to the broker.
use Rattle.std.proofs.Common.{◌≡◌, ◌≤◌, ℕ, max, List, None, refl, ◌∙◌, sym, ap, subst}
use Rattle.broker_model.specs.Words.{le-max_right, le_trans, Text, greatest_moment, Token, Broker, at_moment, Sound}
use Rattle.broker_model.specs.Words.{alive_is, alive_at, Row, with_clock, AreDue, RowKey, rows_of-other_waiting, Tells}
use Rattle.broker_model.specs.Words.{KeepsOthers, of_tokens, of_leases, of_waiting, table_of, Rows, AreEnded}
use Rattle.broker_model.specs.Words.{without_expired, AreReadable, EndsLeases, AreLeft, live, all_readable, expire_too}
use Rattle.broker_model.specs.Words.{AreStillDue, ends_sound, without_ended, forms}
use Rattle.records.specs.declared.kind.Kind.TheVariants as kind
use Rattle.leases.specs.Endings as leases
use Rattle.wrapping.specs.DueResponses as wrapping
use Rattle.broker_rows.specs.Words.{LeavesNothing, leaves_others, HaveEnded, Represents, represents_leases}
use Rattle.broker_rows.specs.Words.{represents_next}
use Rattle.broker_rows.proofs.Clocks.{expired_tokens_sound}

module _ (b : Broker) (m n : ℕ) (first old : Rows) (st : Represents None first b) (is : n ≡ max b.clock m)
    (later : Represents None old (with_clock b n)) where
  -- the clock is that of the moment, and so what has expired at the clock is what has ended at the moment
  expired_then : without_ended (without_expired (with_clock b n) n) n ≡ at_moment b m
  expired_then = ap (λ k. without_ended (without_expired (with_clock b k) k) k) is

  expired_sound : Sound forms None (without_expired (with_clock b n) n)
  expired_sound =
      let within : max b.clock m ≤ greatest_moment = subst (λ k. k ≤ greatest_moment) is later.sound.clock in
      subst (λ k. Sound forms None (without_expired (with_clock b k) k)) (sym is)
      (expired_tokens_sound b m st.sound (le_trans (le-max_right b.clock m) within))

  -- what has come to its end by then is swept: tokens, and then leases
  pub swept_left : (mid rest : Rows) (ended : List Text)
      → AreEnded (with_clock b n) (without_expired (with_clock b n) n) ended
      → Tells of_tokens (table_of mid) (without_expired (with_clock b n) n)
      → KeepsOthers of_tokens (table_of old) (table_of mid)
      → EndsLeases (leases.has_come n) (table_of mid) (table_of rest)
      → HaveEnded None None (with_clock b n) (alive_at n b.tokens) ended rest
  swept_left mid rest ended are tells others due = record {
    old = old;
    mid = mid;
    represents = later;
    are = are;
    keep = λ t y alive. let x = alive_is n b.tokens t y alive in (x.0, x.1, ap (λ (z : Token). z.cubbyhole) x.3);
    sound = expired_sound;
    tells = tells;
    others = others;
    due = leases.has_come n;
    ends = due;
    leaves = expire_too (with_clock b n) (alive_at n b.tokens) n ended left;
  }
    where
      left : AreLeft (live n) b.tokens (alive_at n b.tokens) ended
      left = record {
        exact = are.exact;
        kept = λ t y alive. let x = alive_is n b.tokens t y alive in (x.0, x.1, ap (λ (z : Token). z.leases) x.3);
      }

  -- the leases that are due can be read
  pub due_readable : (mid : Rows) → KeepsOthers of_tokens (table_of old) (table_of mid)
      → AreReadable (leases.has_come n) (table_of mid)
  due_readable mid others = all_readable (leases.has_come n) (table_of mid) (with_clock b n)
      (represents_leases (with_clock b n) old mid later others)

  -- and then responses
  pub responses_swept : (left new : Rows) → Represents None left (without_expired (with_clock b n) n)
      → Tells of_waiting (table_of new) (without_ended (without_expired (with_clock b n) n) n)
      → KeepsOthers of_waiting (table_of left) (table_of new) → Represents None new (at_moment b m)
  responses_swept left new rest tells keeps =
      let c = without_expired (with_clock b n) n in
      subst (Represents None new) expired_then
      (represents_next of_waiting c (without_ended c n) left new rest (ends_sound forms None c rest.sound n)
      (rows_of-other_waiting c (without_ended c n).waiting) tells keeps)

-- the list of what is due, once tokens have ended
pub still_due : (timed asked mid : Rows) (n : ℕ) (list : List (RowKey × Row)) → AreDue timed n list → asked ≡ timed
    → KeepsOthers of_tokens (table_of asked) (table_of mid) → AreStillDue n list (table_of mid)
still_due timed asked mid n list due same others = record {
  asked = timed;
  due = due;
  same = λ q. others kind.Lease q refl ∙ ap (λ (r : Rows). table_of r kind.Lease q) same;
}

-- and once leases have, and nothing is left of the tokens
pub due_yet : (timed asked mid live left : Rows) (n : ℕ) (list : List (RowKey × Row)) (ended : List Text)
    → AreDue timed n list
    → asked ≡ timed → KeepsOthers of_tokens (table_of asked) (table_of mid)
    → KeepsOthers of_leases (table_of mid) (table_of live)
    → LeavesNothing ended live left → wrapping.AreStillDue n list (table_of left)
due_yet timed asked mid live left n list ended due same tokens leases leaves = record {
  asked = timed;
  due = due;
  same = λ t.
      leaves_others ended live left leaves kind.Waiting t refl ∙ leases kind.Waiting t refl ∙ tokens kind.Waiting t refl
      ∙ ap (λ (r : Rows). table_of r kind.Waiting t) same;
}

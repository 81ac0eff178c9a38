-- Tokens that were revoked alone: from the rows to the broker.
use Rattle.std.proofs.Common.{List, Option, false, ap}
use Rattle.broker_model.specs.Words.{orphaned_is, without_parent, Token, Broker, revoke_orphan, revoke_orphan_sound}
use Rattle.broker_model.specs.Words.{Text, Tells, KeepsOthers, of_tokens, table_of, Rows, AreEnded, forms}
use Rattle.broker_model.specs.Words.{go_with_tokens, nothing_ends}
use Rattle.broker_rows.specs.Words.{HaveEnded, Represents}

module _ {who : Option Text} (b : Broker) (t : Text) (old mid : Rows) (ended : List Text) (st : Represents who old b)
    (others : KeepsOthers of_tokens (table_of old) (table_of mid)) where
  -- a token was revoked alone: those that are left have their cubbyholes and their leases
  pub has_revoked_alone : AreEnded b (revoke_orphan b t) ended → Tells of_tokens (table_of mid) (revoke_orphan b t)
      → HaveEnded who who b (without_parent b.tokens t) ended mid
  has_revoked_alone are tells = record {
    old = old;
    mid = mid;
    represents = st;
    are = are;
    keep = λ q y is. let x = orphaned_is b.tokens t q y is in (x.0, x.1, ap (λ (z : Token). z.cubbyhole) x.2);
    sound = revoke_orphan_sound forms who b st.sound t;
    tells = tells;
    others = others;
    due = λ q row. false;
    ends = nothing_ends (table_of mid);
    leaves = go_with_tokens b (without_parent b.tokens t) ended (record {
      exact = are.exact;
      kept = λ q y is. let x = orphaned_is b.tokens t q y is in (x.0, x.1, ap (λ (z : Token). z.leases) x.2);
    });
  }

-- Laws of what is left of a broker when tokens have ended.
use Rattle.std.specs.Prelude.{◌≡◌, not, false, List, Option, Some, refl}
use Rattle.broker_model.specs.Words.{Broker, revoke, is_under, without_descendants, get, kept_get, Sound, Text, Token}
use Rattle.broker_model.specs.Words.{AreLeft, go_with_tokens, nothing_ends, Tells, KeepsOthers, of_tokens, table_of}
use Rattle.broker_model.specs.Words.{Rows, AreEnded, forms}
use Rattle.broker_rows.specs.Left.{HaveEnded}
use Rattle.broker_rows.specs.Representing.{Represents}

-- what a revocation leaves was there
was_there : (b : Broker) (t q : Text) (y : Token) → get (without_descendants b.tokens t) q ≡ Some y
    → get b.tokens q ≡ Some y
was_there b t q y is = (kept_get (λ u. not (is_under b.tokens u t)) b.tokens q y is).0

-- the token t was revoked, with all below it
pub revoked_left : {who after : Option Text} (b : Broker) (t : Text) (old mid : Rows) (ended : List Text)
    → Represents who old b
    → Sound forms after (revoke b t) → AreEnded b (revoke b t) ended → Tells of_tokens (table_of mid) (revoke b t)
    → KeepsOthers of_tokens (table_of old) (table_of mid)
    → HaveEnded who after b (without_descendants b.tokens t) ended mid
revoked_left b t old mid ended st sound are tells others = record {
  old = old;
  mid = mid;
  represents = st;
  are = are;
  keep = λ q y is. (y, was_there b t q y is, refl);
  sound = sound;
  tells = tells;
  others = others;
  due = λ q row. false;
  ends = nothing_ends (table_of mid);
  leaves = go_with_tokens b (without_descendants b.tokens t) ended left;
}
  where
    left : AreLeft (λ m. m) b.tokens (without_descendants b.tokens t) ended
    left = record { exact = are.exact; kept = λ q y is. (y, was_there b t q y is, refl) }

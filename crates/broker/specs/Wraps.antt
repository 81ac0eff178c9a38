-- When a reply may be wrapped, and which rows that puts (this project's definition).
use Rattle.std.specs.Prelude.{◌≡◌, ◌<◌, ◌∷◌, ℕ, List, true}
use Rattle.broker_model.specs.Words.{Broker, Waiting, names_of, reply, Done, is_path, IsIdentifier, Text, are_new}
use Rattle.broker_model.specs.Words.{used_row, Table, with_row, with_response, with_waiting, IsProper}
use Rattle.records.specs.declared.kind.Kind.TheVariants as kind
use Rattle.broker_rows.specs.Words.{Context, marked}

-- how the reply to a request is to be wrapped: the path of the request, how many seconds the response waits, and the
-- identifiers of the wrapping token and of its accessor
pub record Wrapping : Type 0 where
  pub path : Text
  pub ttl : ℕ
  pub token : Text
  pub accessor : Text

-- what waits by it is sound
pub record IsSoundWrapping (w : Wrapping) : Type 0 where
  pub path : is_path w.path ≡ true
  pub waits : 0 < w.ttl
  pub token : IsIdentifier w.token
  pub accessor : IsIdentifier w.accessor

-- The request is one at the broker's clock, and these are its identifiers of a wrapping token and of its accessor. They
-- are new beside those of the operation, which was a proper one.
pub record MayWrap (x : Context) (w : Wrapping) (b : Broker) (own : List Text) (d : Done) : Type 0 where
  pub clock : b.clock ≡ x.clock
  pub token : w.token ≡ (names_of x.words).wrapping_token
  pub accessor : w.accessor ≡ (names_of x.words).wrapping_accessor
  pub new : are_new b.used ((names_of x.words).wrapping_token ∷ (names_of x.words).wrapping_accessor ∷ own) ≡ true
  pub proper : IsProper b own d

-- a text, as it waits from this clock on
abbrev pub waiting_from : ℕ → Wrapping → Text → Waiting
waiting_from clock w text =
    record {
      accessor = w.accessor;
      created = clock;
      ttl = w.ttl;
      path = w.path;
      origin = w.token;
      reply = text;
    }

-- the broker in which the response waits under t, and its identifiers are marked as given out
abbrev pub kept_in : Broker → Text → Waiting → Broker
kept_in b t w = marked (with_waiting b t w) w.origin w.accessor

-- the rows of this
abbrev pub with_kept : Table → Text → Waiting → Table
with_kept rows t w =
    with_row (with_row (with_response rows t w) kind.Used w.accessor used_row) kind.Used w.origin used_row

-- Responses that wait: the rows that are left, and the brokers that they represent.
use Rattle.std.proofs.Common.{◌≡◌, ◌∷◌, List, [], All, true, Option, Some, None, Ok, option_map, is_none, sym, ap}
use Rattle.broker_model.specs.Words.{⊤, subst, and_parts, All-head, All-tail, Broker, Waiting, Map, get, Names}
use Rattle.broker_model.specs.Words.{is_nothing, ◌>>=◌, some_or, IsIdentifier, drop_waiting, Text, token_text, are_new}
use Rattle.broker_model.specs.Words.{AgreeOutside, joined_rows, rows_of-other_waiting, Tells, KeepsOthers, of_waiting}
use Rattle.broker_model.specs.Words.{used_row, table_of, with_row, Rows, rewrap_is, moved, rewrap, with_waiting, forms}
use Rattle.broker_model.specs.Words.{AreWrappingNames, WrappingCommandsKeepSoundness, counted, wrapping_names}
use Rattle.broker_model.specs.Words.{found_under, rewrapped}
use Rattle.records.specs.declared.kind.Kind.TheVariants as kind
use Rattle.broker_model.specs.declared.commands.WrappingCommand.TheVariants as command
use Rattle.broker_rows.specs.Words.{marks_joined, ArePrinted, Represents}
use Rattle.system_operations.proofs.ResponseAnswers.{not_waiting}

-- the identifiers that were printed are those of a wrapping token and of its accessor
pub printed : (own : List Text) (names : Names) → ArePrinted own (wrapping_names names) → AreWrappingNames names
printed own names are =
    let i = names.wrapping_token in
    let a = names.wrapping_accessor in
    let both = subst (All IsIdentifier) are.are are.good in
    record {
      token = All-head IsIdentifier i (a ∷ []) both;
      accessor = All-head IsIdentifier a [] (All-tail IsIdentifier i (a ∷ []) both);
    }

-- of two new identifiers the second was not given out
pub second_new : (used : Map ⊤) (i j : Text) → are_new used (i ∷ j ∷ []) ≡ true → get used j ≡ None
second_new used i j new =
    let later = and_parts _ _ (and_parts (is_none (get used i)) _ new).1 in
    is_nothing (get used j) (and_parts (is_none (get used j)) true later.1).0

module _ {who : Option Text} (b : Broker) (names : Names) (t : Text) (w : Waiting) (is : get b.waiting t ≡ Some w)
    (old mid new : Rows) (st : Represents who old b) where
  -- the broker in which the response waits under its new wrapping token
  abbrev next : Broker
  next = rewrap b t (token_text names.wrapping_token) names.wrapping_accessor b.clock

  abbrev moved_to : Broker
  moved_to = with_waiting (drop_waiting b t) (token_text names.wrapping_token) (moved names.wrapping_accessor b.clock w)

  next_is : next ≡ moved_to
  next_is = rewrap_is b t (token_text names.wrapping_token) names.wrapping_accessor b.clock w is

  -- only responses have changed
  agrees : AgreeOutside of_waiting b next
  agrees = subst (AgreeOutside of_waiting b) (sym next_is) (rows_of-other_waiting b moved_to.waiting)

  -- the response has moved, and both identifiers were marked
  pub represents_moved : WrappingCommandsKeepSoundness → AreWrappingNames names
      → are_new b.used (wrapping_names names) ≡ true → Tells of_waiting (table_of mid) next
      → KeepsOthers of_waiting (table_of old) (table_of mid)
      → table_of new ≡ with_row (with_row (table_of mid) kind.Used names.wrapping_accessor used_row) kind.Used
      names.wrapping_token used_row
      → Represents who new (counted (rewrapped b names (found_under t w)))
  represents_moved keeps good fresh tells others marks = record {
    rows = marks_joined next names.wrapping_token names.wrapping_accessor (table_of mid) (table_of new) marks
        (joined_rows of_waiting (table_of old) (table_of mid) b next st.rows tells others agrees);
    sound = keeps forms who b names (command.Rewrap (Some t)) (rewrapped b names (found_under t w)) st.sound good fresh
        (ap (λ o. some_or not_waiting (option_map (found_under t) o) >>= (λ f. Ok (rewrapped b names f))) is);
  }

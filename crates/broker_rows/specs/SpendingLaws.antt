-- The use that a caller spends: from the rows to the broker.
use Rattle.std.specs.Prelude.{◌≡◌, ◌+◌, if◌then◌else◌, Bool, true, false, take, drop, Option, Some, None, option_map}
use Rattle.broker_model.specs.Words.{option_and_then, refl, sym, ◌∙◌, ap, false≢true, Text, same, get, Token, Broker}
use Rattle.broker_model.specs.Words.{get-change, spend, one_less, spend_sound, Kind, Tells, KeepsOthers, of_tokens}
use Rattle.broker_model.specs.Words.{of_cubbyholes, cubby_row, rows_of, token_len, has_slash, object_row, Table}
use Rattle.broker_model.specs.Words.{table_of, Rows, forms}
use Rattle.records.specs.declared.kind.Kind.TheVariants as kind
use Rattle.broker_rows.specs.Representing.{Represents}
use Rattle.broker_rows.specs.EndingLaws.{no_token, is_object, is_elsewhere, other_tokens}
use Rattle.broker_rows.specs.RepresentingLaws.{leases_still, changed_leases}

module _ (b : Broker) (c : Text) where
  -- no object changes
  spent_objects : (t path : Text) → object_row (spend b c).tokens t path ≡ object_row b.tokens t path
  spent_objects t path =
      ap (option_and_then (λ (x : Token). option_map (cubby_row t) (get x.cubbyhole path)))
      (get-change b.tokens c one_less t)
      ∙ inner (same t c) (get b.tokens t)
    where
      inner : (v : Bool) (o : Option Token)
          → option_and_then (λ (x : Token). option_map (cubby_row t) (get x.cubbyhole path))
          (option_map (λ x. if v then one_less x else x) o)
          ≡ option_and_then (λ (x : Token). option_map (cubby_row t) (get x.cubbyhole path)) o
      inner v None = refl
      inner true (Some x) = refl
      inner false (Some x) = refl

  spent_cubbyholes : (k : Kind) (q : Text) → of_cubbyholes k ≡ true → rows_of b k q ≡ rows_of (spend b c) k q
  unfolding rows_of
  spent_cubbyholes kind.Cubby q h =
      ap (λ o. if has_slash q then o else None) (sym (spent_objects (take token_len q) (drop (token_len + 1) q)))
  spent_cubbyholes _ q h = absurd (false≢true h)

  -- rows of tokens that are those after a use was spent, where nothing else has changed
  pub represents-spend : (old new : Rows) → Represents None old b → Tells of_tokens (table_of new) (spend b c)
      → KeepsOthers of_tokens (table_of old) (table_of new) → Represents (Some c) new (spend b c)
  represents-spend old new st tells others = record {
    rows = other_tokens b (spend b c).tokens (table_of old) (table_of new) st.rows tells
        (λ k q h. others k q (no_token k (is_object k h).0) ∙ ap (λ (t : Table). t k q) st.rows
        ∙ spent_cubbyholes k q h)
        (leases_still b (spend b c) old new st others (changed_leases b c one_less (λ x. refl)))
        (λ k q h. others k q (is_elsewhere k h).0);
    sound = spend_sound forms b c st.sound;
  }

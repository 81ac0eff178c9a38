-- The end of a caller: from the rows to the broker.
use Rattle.std.proofs.Common.{◌≡◌, ◌==◌, if◌then◌else◌, Bool, true, false, Option, Some, None, option_map, refl, sym}
use Rattle.broker_model.specs.Words.{option_map_or, ◌∙◌, ap, none-some, same_Some, Text, get, Token, Broker, revoke}
use Rattle.broker_model.specs.Words.{is_spent, end_spent, end_spent_sound, rows_of, table_of, TokenEntry, token_entry}
use Rattle.broker_model.specs.Words.{Rows, forms}
use Rattle.broker_rows.specs.Words.{Represents}

-- ---- a caller that has spent its last use ends

module _ (b : Broker) (c : Text) (old : Rows) (st : Represents (Some c) old b) where
  abbrev IsSpent : Bool → Type 0
  IsSpent v = v ≡ option_map_or is_spent (get b.tokens c) false

  -- it has no uses left, and is revoked
  pub spent_revoked : (v : Bool) → IsSpent v → v ≡ true → end_spent b (Some c) ≡ revoke b c
  spent_revoked v told spent = ap (λ v. if v then revoke b c else b) (sym told ∙ spent)

  -- it has uses left, and nothing changes
  pub represents-unspent : (new : Rows) (v : Bool) → IsSpent v → v ≡ false → new ≡ old
      → Represents None new (end_spent b (Some c))
  represents-unspent new v told is same_rows =
      let ends : end_spent b (Some c) ≡ b = ap (λ v. if v then revoke b c else b) (sym told ∙ is) in
      record {
        rows = ap table_of same_rows ∙ st.rows ∙ ap rows_of (sym ends);
        sound = end_spent_sound forms (Some c) b st.sound;
      }

-- ---- whether a caller has spent its last use

-- an unknown text has not, nor has a token without a limit; another has if it has no uses left
pub unknown_unspent : (o : Option Token) (found : Option TokenEntry) → found ≡ option_map token_entry o → found ≡ None
    → false ≡ option_map_or is_spent o false
unknown_unspent None found e none = refl
unknown_unspent (Some x) found e none = absurd (none-some _ (sym none ∙ e))

pub limit_told : (o : Option Token) (found : Option TokenEntry) (entry : TokenEntry) (v : Bool)
    → found ≡ option_map token_entry o
    → found ≡ Some entry → v ≡ option_map_or (λ n. n == 0) entry.uses_left false → v ≡ option_map_or is_spent o false
limit_told None found entry v e some is = absurd (none-some _ (sym e ∙ some))
limit_told (Some x) found entry v e some is =
    is ∙ ap (λ (z : TokenEntry). option_map_or (λ n. n == 0) z.uses_left false) (sym (same_Some _ _ (sym e ∙ some)))

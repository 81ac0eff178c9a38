-- The rows of responses and of tokens, listed: their keys.
use Rattle.std.proofs.Common.{◌≡◌, ◌∷◌, List, [], map, refl, ◌∙◌, ap}
use Rattle.broker_model.specs.Words.{Broker, Text, entries, keys, token_row, waiting_row, rows_of, table_of, Rows}
use Rattle.broker_model.specs.Words.{RowKey, Kind, Row, Table}
use Rattle.records.specs.Words.{rows_under, rows_under-listing}
use Rattle.records.specs.declared.kind.Kind.TheVariants as kind
use Rattle.maintenance.specs.Maintained.{responses_of}

-- the key of an entry
abbrev pub key_of : RowKey × Row → Text
key_of e = e.0.1

module _ {X : Type 0} (k : Kind) (f : Text → X → Row) where
  -- the keys of entries that are listed as rows
  keys_listed : (es : List (Text × X))
      → map key_of (map (λ (e : Text × X). ((k, e.0), f e.0 e.1)) es) ≡ map (λ e. e.0) es
  keys_listed [] = refl
  keys_listed (e ∷ es) = ap (λ l. e.0 ∷ l) (keys_listed es)

module _ (b : Broker) (rows : Rows) (is : table_of rows ≡ rows_of b) where
  -- the keys of the rows of responses are their wrapping tokens
  pub lists_responses : map key_of (rows_under rows kind.Waiting []) ≡ responses_of b
  unfolding rows_of
  lists_responses =
      ap (map key_of)
      (rows_under-listing kind.Waiting (λ t w. waiting_row w) rows b.waiting
      (λ q. ap (λ (t : Table). t kind.Waiting q) is))
      ∙ keys_listed kind.Waiting (λ t w. waiting_row w) (entries b.waiting)

  -- those of the rows of tokens are the tokens
  pub lists_tokens : map key_of (rows_under rows kind.Token []) ≡ keys b.tokens
  unfolding rows_of
  lists_tokens =
      ap (map key_of)
      (rows_under-listing kind.Token (λ t x. token_row x) rows b.tokens (λ q. ap (λ (t : Table). t kind.Token q) is))
      ∙ keys_listed kind.Token (λ t x. token_row x) (entries b.tokens)

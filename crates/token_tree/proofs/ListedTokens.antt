-- The rows of tokens, listed.
use Rattle.std.proofs.Common.{◌≡◌, ◌∷◌, List, [], true, false, cond, map, Some, All, refl, sym, ◌∙◌, subst}
use Rattle.records.specs.Words.{AllByRecursion, lookup, All-head, All-tail, Text, same, get, entries, Token, Tokens}
use Rattle.records.specs.Words.{Broker, none-some, same_Some, get-lookup, each_entry, same_true, RowKey, of_tokens}
use Rattle.records.specs.Words.{Tells, token_row, rows_of, table_of, Rows, rows_under, rows_under-listing}
use Rattle.records.specs.declared.kind.Kind.TheVariants as kind
use Rattle.token_tree.specs.Words.{Row}

-- the entry of a token
abbrev pub node : Text → Token → RowKey × Row
node t x = ((kind.Token, t), token_row x)

abbrev pub listing : Tokens → List (RowKey × Row)
listing ts = map (λ e. node e.0 e.1) (entries ts)

-- what holds of the row of each token holds of each entry
pub each_listed : (ts : Tokens) (P : RowKey × Row → Type 0)
    → ((t : Text) (x : Token) → get ts t ≡ Some x → P (node t x)) → AllByRecursion P (listing ts)
each_listed ts P h = walk (entries ts) (each_entry (λ e. P (node e.0 e.1)) ts h)
  where
    walk : (es : List (Text × Token)) → All (λ e. P (node e.0 e.1)) es → AllByRecursion P (map (λ e. node e.0 e.1) es)
    walk [] a = tt
    walk (e ∷ es) a = (All-head (λ e. P (node e.0 e.1)) e es a, walk es (All-tail (λ e. P (node e.0 e.1)) e es a))

-- and the other way round
pub listed_at : (ts : Tokens) (P : RowKey × Row → Type 0) (t : Text) (x : Token) → get ts t ≡ Some x
    → AllByRecursion P (listing ts) → P (node t x)
listed_at ts P t x is all = walk (entries ts) (sym (get-lookup ts t) ∙ is) all
  where
    walk : (es : List (Text × Token)) → lookup (same t) es ≡ Some x → AllByRecursion P (map (λ e. node e.0 e.1) es)
        → P (node t x)
    walk [] e a = absurd (none-some _ e)
    walk (e ∷ es) found a =
        elim (same t e.0) as (λ v. same t e.0 ≡ v → cond v (Some e.1) (lookup (same t) es) ≡ Some x → P (node t x)) [
          | true ↦ λ at one. subst P (λ i. node (sym (same_true t e.0 at) i) ((same_Some _ _ one) i)) a.0
          | false ↦ λ _ rest. walk es rest a.1
        ] refl found

-- the rows of tokens are listed in the order of their texts
pub lists_tokens : (b : Broker) (rows : Rows) → Tells of_tokens (table_of rows) b
    → rows_under rows kind.Token [] ≡ listing b.tokens
unfolding rows_of
lists_tokens b rows tells = rows_under-listing kind.Token (λ (t : Text) (x : Token). token_row x) rows b.tokens
    (λ q. tells kind.Token q refl)

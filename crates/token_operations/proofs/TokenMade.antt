-- A token that was made: its rows, its identifiers, and the answer.
use Rattle.std.proofs.Common.{◌≡◌, ◌==◌, ◌∷◌, length, [], true, Option, Some, None, option_map, refl, ◌∙◌, ap, subst}
use Rattle.broker_model.specs.Words.{true≢false, Broker, get, Names, Text, Token, token_text, use_up, Reply}
use Rattle.broker_model.specs.Words.{token_entry, Rows, created, with_token, auth_reply, made}
use Rattle.broker_types.specs.Operation as operation
use Rattle.broker_rows.specs.Words.{Represents, IsDone, tokens_long}
use Rattle.broker_rows.specs.declared.answered.Answered.TheVariants.{Made}

-- ---- what is made

-- the token was made, both identifiers were marked, and the reply shows it
pub made_done : {who : Option Text} (b : Broker) (names : Names) (x : Token) (new : Rows)
    → x.accessor ≡ names.accessor → Represents who new (created b (token_text names.token) x)
    → (r : Reply) (a : Text) → r ≡ auth_reply names.request b.clock (token_text names.token) (token_entry x)
    → a ≡ x.accessor → IsDone who new (Made r a) (made b names x)
made_done {who} b names x new named st r a shown given = (
  λ i. operation.reply (shown i) (Some ((given ∙ named) i)),
  subst (λ i. Represents who new (record
      (with_token b (token_text names.token) x) { used = use_up b.used (names.token ∷ i ∷ []) })) named st,
)

-- ---- no token has an empty text

pub no_empty_token : {who : Option Text} (b : Broker) (rows : Rows) → Represents who rows b → (t : Text)
    → true ≡ (length t == 0)
    → None ≡ option_map token_entry (get b.tokens t)
no_empty_token b rows st t none = by (get b.tokens t) refl
  where
    by : (o : Option Token) → get b.tokens t ≡ o → None ≡ option_map token_entry o
    by None e = refl
    by (Some x) e = absurd (true≢false (none ∙ ap (λ n. n == 0) (tokens_long b rows st t x e)))

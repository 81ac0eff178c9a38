-- Look-ups of tokens: from what the rows tell to what the commands answer.
use Rattle.std.proofs.Common.{◌≡◌, ℕ, Option, Some, None, option_map, Result, Ok, Err, refl, sym, ◌∙◌}
use Rattle.broker_model.specs.Words.{none-some, same_Some, Text, get, Token, Broker, Names, reply, Done, plainly, ◌>>=◌}
use Rattle.broker_model.specs.Words.{some_or, Refusal, Refused, TokenEntry, token_entry, Rows, token_reply, look_up}
use Rattle.broker_types.specs.declared.refusal.Refusal.TheVariants as refusal
use Rattle.broker_types.specs.declared.refusal.Denial.TheVariants as denial
use Rattle.broker_rows.specs.Words.{Represents, answered_of, ActsAs}
use Rattle.broker_rows.specs.declared.answered.Answered as Code

-- what a look-up answers of a token that may be there
abbrev shown_as : Broker → Names → Text → Option Token → Result Done Refusal
shown_as b names id o =
    some_or (refusal.Forbidden denial.BadToken) o
    >>= (λ x. Ok (plainly (reply (token_reply names.request b.clock id (token_entry x)) None) b))

module _ (b : Broker) (rows : Rows) (who : Option Text) (t id : Text) (names : Names) (found : Option TokenEntry)
    (st : Represents who rows b)
    (told : found ≡ option_map token_entry (get b.tokens t)) where
  -- a token that was found is shown
  pub acts_look_up : (now : ℕ) (entry : TokenEntry) (a : Code.Answered) → b.clock ≡ now → found ≡ Some entry
      → answered_of a ≡ reply (token_reply names.request now id entry) None
      → ActsAs who b rows (Ok a) (look_up b names t id)
  acts_look_up now entry a clock some is = by (get b.tokens t) told
    where
      by : (o : Option Token) → found ≡ option_map token_entry o → ActsAs who b rows (Ok a) (shown_as b names id o)
      by None e = absurd (none-some _ (sym e ∙ some))
      by (Some x) e = (
        is ∙ (λ i. reply (token_reply names.request (sym clock i) id (same_Some _ _ (sym some ∙ e) i))
            None),
        st,
      )

  -- and one that was not is refused
  pub acts_unknown : found ≡ None → ActsAs who b rows (Err (Refused (refusal.Forbidden denial.BadToken)))
      (look_up b names t id)
  acts_unknown none = by (get b.tokens t) told
    where
      by : (o : Option Token) → found ≡ option_map token_entry o
          → ActsAs who b rows (Err (Refused (refusal.Forbidden denial.BadToken))) (shown_as b names id o)
      by None e = (refl, st)
      by (Some x) e = absurd (none-some _ (sym none ∙ e))

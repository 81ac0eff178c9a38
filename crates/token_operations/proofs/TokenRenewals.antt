-- Renewals of tokens: from what the rows tell to what the commands answer.
use Rattle.std.proofs.Common.{◌≡◌, ◌+◌, ◌==◌, if◌then◌else◌, min, ℕ, Bool, true, false, Option, Some, None, is_some, Ok}
use Rattle.broker_model.specs.Words.{option_map, Result, Err, refl, sym, ◌∙◌, ap, subst, le_trans, min-le_left}
use Rattle.broker_model.specs.Words.{min-le_right, Text, longest_ttl, get, Token, Broker, Names, reply, Done, plainly}
use Rattle.broker_model.specs.Words.{mapped, mapped_none, ◌>>=◌, some_or, unless, IsEnd, Refusal, Reply, Refused}
use Rattle.broker_model.specs.Words.{IsTokenInRange, TokenEntry, token_entry, Rows, with_end, or_longest, auth_reply}
use Rattle.broker_model.specs.Words.{renew_token, new_end, prolonged_end}
use Rattle.token_operations.proofs.TokenSound.{end_near}
use Rattle.broker_types.specs.declared.refusal.Refusal.TheVariants as refusal
use Rattle.broker_types.specs.declared.refusal.Denial.TheVariants as denial
use Rattle.broker_types.specs.declared.refusal.Reason.TheVariants as reason
use Rattle.token_tree.specs.Tokens as tree
use Rattle.broker_rows.specs.Words.{Represents, ActsAs}
use Rattle.broker_rows.specs.declared.answered.Answered.TheVariants.{Given}

-- ---- the new end

-- the new end of what a row holds is no further ahead than ends are set
pub prolonged_near : (now increment : ℕ) (x : TokenEntry) → IsTokenInRange x → IsEnd (prolonged_end now x increment)
prolonged_near now increment x range =
    let longest = min longest_ttl (or_longest x.explicit_max_ttl) in
    le_trans (min-le_right (now + (if increment == 0 then x.ttl else increment)) (x.issued + longest))
    (end_near x.issued longest range.issued (min-le_left longest_ttl (or_longest x.explicit_max_ttl)))

-- ---- how a renewal ends

abbrev given_end : Broker → Names → Text → Token → ℕ → Done
given_end b names t x ends =
    plainly (reply (auth_reply names.request b.clock t (token_entry (with_end ends x))) None) (tree.renew b t ends)

-- what a renewal answers of a token that may have an end
abbrev renewed_if : Broker → Names → Text → ℕ → Token → Bool → Result Done Refusal
renewed_if b names t increment x has_end =
    unless has_end (refusal.BadRequest reason.TokenNotRenewable)
    >>= (λ ending. Ok (given_end b names t x (new_end b.clock (token_entry x) increment)))

-- and of one that may be there
abbrev renewed_as : Broker → Names → Text → ℕ → Option Token → Result Done Refusal
renewed_as b names t increment o =
    some_or (refusal.Forbidden denial.BadToken) o >>= (λ x. renewed_if b names t increment x (is_some x.ends))

module _ (b : Broker) (rows : Rows) (who : Option Text) (t : Text) (names : Names) (increment : ℕ)
    (found : Option TokenEntry)
    (told : found ≡ option_map token_entry (get b.tokens t)) where
  -- an unknown token is refused
  pub acts_unknown : Represents who rows b → found ≡ None
      → ActsAs who b rows (Err (Refused (refusal.Forbidden denial.BadToken))) (renew_token b names t increment)
  acts_unknown st none =
      subst (λ o. ActsAs who b rows (Err (Refused (refusal.Forbidden denial.BadToken)))
      (renewed_as b names t increment o))
      (sym (mapped_none token_entry (get b.tokens t) (sym told ∙ none))) (refl, st)

  -- and so is one without an end
  pub acts_endless : (entry : TokenEntry) → Represents who rows b → found ≡ Some entry → is_some entry.ends ≡ false
      → ActsAs who b rows (Err (Refused (refusal.BadRequest reason.TokenNotRenewable)))
      (renew_token b names t increment)
  acts_endless entry st some endless =
      let x = mapped token_entry (get b.tokens t) entry (sym told ∙ some) in
      subst (λ o. ActsAs who b rows (Err (Refused (refusal.BadRequest reason.TokenNotRenewable)))
      (renewed_as b names t increment o)) (sym x.1)
      (subst (λ v. ActsAs who b rows (Err (Refused (refusal.BadRequest reason.TokenNotRenewable)))
      (renewed_if b names t increment x.0 v))
      (sym (sym (ap (λ (z : TokenEntry). is_some z.ends) x.2) ∙ endless)) (refl, st))

  -- another is given its new end
  pub acts_renewed : (request : Text) (now ends : ℕ) (entry : TokenEntry) (r : Reply) → names.request ≡ request
      → b.clock ≡ now
      → found ≡ Some entry → is_some entry.ends ≡ true → ends ≡ new_end now entry increment
      → r ≡ auth_reply request now t (record entry { ends = Some ends }) → Represents who rows (tree.renew b t ends)
      → ActsAs who b rows (Ok (Given r)) (renew_token b names t increment)
  acts_renewed request now ends entry r named clock some ending is replied st =
      let x = mapped token_entry (get b.tokens t) entry (sym told ∙ some) in
      let next : ends ≡ new_end b.clock (token_entry x.0) increment =
      is ∙ (λ i. new_end (sym clock i) (x.2 i) increment) in
      subst (λ o. ActsAs who b rows (Ok (Given r)) (renewed_as b names t increment o)) (sym x.1)
      (subst (λ v. ActsAs who b rows (Ok (Given r)) (renewed_if b names t increment x.0 v))
      (sym (sym (ap (λ (z : TokenEntry). is_some z.ends) x.2) ∙ ending))
      (subst (λ n. ActsAs who b rows (Ok (Given r)) (Ok (given_end b names t x.0 n))) next (
        ap (λ r. reply r None) (replied ∙ (λ i. auth_reply (sym named i) (sym clock i) t
            (record (x.2 i) { ends = Some ends }))),
        st,
      )))

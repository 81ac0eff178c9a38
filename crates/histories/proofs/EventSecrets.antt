-- What a request leaves of the secrets, and its status.
use Rattle.std.proofs.Common.{◌≡◌, ◌⊎◌, if◌then◌else◌}
use Rattle.histories.specs.Words.{true, false, Option, Some, None, refl, sym, ◌∙◌, ap, subst, inl, option_map_or, inr}
use Rattle.histories.specs.Words.{Text, get, Broker, revoke, Names, names_of, Answered, nothing, missing, reply, Done}
use Rattle.histories.specs.Words.{end_spent, is_spent, Reply, act, Command, Outcome, Wrapped, counted, response_to}
use Rattle.histories.specs.Words.{wrapped, permits, Request, request_of, step, traits, Status, Asking, clocked}
use Rattle.histories.proofs.Order.{IsServed, IsTurnedAway, IsTurnedDown, order_cases, spent, wrapped_cases, Served}

-- ---- the secrets

-- the end of a caller leaves the secrets
pub end_same : (b : Broker) (who : Option Text) → (end_spent b who).secrets ≡ b.secrets
end_same b None = refl
end_same b (Some c) =
    elim (option_map_or is_spent (get b.tokens c) false) as (λ v. (if v then revoke b c else b).secrets ≡ b.secrets) [
      | true ↦ refl
      | false ↦ refl
    ]

-- and so does a use that is spent
pub spent_same : (b : Broker) (who : Option Text) → (spent b who).secrets ≡ b.secrets
spent_same b None = refl
spent_same b (Some c) = refl

-- and so does wrapping
module _ (q : Request Command) (names : Names) (start : Broker) (k : Command) (d : Done) where
  pub wrapped_same : (wrapped permits traits act start q names k d).done.next.secrets ≡ d.next.secrets
  wrapped_same = elim (wrapped_cases permits traits act start q names k d) [
    | inl plain ↦ ap (λ (x : Wrapped). x.done.next.secrets) plain
    | inr kept ↦ ap (λ (x : Wrapped). x.done.next.secrets) kept.4
  ]

module _ (a : Asking) where
  abbrev now : Broker
  now = clocked a

  -- what was served left what its operation did
  pub served_left : (s : Served a) → a.outcome.next.secrets ≡ (s.done).next.secrets
  served_left s =
      let start = spent now s.caller in
      let v = wrapped permits traits act start (request_of a.ask) (names_of a.words) s.command s.done in
      ap (λ (o : Outcome). o.next.secrets) s.outcome ∙ end_same (counted v.done) s.caller
      ∙ wrapped_same (request_of a.ask) (names_of a.words) start s.command s.done

  by_cases : IsTurnedAway now (request_of a.ask) a.outcome ⊎ (IsTurnedDown now a.outcome ⊎ Served a)
      → (a.outcome.next.secrets ≡ now.secrets) ⊎ Served a
  by_cases (inl s) = inl (ap (λ (o : Outcome). o.next.secrets) s.outcome ∙ elim s.removed [
    | inl same_now ↦ ap (λ (b : Broker). b.secrets) same_now
    | inr (t, closed, token, waits, dropped) ↦ ap (λ (b : Broker). b.secrets) dropped
  ])
  by_cases (inr (inl s)) =
      inl (ap (λ (o : Outcome). o.next.secrets) s.outcome ∙ end_same (spent now s.caller) s.caller
      ∙ spent_same now s.caller)
  by_cases (inr (inr s)) = inr s

  -- a request that was not served leaves the secrets
  pub same_or_served : a.outcome ≡ step a.broker a.moment a.words a.ask
      → (a.outcome.next.secrets ≡ now.secrets) ⊎ Served a
  unfolding step
  same_or_served is =
      by_cases (subst (λ (o : Outcome). IsTurnedAway now (request_of a.ask) o ⊎ (IsTurnedDown now o
      ⊎ IsServed permits traits act now (request_of a.ask) (names_of a.words) o)) (sym is)
      (order_cases permits traits act a.broker a.moment (request_of a.ask) (names_of a.words)))

  -- ---- the status

  module _ (s : Served a) where
    -- a reply is a 200, wrapped or not
    pub is_200 : (r : Reply) (made : Option Text) → s.done.answered ≡ reply r made
        → a.outcome.response.status ≡ Status.Success
    is_200 r made answered =
        ap (λ (z : Outcome). z.response.status) s.outcome
        ∙ elim (wrapped_cases permits traits act (spent now s.caller) (request_of a.ask) (names_of a.words) s.command
        s.done) [
          | inl plain ↦ ap (λ (z : Wrapped). (response_to z.done.answered).status) plain
              ∙ ap (λ z. (response_to z).status) answered
          | inr kept ↦ ap (λ (z : Wrapped). (response_to z.done.answered).status) kept.4
        ]

    -- a 404 with a reply is one
    pub is_404 : (r : Reply) → s.done.answered ≡ missing r → a.outcome.response.status ≡ Status.NotFound
    is_404 r answered =
        ap (λ (z : Outcome). z.response.status) s.outcome
        ∙ elim (wrapped_cases permits traits act (spent now s.caller) (request_of a.ask) (names_of a.words) s.command
        s.done) [
          | inl plain ↦ ap (λ (z : Wrapped). (response_to z.done.answered).status) plain
              ∙ ap (λ z. (response_to z).status) answered
          | inr (x, made, wraps_, replied, e) ↦ absurd (no_reply answered replied)
        ]
      where
        no_reply : {x : Answered} {r y : Reply} {made : Option Text} → x ≡ missing r → x ≡ reply y made → ⊥
        no_reply none some = apart (sym none ∙ some)
          where
            apart : {r y : Reply} {made : Option Text} → missing r ≡ reply y made → ⊥
            apart e = cc

    -- and nothing a 204
    pub is_204 : s.done.answered ≡ nothing → a.outcome.response.status ≡ Status.NoContent
    is_204 answered =
        ap (λ (z : Outcome). z.response.status) s.outcome
        ∙ elim (wrapped_cases permits traits act (spent now s.caller) (request_of a.ask) (names_of a.words) s.command
        s.done) [
          | inl plain ↦ ap (λ (z : Wrapped). (response_to z.done.answered).status) plain
              ∙ ap (λ z. (response_to z).status) answered
          | inr (r, made, wraps_, replied, e) ↦ absurd (no_reply answered replied)
        ]
      where
        no_reply : {x : Answered} {r : Reply} {made : Option Text} → x ≡ nothing → x ≡ reply r made → ⊥
        no_reply none some = apart (sym none ∙ some)
          where
            apart : {r : Reply} {made : Option Text} → nothing ≡ reply r made → ⊥
            apart e = cc

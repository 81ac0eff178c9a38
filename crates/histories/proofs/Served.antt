-- A request whose answer is no refusal was served.
use Rattle.std.proofs.Common.{◌≡◌, ◌<◌, ◌≤◌, ◌⊎◌}
use Rattle.histories.specs.Words.{ℕ, Option, sym, ◌∙◌, ap, subst, inl, inr, arith, IsRefused, refused, names_of}
use Rattle.histories.specs.Words.{Answered, nothing, reply, status_code, Text, Refusal, Reply, act, Outcome}
use Rattle.histories.specs.Words.{permission_denied, permits, request_of, step, traits, Asking, clocked}
use Rattle.histories.proofs.OrderCases.{IsServed, IsTurnedAway, IsTurnedDown, order_cases}

-- the code of its answer
abbrev pub code : Asking → ℕ
code a = status_code a.outcome.response.status

-- the request was served
abbrev pub Served : Asking → Type 0
Served a = IsServed permits traits act (clocked a) (request_of a.ask) (names_of a.words) a.outcome

-- no command that answers nothing replies
pub nothing_is_no_reply : {x : Answered} {r : Reply} {made : Option Text} → x ≡ nothing → x ≡ reply r made → ⊥
nothing_is_no_reply none some = apart (sym none ∙ some)
  where
    apart : {r : Reply} {made : Option Text} → nothing ≡ reply r made → ⊥
    apart e = cc

-- a request was turned away, turned down, or served
pub cases : (a : Asking) → a.outcome ≡ step a.broker a.moment a.words a.ask
    → IsTurnedAway (clocked a) (request_of a.ask) a.outcome ⊎ (IsTurnedDown (clocked a) a.outcome ⊎ Served a)
unfolding step
cases a is = subst (λ (o : Outcome). IsTurnedAway (clocked a) (request_of a.ask) o ⊎ (IsTurnedDown (clocked a) o
    ⊎ IsServed permits traits act (clocked a) (request_of a.ask) (names_of a.words) o)) (sym is)
    (order_cases permits traits act a.broker a.moment (request_of a.ask) (names_of a.words))

-- a refusal is 400 or more
pub refused_code : (why : Refusal) → 400 ≤ status_code (refused why).status
refused_code (Refusal.BadRequest r) = omega (arith)
refused_code (Refusal.Forbidden d) = omega (arith)
refused_code Refusal.NotFound = omega (arith)
refused_code (Refusal.MethodNotAllowed ms) = omega (arith)
refused_code Refusal.IdentifierUsed = omega (arith)

module _ (a : Asking) (is : a.outcome ≡ step a.broker a.moment a.words a.ask) (answered : code a < 400) where
  not_refused : (why : Refusal) → code a ≡ status_code (refused why).status → ⊥
  not_refused why e = omega (arith, answered, refused_code why, e)

  by_cases : IsTurnedAway (clocked a) (request_of a.ask) a.outcome ⊎ (IsTurnedDown (clocked a) a.outcome ⊎ Served a)
      → Served a
  by_cases (inl s) =
      absurd (not_refused permission_denied (ap (λ (x : Outcome). status_code x.response.status) s.outcome))
  by_cases (inr (inl s)) = absurd (not_refused s.why (ap (λ (x : Outcome). status_code x.response.status) s.outcome))
  by_cases (inr (inr s)) = s

  pub served : Served a
  served = by_cases (cases a is)

-- a request was refused, or served
pub refused_or_served : (a : Asking) → a.outcome ≡ step a.broker a.moment a.words a.ask
    → IsRefused a.outcome.response ⊎ Served a
refused_or_served a is = by_case (cases a is)
  where
    by_case : IsTurnedAway (clocked a) (request_of a.ask) a.outcome ⊎ (IsTurnedDown (clocked a) a.outcome ⊎ Served a)
        → IsRefused a.outcome.response ⊎ Served a
    by_case (inl s) = inl (permission_denied, ap (λ (x : Outcome). x.response) s.outcome)
    by_case (inr (inl s)) = inl (s.why, ap (λ (x : Outcome). x.response) s.outcome)
    by_case (inr (inr s)) = inr s

-- What a command leads to that is not refused before its operation: what the operation answers is the answer.
use Rattle.std.proofs.Common.{◌≡◌, ◌||◌, ◌&&◌, ◌∷◌, if◌then◌else◌}
use Rattle.histories.specs.Words.{List, Bool, true, false, not, nat_lt, Option, Some, None, Result, Ok, refl, ◌∙◌, ap}
use Rattle.histories.specs.Words.{inl, Text, Broker, Names, names_of, Done, ◌>>=◌, unless, are_new, Refusal, act}
use Rattle.histories.specs.Words.{Command, command_of, Outcome, Wrapped, finish, needed, permission_denied}
use Rattle.histories.specs.Words.{response_to, unwrapped, wrap_200, wrapped, permits, Request, is_open, is_wrapped}
use Rattle.histories.specs.Words.{operated, request_of, step, traits, Reason, IsAllowed, Asking, clocked, spent_by}
use Rattle.histories.specs.Words.{PoliciesDecide}
use Rattle.histories.proofs.OrderCases.{with_caller}

module _ (a : Asking) (is : a.outcome ≡ step a.broker a.moment a.words a.ask) (command : Command)
    (means : command_of (clocked a).mounts a.ask ≡ Ok command) where
  -- what the command of an allowed ask leads to is the outcome
  pub carried_for : PoliciesDecide → (k : IsAllowed a)
      → a.outcome
      ≡ finish (spent_by a k.caller) (Some k.caller)
      (operated (spent_by a k.caller) (Some k.caller) (names_of a.words) a.ask command)
  carried_for decide k =
      let start = spent_by a k.caller in
      is ∙ decide.granted a.broker a.moment a.words a.ask k.caller k.own k.calls k.granted
      ∙ ap (λ (r : Result Command Refusal). finish start (Some k.caller)
      (r >>= operated start (Some k.caller) (names_of a.words) a.ask)) means

  -- and so it is with an open ask
  pub carried_openly : is_open a.ask ≡ true
      → a.outcome ≡ finish (clocked a) None (operated (clocked a) None (names_of a.words) a.ask command)
  unfolding step
  carried_openly open_ =
      let now = clocked a in
      let go : Result Command Refusal → Result Wrapped Refusal =
      λ r. r >>= operated now None (names_of a.words) a.ask in
      let let_pass : Bool → Outcome = λ v. finish now None
      (unless (v || permits now None a.ask.verb a.ask.path) permission_denied
      >>= (λ u. go (command_of now.mounts a.ask))) in
      is
      ∙ with_caller permits traits act a.broker a.moment (request_of a.ask) (names_of a.words) None (inl (open_, refl))
      ∙ ap let_pass open_
      ∙ ap (λ r. finish now None (go r)) means

-- ---- what is answered

module _ (a : Asking) (start : Broker) (who : Option Text) (command : Command)
    (carried : a.outcome ≡ finish start who (operated start who (names_of a.words) a.ask command)) where
  abbrev names : Names
  names = names_of a.words

  abbrev q : Request Command
  q = request_of a.ask

  -- where its identifiers are new, and it has the wrap TTL that it must have, its operation decides
  pub leads_to : are_new start.used (needed permits traits act q names command) ≡ true
      → (not (traits command).must_wrap || nat_lt 0 q.wrap_ttl) ≡ true → (d : Done) → act start who names command ≡ Ok d
      → a.outcome ≡ finish start who (Ok (wrapped permits traits act start q names command d))
  leads_to new may d acted =
      let tried : Result Done Refusal → Result Wrapped Refusal =
      λ r. r >>= (λ d. Ok (wrapped permits traits act start q names command d)) in
      let asked : Bool → Result Wrapped Refusal =
      λ v. unless v (Refusal.BadRequest Reason.WrappingRequired) >>= (λ w. tried (act start who names command)) in
      carried
      ∙ ap (λ v. finish start who (unless v Refusal.IdentifierUsed
      >>= (λ u. asked (not (traits command).must_wrap || nat_lt 0 q.wrap_ttl)))) new
      ∙ ap (λ v. finish start who (asked v)) may
      ∙ ap (λ r. finish start who (tried r)) acted

module _ (a : Asking) (start : Broker) (who : Option Text) (command : Command)
    (carried : a.outcome ≡ finish start who (operated start who (names_of a.words) a.ask command))
    (no_wrap : is_wrapped a.ask command ≡ false)
    (new : are_new start.used ((traits command).own (names_of a.words)) ≡ true)
    (free : (traits command).must_wrap ≡ false) where
  -- those that it needs, if its reply is wrapped, and if it is not
  abbrev needs : Bool → List Text
  needs v =
      let its = names_of a.words in
      let own = (traits command).own its in
      if v then its.wrapping_token ∷ its.wrapping_accessor ∷ own else own

  -- where the command is carried out, what it answers is the answer
  pub answers : (d : Done) → act start who (names_of a.words) command ≡ Ok d
      → a.outcome.response ≡ response_to d.answered
  answers d acted =
      ap (λ (o : Outcome). o.response)
      (leads_to a start who command carried (ap (λ v. are_new start.used (needs v)) no_wrap ∙ new)
      (ap (λ v. not v || nat_lt 0 a.ask.wrap_ttl) free) d acted
      ∙ ap (λ v. finish start who (Ok
      (if v then wrap_200 start a.ask.path a.ask.wrap_ttl (names_of a.words) d d.answered else unwrapped d))) no_wrap)

-- without a wrap TTL nothing is wrapped
pub without_ttl : (a : Asking) (command : Command) → a.ask.wrap_ttl ≡ 0 → is_wrapped a.ask command ≡ false
without_ttl a command none = ap (λ n. nat_lt 0 n && (traits command).may_wrap) none

-- nor what never is
pub never_wrapped : (a : Asking) (command : Command) → (traits command).may_wrap ≡ false
    → is_wrapped a.ask command ≡ false
never_wrapped a command never = ap (λ v. nat_lt 0 a.ask.wrap_ttl && v) never ∙ by (nat_lt 0 a.ask.wrap_ttl)
  where
    by : (v : Bool) → (v && false) ≡ false
    by true = refl
    by false = refl

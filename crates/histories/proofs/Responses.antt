-- What is done with a response that waits, whoever asks, is not refused.
use Rattle.std.proofs.Common.{◌≡◌, ◌⊎◌}
use Rattle.histories.specs.Words.{true, false, Option, Some, None, Ok, option_map, refl, ◌∙◌, ap, inl, inr, ⊤, Text}
use Rattle.histories.specs.Words.{Map, get, Response, Broker, Waiting, Names, names_of, Done, plainly, reply, ◌>>=◌}
use Rattle.histories.specs.Words.{some_or, are_new, act, command_of, on_wrapping, finish, response_to, ok, is_open}
use Rattle.histories.specs.Words.{operated, step, traits, is_wrap, FoundResponse, act_on_wrappings, found, found_under}
use Rattle.histories.specs.Words.{handed_out, rewrapped, shown_response, Reason, Refusal, Status, WrappingCommand}
use Rattle.histories.specs.Words.{AreNew, IsAllowed, Asking, clocked, spent_by, PoliciesDecide}
use Rattle.histories.proofs.Carried.{answers, carried_for, carried_openly, never_wrapped}
use Rattle.histories.proofs.Found.{both_new}

-- what the command leads to from this broker is the outcome, and it is the clock but for a use
record Begins (a : Asking) (k : WrappingCommand) : Type 0 where
  pub start : Broker
  pub who : Option Text
  pub waiting : start.waiting ≡ (clocked a).waiting
  pub used : start.used ≡ (clocked a).used
  pub acts : act start who (names_of a.words) (on_wrapping k) ≡ act_on_wrappings start (names_of a.words) k
  pub carried : a.outcome ≡ finish start who (operated start who (names_of a.words) a.ask (on_wrapping k))

module _ (decide : PoliciesDecide) (a : Asking) (is : a.outcome ≡ step a.broker a.moment a.words a.ask)
    (may : (is_open a.ask ≡ true) ⊎ IsAllowed a) (t : Text) (w : Waiting) (waits : get (clocked a).waiting t ≡ Some w)
  where
    abbrev names : Names
    names = names_of a.words

    abbrev Means : WrappingCommand → Type 0
    Means k = command_of (clocked a).mounts a.ask ≡ Ok (on_wrapping k)

    begins : (k : WrappingCommand) → Means k → Begins a k
    begins k means = elim may [
      | inl no_caller ↦ record {
        start = clocked a;
        who = None;
        waiting = refl;
        used = refl;
        acts = refl;
        carried = carried_openly a is (on_wrapping k) means no_caller;
      }
      | inr allowed ↦ record {
        start = spent_by a allowed.caller;
        who = Some allowed.caller;
        waiting = refl;
        used = refl;
        acts = refl;
        carried = carried_for a is (on_wrapping k) means decide allowed;
      }
    ]

    -- it is found, whatever is done then
    finds : (b : Broker) → b.waiting ≡ (clocked a).waiting → (go : FoundResponse → Done)
        → (found b (Some t) >>= (λ f. Ok (go f))) ≡ Ok (go (found_under t w))
    finds b same_waiting go =
        ap (λ (o : Option Waiting).
        some_or (Refusal.BadRequest Reason.InvalidWrappingToken) (option_map (found_under t) o) >>= (λ f. Ok (go f)))
        (ap (λ (m : Map Waiting). get m t) same_waiting ∙ waits)

    -- what is done then, is answered
    answer : (k : WrappingCommand) → is_wrap k ≡ false → (b : Begins a k)
        → are_new (clocked a).used ((traits (on_wrapping k)).own names) ≡ true → (d : Done)
        → act_on_wrappings b.start names k ≡ Ok d → a.outcome.response ≡ response_to d.answered
    answer k no_wrap b new d acted =
        answers a b.start b.who (on_wrapping k) b.carried (never_wrapped a (on_wrapping k) no_wrap)
        (ap (λ (m : Map ⊤). are_new m ((traits (on_wrapping k)).own names)) b.used ∙ new) no_wrap d (b.acts ∙ acted)

    pub unwrap : Means (WrappingCommand.Unwrap (Some t)) → a.outcome.response ≡ ok w.reply
    unwrap means =
        let b = begins (WrappingCommand.Unwrap (Some t)) means in
        answer (WrappingCommand.Unwrap (Some t)) refl b refl (handed_out b.start (found_under t w))
        (finds b.start b.waiting (handed_out b.start))

    pub look_up : Means (WrappingCommand.LookUp (Some t)) → a.outcome.response.status ≡ Status.Success
    look_up means =
        let b = begins (WrappingCommand.LookUp (Some t)) means in
        let go : FoundResponse → Done = λ f. plainly (reply (shown_response names f) None) b.start in
        ap (λ (r : Response). r.status)
        (answer (WrappingCommand.LookUp (Some t)) refl b refl (go (found_under t w)) (finds b.start b.waiting go))

    pub rewrap : Means (WrappingCommand.Rewrap (Some t)) → AreNew a names.wrapping_token names.wrapping_accessor
        → a.outcome.response.status ≡ Status.Success
    rewrap means new =
        let b = begins (WrappingCommand.Rewrap (Some t)) means in
        ap (λ (r : Response). r.status)
        (answer (WrappingCommand.Rewrap (Some t)) refl b
        (both_new (clocked a).used names.wrapping_token names.wrapping_accessor new.one_is_new new.other_is_new
        new.differ)
        (rewrapped b.start names (found_under t w)) (finds b.start b.waiting (rewrapped b.start names)))

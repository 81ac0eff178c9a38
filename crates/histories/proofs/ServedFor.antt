-- A request that was served for its client token, and what it leaves of tokens.
use Rattle.std.proofs.Common.{◌≡◌, if◌then◌else◌, is_some, Option, Some, None, Ok, sym, ◌∙◌, ap, subst, inl, inr}
use Rattle.broker_model.specs.Words.{false≢true, Text, same, get, valued_none, Broker, Names, names_of, Done}
use Rattle.broker_model.specs.Words.{found_or_not, end_spent, one_less, Token, Tokens, ok_inj, act, Command, command_of}
use Rattle.broker_model.specs.Words.{Outcome, Wrapped, counted, wrapped, permits, request_of, traits}
use Rattle.histories.specs.Words.{Asking, clocked, spent_by, IsClient, left_by_caller}
use Rattle.histories.proofs.Order.{IsCaller, spent, wrapped_cases, means_at_clock, Served}
use Rattle.histories.proofs.Revoking.{end_spent_leaves}

-- without a caller the command is not carried out
abbrev pub NeedsCaller : Command → Type 0
NeedsCaller command = (b : Broker) (names : Names) (d : Done) → act b None names command ≡ Ok d → ⊥

-- the command was carried out for the client token, which was this one, with the use that it had spent
pub record ServedFor (a : Asking) (command : Command) : Type 0 where
  pub it : Served a
  pub caller : Text
  pub is_caller : it.caller ≡ Some caller
  pub client : IsClient a caller
  pub own : Token
  pub there : get (spent_by a caller).tokens caller ≡ Some own
  pub acted : act (spent_by a caller) (Some caller) (names_of a.words) command ≡ Ok it.done

module _ (a : Asking) (s : Served a) (command : Command) (means : command_of (clocked a).mounts a.ask ≡ Ok command)
    (needs : NeedsCaller command) where
  abbrev ActedBy : Option Text → Type 0
  ActedBy caller = act (spent (clocked a) caller) caller (names_of a.words) command ≡ Ok s.done

  acted_by : ActedBy s.caller
  acted_by =
      subst (λ (x : Command). act (spent (clocked a) s.caller) s.caller (names_of a.words) x ≡ Ok s.done)
      (ok_inj (sym (means_at_clock a s.caller s.command s.means) ∙ means)) s.acted

  by_asked : IsCaller (clocked a) (request_of a.ask) s.caller → ServedFor a command
  by_asked (inl (open_, none)) = absurd (needs (clocked a) (names_of a.words) s.done (subst ActedBy none acted_by))
  by_asked (inr (c, closed, is_token, is_c, no_wait, there)) = elim (found_or_not (get (spent_by a c).tokens c)) [
    | inl away ↦ absurd (false≢true (sym (ap (λ (o : Option Token). is_some o)
        (valued_none (λ u (z : Token). if same u c then one_less z else z) (clocked a).tokens c away)) ∙ there))
    | inr x ↦ record {
      it = s;
      caller = c;
      is_caller = is_c;
      client = record { closed = closed; token = is_token };
      own = x.0;
      there = x.1;
      acted = subst ActedBy is_c acted_by;
    }
  ]

  pub served_for : ServedFor a command
  served_for = by_asked s.asked

-- what it leaves of the tokens, after the end of its caller, if that was its last use
pub tokens_left : (a : Asking) (s : Served a) (c q : Text) → s.caller ≡ Some c
    → get a.outcome.next.tokens q ≡ left_by_caller (s.done).next.tokens c q
tokens_left a s c q is_c =
    let start = spent (clocked a) s.caller in
    let v = wrapped permits traits act start (request_of a.ask) (names_of a.words) s.command s.done in
    let same_tokens : v.done.next.tokens ≡ (s.done).next.tokens =
    elim (wrapped_cases permits traits act start (request_of a.ask) (names_of a.words) s.command s.done) [
      | inl plain ↦ ap (λ (x : Wrapped). x.done.next.tokens) plain
      | inr kept ↦ ap (λ (x : Wrapped). x.done.next.tokens) kept.4
    ] in
    ap (λ (o : Outcome). get o.next.tokens q) s.outcome
    ∙ ap (λ w. get (end_spent (counted v.done) w).tokens q) is_c
    ∙ end_spent_leaves (counted v.done) c q
    ∙ ap (λ (ts : Tokens). left_by_caller ts c q) same_tokens

-- Each request gives out all that is new in the places of the broker that it leaves.
use Rattle.std.proofs.Common.{◌≡◌, ◌⊎◌, ◌∷◌}
use Rattle.broker_model.specs.Words.{with_token}
use Rattle.broker_types.specs.Broker as broker
use Rattle.broker_model.specs.Traits.{revoke}
use Rattle.histories.specs.Words.{with_end, create, renew_token, [], Bool, Option, Ok, Result, refl, sym, subst, inl}
use Rattle.histories.specs.Words.{inr, Text, Broker, Names, names_of, Done, end_spent, token_text, Verb, Refusal}
use Rattle.histories.specs.Words.{with_waiting, act, Traits, OperationsDoAsTold, later_in, Outcome, Wrapped, counted}
use Rattle.histories.specs.Words.{kept_entry, ordered, wrapped, permits, Request, request_of, step, traits, Asking}
use Rattle.histories.specs.Words.{clocked, ℕ, List, true, is_some, Some, option_and_then, option_map, list_any, ◌∙◌}
use Rattle.histories.specs.Words.{ap, same, get, no_entry, put_is, Waiting, lease_identifier, token_identifier, unless}
use Rattle.histories.specs.Words.{ok_step, drop_waiting, Token, Lease, Part, token_entry, ok_inj, TokenCreation}
use Rattle.histories.specs.Words.{Command, both_there, Both, Does, IsFated, Stay, StaysAt, first_in, Fate, make}
use Rattle.histories.specs.Words.{orphan, renew, stay, token_names, is_privileged, making_path, may_make, new_parent}
use Rattle.histories.specs.Words.{new_policies, new_token, known, made, new_end, Reason, Making}
use Rattle.histories.proofs.Order.{IsServed, IsTurnedAway, IsTurnedDown, order_cases, spent, IsWrapped, wrapped_cases}
use Rattle.histories.proofs.Placed.{Placed, drop_placed, end_placed, placed_more, placed_self, placed_trans, same_maps}
use Rattle.histories.proofs.Placed.{spent_placed, LeaseFrom, TokenFrom, WaitingFrom, from_maps, orphan_placed}
use Rattle.histories.proofs.Placed.{other_tokens, other_value, other_waiting, revoke_placed, same_parts, stays_self}
use Rattle.histories.proofs.Placed.{token_from, waiting_from}

-- ---- an operation gives out all that is new in the places of the broker that it leaves

-- what an operation left has only what was there, or what it gave out
abbrev pub Tells : Broker → Done → Type 0
Tells b d = Placed b d.taken d.next

-- ---- responses

-- a response that begins to wait, or waits under another wrapping token
pub stored_placed : (b : Broker) (given : List Text) (t : Text) (w : Waiting)
    → list_any (same (token_identifier t)) given ≡ true
    → list_any (same w.accessor) given ≡ true → Placed b given (with_waiting b t w)
stored_placed b given t w identifier accessor = other_waiting b given (with_waiting b t w) refl (λ q v e.
    put_is b.waiting t w q v _ e
    (λ at here. record {
      identifier = inr (ap (λ u. list_any (same (token_identifier u)) given) at ∙ identifier);
      accessor = inr (ap (λ (z : Waiting). list_any (same z.accessor) given) here ∙ accessor);
    })
    (λ there. waiting_from b given q v there))

-- the identifiers of a new wrapping token are among these
pub token_in : (names : Names) (more : List Text)
    → list_any (same names.wrapping_token) (names.wrapping_token ∷ names.wrapping_accessor ∷ more) ≡ true
token_in names more = first_in names.wrapping_token (names.wrapping_accessor ∷ more)

pub accessor_in : (names : Names) (more : List Text)
    → list_any (same names.wrapping_accessor) (names.wrapping_token ∷ names.wrapping_accessor ∷ more) ≡ true
accessor_in names more =
    later_in names.wrapping_accessor names.wrapping_token (names.wrapping_accessor ∷ more)
    (first_in names.wrapping_accessor more)

-- ---- a token that is made

module _ (b : Broker) (names : Names) (x : Token) (accessor : x.accessor ≡ names.accessor)
    (none : (id : Text) (l : Lease) → get x.leases id ≡ Some l → ⊥) where
  abbrev t : Text
  t = token_text names.token

  made_token : TokenFrom b (token_names names) t x
  made_token = record {
    identifier = inr (first_in names.token (names.accessor ∷ []));
    accessor = inr (ap (λ u. list_any (same u) (token_names names)) accessor
        ∙ later_in names.accessor names.token (names.accessor ∷ []) (first_in names.accessor []));
    leases = λ id l e. absurd (none id l e);
  }

  made_placed : Tells b (made b names x)
  made_placed = other_tokens b (token_names names) (with_token b t x) refl (λ q y e.
      put_is b.tokens t x q y _ e
      (λ at here. subst (λ u. TokenFrom b (token_names names) u y) (sym at)
      (subst (TokenFrom b (token_names names) t) (sym here) made_token))
      (λ there. token_from b (token_names names) q y y there (stays_self y)))

-- ---- whatever becomes of tokens

module _ (b : Broker) (who : Option Text) (names : Names) (d : Done) where
  -- both identifiers of a lease that was there, or was given out
  lease_placed : (changes : Option Part) → Stay changes who d.taken b d.next → (q : Text) (y : Token)
      → get d.next.tokens q ≡ Some y → (id : Text) (l : Lease) → get y.leases id ≡ Some l → LeaseFrom b d.taken q id l
  lease_placed changes stays q y there id l e =
      elim (stays.leases q id l (ap (option_and_then (λ (x : Token). get x.leases id)) there ∙ e)) [
        | inl was ↦ record {
          identifier = inl (ap (option_map (λ (k : Lease). lease_identifier id)) was.1);
          credential = inl (ap (option_map (λ (k : Lease). k.credential)) was.1 ∙ ap Some was.2);
        }
        | inr given ↦ record { identifier = inr given.1; credential = inr given.2 }
      ]

  stays_placed : (changes : Option Part) → Stay changes who d.taken b d.next
      → (q : Text) (y : Token) → get d.next.tokens q ≡ Some y → TokenFrom b d.taken q y
  stays_placed changes stays q y there =
      let x = both_there (StaysAt changes who q) (get b.tokens q) y
      (subst (Both (StaysAt changes who q) (get b.tokens q)) there (stays.tokens q)) in
      record {
        identifier = inl (ap (option_map (λ (z : Token). token_identifier q)) x.1);
        accessor = inl (ap (option_map (λ (z : Token). z.accessor)) x.1
            ∙ ap Some (sym (ap (λ (z : Token). z.accessor) x.2.rest)));
        leases = lease_placed changes stays q y there;
      }

  created_placed : (c : Text) (making : Making) (asked : TokenCreation) → create b c names making asked ≡ Ok d
      → Tells b d
  created_placed c making asked e =
      let x = ok_step (known b c) _ d e in
      let privileged = is_privileged b (making_path making) x.0 in
      let policies = new_policies privileged x.0 asked in
      let may = ok_step (may_make privileged making x.0 policies asked) _ d x.2 in
      subst (Tells b) (ok_inj may.2)
      (made_placed b names (new_token b.clock (new_parent c making asked) names.accessor policies asked) refl
      (λ id l is. no_entry id l is))

  renewed_placed : (t : Text) (increment : ℕ) → renew_token b names t increment ≡ Ok d → Tells b d
  renewed_placed t increment e =
      let x = ok_step (known b t) _ d e in
      let ending = ok_step (unless (is_some x.0.ends) (Refusal.BadRequest Reason.TokenNotRenewable)) _ d x.2 in
      let next = new_end b.clock (token_entry x.0) increment in
      subst (Tells b) (ok_inj ending.2)
      (other_value b [] t (with_end next) (λ y. same_parts y (with_end next y) refl refl))

  fated_placed : (changes : Option Part) (fate : Fate) → IsFated fate changes b who names d
      → ((t : Text) (w : Waiting) → get d.next.waiting t ≡ Some w → WaitingFrom b d.taken t w) → Tells b d
  fated_placed changes stay stays waiting = from_maps b d.taken d.next (stays_placed changes stays) waiting
  fated_placed changes (make making asked) (c, is, e) waiting = created_placed c making asked e
  fated_placed changes (renew named increment) (c, t, is, named_, e) waiting = renewed_placed t increment e
  fated_placed changes (revoke named) (c, t, is, named_, e) waiting =
      let next = broker.revoke b t in
      subst (Tells b) (sym e) (placed_trans b next (drop_waiting next t) [] (revoke_placed b [] t)
      (drop_placed next [] t))
  fated_placed changes (orphan t) (c, is, e) waiting =
      let next = broker.revoke_orphan b t in
      subst (Tells b) (sym e) (placed_trans b next (drop_waiting next t) [] (orphan_placed b [] t)
      (drop_placed next [] t))

pub placed_of : (b : Broker) (who : Option Text) (names : Names) (command : Command) (d : Done)
    → Does b who names command d → Tells b d
placed_of b who names command d does =
    fated_placed b who names d (traits command).changes (traits command).fate does.fated
    (λ t w e. elim (does.waiting t w e) [
      | inl was ↦ waiting_from b d.taken t w was
      | inr given ↦ record { identifier = inr given.0; accessor = inr given.1 }
    ])

module _ {Command : Type 0} (permits : Broker → Option Text → Verb → Text → Bool) (traits : Command → Traits)
    (act : Broker → Option Text → Names → Command → Result Done Refusal) (now : Broker) (q : Request Command)
    (names : Names)
    (operations : (b : Broker) (caller : Option Text) (command : Command) (d : Done)
    → act b caller names command ≡ Ok d → Tells b d) where
  -- the outcome has only what was there, or what was given out
  abbrev TellsOf : Outcome → Type 0
  TellsOf o = Placed now o.taken o.next

  turned_away : (o : Outcome) → IsTurnedAway now q o → TellsOf o
  turned_away o s = subst TellsOf (sym s.outcome) (elim s.removed [
    | inl same_now ↦ subst (Placed now []) (sym same_now) (placed_self now [])
    | inr (t, closed, token, waits, dropped) ↦ subst (Placed now []) (sym dropped) (drop_placed now [] t)
  ])

  turned_down : (o : Outcome) → IsTurnedDown now o → TellsOf o
  turned_down o s =
      let start = spent now s.caller in
      subst TellsOf (sym s.outcome)
      (placed_trans now start (end_spent start s.caller) [] (spent_placed now [] s.caller)
      (end_placed start [] s.caller))

  -- a reply that is kept has the identifiers of its wrapping token
  was_wrapped : (b : Broker) (command : Command) (d : Done) (v : Wrapped) → Tells b d
      → IsWrapped permits traits act b q names command d v
      → Tells b v.done
  was_wrapped b command d v tells (r, made, wraps_, answered, is) =
      let given = names.wrapping_token ∷ names.wrapping_accessor ∷ d.taken in
      let token = token_text names.wrapping_token in
      let entry = kept_entry b q.path q.wrap_ttl names r in
      subst (λ (x : Wrapped). Tells b x.done) (sym is)
      (placed_trans b d.next (with_waiting d.next token entry) given
      (placed_more b d.next d.taken given
      (λ i h. later_in i names.wrapping_token (names.wrapping_accessor ∷ d.taken)
      (later_in i names.wrapping_accessor d.taken h)) tells)
      (stored_placed d.next given token entry (token_in names d.taken) (accessor_in names d.taken)))

  was_served : (o : Outcome) → IsServed permits traits act now q names o → TellsOf o
  was_served o s =
      let start = spent now s.caller in
      let v = wrapped permits traits act start q names s.command s.done in
      let tells = operations start s.caller s.command s.done s.acted in
      let left : Tells start v.done = elim (wrapped_cases permits traits act start q names s.command s.done) [
        | inl plain ↦ subst (λ (x : Wrapped). Tells start x.done) (sym plain) tells
        | inr kept ↦ was_wrapped start s.command s.done v tells kept
      ] in
      let given = v.done.taken in
      subst TellsOf (sym s.outcome)
      (placed_trans now start (end_spent (counted v.done) s.caller) given (spent_placed now given s.caller)
      (placed_trans start v.done.next (end_spent (counted v.done) s.caller) given left
      (placed_trans v.done.next (counted v.done) (end_spent (counted v.done) s.caller) given
      (same_maps v.done.next given (counted v.done) refl refl) (end_placed (counted v.done) given s.caller))))

  by_cases : (o : Outcome) → IsTurnedAway now q o ⊎ (IsTurnedDown now o ⊎ IsServed permits traits act now q names o)
      → TellsOf o
  by_cases o (inl s) = turned_away o s
  by_cases o (inr (inl s)) = turned_down o s
  by_cases o (inr (inr s)) = was_served o s

-- what is in a place after a request was in that place at its clock, or the request gave it out
pub requests_tell : OperationsDoAsTold → (a : Asking) → a.outcome ≡ step a.broker a.moment a.words a.ask
    → Placed (clocked a) a.outcome.taken a.outcome.next
unfolding step
requests_tell told a is =
    let now = clocked a in
    let q = request_of a.ask in
    let names = names_of a.words in
    subst (λ (o : Outcome). Placed now o.taken o.next) (sym is)
    (by_cases permits traits act now q names
    (λ b caller command d e. placed_of b caller names command d (told b caller a.words command d e))
    (ordered permits traits act a.broker a.moment q names) (order_cases permits traits act a.broker a.moment q names))

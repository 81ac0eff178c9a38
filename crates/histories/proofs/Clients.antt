-- How a request goes for tokens: it leaves them, or its client token spends a use, and it is refused or carried out.
use Rattle.std.proofs.Common.{◌≡◌, ◌≢◌, ◌⊎◌, ◌&&◌, ◌||◌, ◌-◌, ◌==◌, if◌then◌else◌}
use Rattle.broker_types.specs.IdentifierPlaces as place
use Rattle.histories.specs.Words.{not, nat_lt, ℕ, max, Bool, true, Ok, false, is_some, Option, Some, None, Result, Err}
use Rattle.histories.specs.Words.{option_map, option_map_or, refl, sym, ◌∙◌, ap, subst, inl, inr, false≢true}
use Rattle.histories.specs.Words.{none-some, same_Some, Text, same, same_self, same_true, get, valued_is, Broker}
use Rattle.histories.specs.Words.{Waiting, is_under, names_of, nothing, reply, Done, found_or_not, identifier_at}
use Rattle.histories.specs.Words.{token_identifier, unless, ok_step, Sound, end_spent, is_spent, one_less, Token}
use Rattle.histories.specs.Words.{Tokens, alive_is, under_self, are_new, Refusal, Reply, ok_inj, act, Command}
use Rattle.histories.specs.Words.{command_of, Does, forms, OperationsDoAsTold, Outcome, Wrapped, counted, finish}
use Rattle.histories.specs.Words.{needed, permission_denied, response_to, serve, unwrapped, wrap, wrapped, permits}
use Rattle.histories.specs.Words.{Request, no_content, is_open, request_of, step, traits, Reason, Status, Asking}
use Rattle.histories.specs.Words.{clocked, spent_by, DiffersInWaiting, IsClient, has_no_use, left_by_caller}
use Rattle.histories.proofs.InOrder.{in_order}
use Rattle.histories.proofs.Lasting.{waited_before}
use Rattle.histories.proofs.Routes.{changes_no_token}
use Rattle.histories.proofs.Order.{IsCaller, spent, end_spent_same, wrapped_cases, nothing_is_no_reply}
use Rattle.histories.proofs.Revoking.{end_spent_leaves}

-- ---- the end of a client token that has spent its last use

chosen : {X : Type 0} (v : Bool) (o : Option X) (y : X) → (if v then None else o) ≡ Some y → (v ≡ false) × (o ≡ Some y)
chosen true o y e = absurd (none-some _ e)
chosen false o y e = (refl, e)

-- a token that is left by it was there
pub left_is : (ts : Tokens) (c q : Text) (y : Token) → left_by_caller ts c q ≡ Some y → get ts q ≡ Some y
left_is ts c q y e = (chosen (has_no_use ts c && is_under ts q c) (get ts q) y e).1

pub end_is : (b : Broker) (who : Option Text) (q : Text) (y : Token) → get (end_spent b who).tokens q ≡ Some y
    → get b.tokens q ≡ Some y
end_is b None q y e = e
end_is b (Some c) q y e = left_is b.tokens c q y (sym (end_spent_leaves b c q) ∙ e)

-- and the client token has a use left, if it is
pub left_unspent : (ts : Tokens) (c : Text) (y : Token) → left_by_caller ts c c ≡ Some y → y.uses_left ≢ Some 0
left_unspent ts c y e zero =
    let k = chosen (has_no_use ts c && is_under ts c c) (get ts c) y e in
    let spent : has_no_use ts c ≡ true =
    ap (λ (o : Option Token). option_map_or is_spent o false) k.1
    ∙ ap (λ (o : Option ℕ). option_map_or (λ n. n == 0) o false) zero in
    false≢true (sym k.0 ∙ ap (λ v. v && is_under ts c c) spent ∙ under_self ts c (λ none. none-some _ (sym none ∙ k.1)))

-- ---- the use that a client token spends

module _ (a : Asking) where
  -- what the token q of the clock became by the use that a client token spends
  pub record FromClock (q : Text) (x : Token) : Type 0 where
    pub earlier : Token
    pub there : get (clocked a).tokens q ≡ Some earlier
    pub rest : x ≡ record earlier { uses_left = x.uses_left }
    pub other_uses : (IsClient a q → ⊥) → x.uses_left ≡ earlier.uses_left
    pub uses : IsClient a q → x.uses_left ≡ option_map (λ n. n - 1) earlier.uses_left

  -- of another
  pub from_itself : (q : Text) (x : Token) → get (clocked a).tokens q ≡ Some x → (IsClient a q → ⊥) → FromClock q x
  from_itself q x e apart =
      record { earlier = x; there = e; rest = refl; other_uses = λ _. refl; uses = λ client. absurd (apart client) }

  pub from_clock : (c : Text) → IsClient a c → (q : Text) (x : Token) → get (spent_by a c).tokens q ≡ Some x
      → FromClock q x
  from_clock c client q x e =
      let v = valued_is (λ u (z : Token). if same u c then one_less z else z) (clocked a).tokens q x e in
      elim (same q c) as (λ s. same q c ≡ s → x ≡ (if s then one_less v.0 else v.0) → FromClock q x) [
        | true ↦ λ at is. record {
          earlier = v.0;
          there = v.1;
          rest = subst (λ (z : Token). z ≡ record v.0 { uses_left = z.uses_left }) (sym is) refl;
          other_uses = λ other. absurd (other (subst (IsClient a) (sym (same_true q c at)) client));
          uses = λ _. ap (λ (z : Token). z.uses_left) is;
        }
        | false ↦ λ apart is. subst (FromClock q) (sym is) (from_itself q v.0 v.1
            (λ it. false≢true (sym apart ∙ ap (same q) (same_Some _ _ (sym client.token ∙ it.token)) ∙ same_self q)))
      ] refl v.2

  -- ---- ways that a request can go

  -- the tokens are those of the clock, and none of them is the client token
  pub record LeavesTokens : Type 0 where
    pub tokens : a.outcome.next.tokens ≡ (clocked a).tokens
    pub no_client : (q : Text) (x : Token) → get (clocked a).tokens q ≡ Some x → IsClient a q → ⊥

  -- the client token c spent a use, and nothing else became of tokens
  pub record TurnsDown (c : Text) : Type 0 where
    pub client : IsClient a c
    pub left : (q : Text) → get a.outcome.next.tokens q ≡ left_by_caller (spent_by a c).tokens c q

  -- the client token c spent a use, and the command was carried out for it
  pub record CarriesOut (c : Text) (command : Command) (d : Done) : Type 0 where
    pub client : IsClient a c
    pub means : command_of (clocked a).mounts a.ask ≡ Ok command
    pub acted : act (spent_by a c) (Some c) (names_of a.words) command ≡ Ok d
    pub does : Does (spent_by a c) (Some c) (names_of a.words) command d
    pub is_200 : (r : Reply) (made : Option Text) → d.answered ≡ reply r made
        → a.outcome.response.status ≡ Status.Success
    pub is_204 : d.answered ≡ nothing → a.outcome.response ≡ no_content
    pub left : (q : Text) → get a.outcome.next.tokens q ≡ left_by_caller d.next.tokens c q

  -- the request goes in one of these ways, and leaves the clock
  pub record Course : Type 0 where
    pub clock : a.outcome.next.clock ≡ (clocked a).clock
    pub way : LeavesTokens
        ⊎ (((c : Text) × TurnsDown c) ⊎ ((c : Text) × (command : Command) × (d : Done) × CarriesOut c command d))

  -- the caller is the client token
  pub is_client : (c : Text) → IsCaller (clocked a) (request_of a.ask) (Some c) → IsClient a c
  is_client c (inl (open_, none)) = absurd (none-some _ (sym none))
  is_client c (inr (u, closed, is_token, caller, no_wait, there)) =
      record { closed = closed; token = is_token ∙ sym caller }

end_clock : (b : Broker) (who : Option Text) → (end_spent b who).clock ≡ b.clock
end_clock b who = end_spent_same (λ (c : Broker). c.clock) (λ _ _. refl) b who

module _ (told : OperationsDoAsTold) (a : Asking) (sound : Sound forms None a.broker)
    (is : a.outcome ≡ step a.broker a.moment a.words a.ask) where
  -- no token is a wrapping token
  not_both : (t : Text) (y : Token) → get (clocked a).tokens t ≡ Some y → is_some (get (clocked a).waiting t) ≡ true → ⊥
  not_both t y there waits = elim (found_or_not (get (clocked a).waiting t)) [
    | inl none ↦ false≢true (sym (ap (λ (o : Option Waiting). is_some o) none) ∙ waits)
    | inr w ↦
        let x = alive_is (max a.broker.clock a.moment) a.broker.tokens t y there in
        let v = waited_before a t w.0 w.1 in
        let here : identifier_at a.broker (place.token t) ≡ Some (token_identifier t) =
        ap (option_map (λ (z : Token). token_identifier t)) x.1 in
        let waiting : identifier_at a.broker (place.wrapping_token t) ≡ Some (token_identifier t) =
        ap (option_map (λ (z : Waiting). token_identifier t)) v.0 in
        apart (sound.identifiers.one_place (place.token t) (place.wrapping_token t) (token_identifier t) here waiting)
  ]
    where
      apart : {t u : Text} → place.token t ≡ place.wrapping_token u → ⊥
      apart e = cc

  -- an open request
  goes_openly : is_open a.ask ≡ true → Course a
  goes_openly open_ =
      let kept = subst (λ (o : Outcome). DiffersInWaiting (clocked a) o.next) (sym is)
      (changes_no_token told a.broker a.moment a.words a.ask open_) in
      record {
        clock = kept.clock;
        way = inl (record {
          tokens = kept.tokens;
          no_client = λ q x there client. false≢true
              (sym client.closed ∙ open_);
        });
      }

  module _ (c : Text) (client : IsClient a c) where
    abbrev start : Broker
    start = spent_by a c

    abbrev q_ : Request Command
    q_ = request_of a.ask

    -- what was carried out
    module _ (v : Wrapped) (command : Command) (d : Done) (means : q_.command start ≡ Ok command)
        (acted : act start (Some c) (names_of a.words) command ≡ Ok d)
        (is_wrapped : wrapped permits traits act start q_ (names_of a.words) command d ≡ v)
        (outcome : a.outcome ≡ finish start (Some c) (Ok v)) where
      -- wrapping leaves all but what waits, and a reply is a 200, wrapped or not
      went : (w : Wrapped) → v ≡ w → w.done.next.tokens ≡ d.next.tokens → w.done.next.clock ≡ d.next.clock
          → ((r : Reply) (made : Option Text) → d.answered ≡ reply r made
          → (response_to w.done.answered).status ≡ Status.Success)
          → (d.answered ≡ nothing → response_to w.done.answered ≡ no_content) → Course a
      went w is_w tokens clock is_200 is_204 =
          let ended : a.outcome ≡ finish start (Some c) (Ok w) = outcome
          ∙ ap (λ (z : Wrapped). finish start (Some c) (Ok z)) is_w in
          let does = told start (Some c) a.words command d acted in
          record {
            clock = ap (λ (z : Outcome). z.next.clock) ended ∙ end_clock (counted w.done) (Some c) ∙ clock
                ∙ does.keeps.clock;
            way = inr (inr (
              c,
              command,
              d,
              record {
                client = client;
                means = means;
                acted = acted;
                does = does;
                is_200 = λ r made answered. ap (λ (z : Outcome). z.response.status) ended ∙ is_200 r made answered;
                is_204 = λ answered. ap (λ (z : Outcome). z.response) ended ∙ is_204 answered;
                left = λ q. ap (λ (z : Outcome). get z.next.tokens q) ended ∙ end_spent_leaves (counted w.done) c q
                    ∙ ap (λ ts. left_by_caller ts c q) tokens;
              },
            ));
          }

      carried_out : Course a
      carried_out = elim (wrapped_cases permits traits act start q_ (names_of a.words) command d) [
        | inl plain ↦ went (unwrapped d) (sym is_wrapped ∙ plain) refl refl
            (λ r made answered. ap (λ z. (response_to z).status) answered) (λ answered. ap response_to answered)
        | inr kept ↦ went (wrap start q_.path q_.wrap_ttl (names_of a.words) d kept.0 kept.1)
            (sym is_wrapped ∙ kept.4) refl refl
            (λ r made answered. refl) (λ answered. absurd (nothing_is_no_reply answered kept.3))
      ]

    by_result : (r : Result Wrapped Refusal) → serve permits traits act start (Some c) q_ (names_of a.words) ≡ r
        → a.outcome ≡ finish start (Some c) r → Course a
    by_result (Err why) e outcome = record {
      clock = ap (λ (z : Outcome). z.next.clock) outcome ∙ end_clock start (Some c);
      way = inr (inl (
        c,
        record {
          client = client;
          left = λ q. ap (λ (z : Outcome). get z.next.tokens q) outcome ∙ end_spent_leaves start c q;
        },
      ));
    }
    by_result (Ok v) e outcome =
        let p = ok_step (unless (q_.is_open || permits start (Some c) q_.verb q_.path) permission_denied) _ v e in
        let r = ok_step (q_.command start) _ v p.2 in
        let n = ok_step (unless (are_new start.used (needed permits traits act q_
        (names_of a.words) r.0)) Refusal.IdentifierUsed) _ v r.2 in
        let m = ok_step (unless (not (traits r.0).must_wrap || nat_lt 0 q_.wrap_ttl)
        (Refusal.BadRequest Reason.WrappingRequired)) _ v n.2 in
        let f = ok_step (act start (Some c) (names_of a.words) r.0) _ v m.2 in
        carried_out v r.0 f.0 r.1 f.1 (ok_inj f.2) outcome

  by_caller : (caller : Option Text) → IsCaller (clocked a) (request_of a.ask) caller
      → a.outcome ≡ finish (spent (clocked a) caller) caller
      (serve permits traits act (spent (clocked a) caller) caller (request_of a.ask) (names_of a.words)) → Course a
  by_caller None (inl (open_, none)) outcome = goes_openly open_
  by_caller None (inr (t, closed, is_token, caller, no_wait, there)) outcome = absurd (none-some _ caller)
  by_caller (Some c) asked outcome =
      by_result c (is_client a c asked)
      (serve permits traits act (spent_by a c) (Some c) (request_of a.ask) (names_of a.words)) refl outcome

  pub course : Course a
  unfolding step
  course =
      in_order permits traits act a.broker a.moment (request_of a.ask) (names_of a.words)
      (λ o. a.outcome ≡ o → Course a)
      (λ closed no_caller outcome. record {
        clock = ap (λ (o : Outcome). o.next.clock) outcome;
        way = inl (record {
          tokens = ap (λ (o : Outcome). o.next.tokens) outcome;
          no_client = λ q x there client. none-some _ (sym (no_caller q client.token) ∙ there);
        });
      })
      (λ t closed is_token waits outcome. record {
        clock = ap (λ (o : Outcome). o.next.clock) outcome;
        way = inl (record {
          tokens = ap (λ (o : Outcome). o.next.tokens) outcome;
          no_client = λ q x there client.
              let at : q ≡ t = same_Some _ _ (sym client.token ∙ is_token) in
              not_both t x (subst (λ u. get (clocked a).tokens u ≡ Some x) at there) waits;
        });
      })
      by_caller is

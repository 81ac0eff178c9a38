-- What commands on responses that wait leave.
use Rattle.std.proofs.Common.{◌≡◌, ◌⊎◌, ◌∷◌, [], Option, Some, None, Ok, option_map, refl, sym, ap, subst, inl, inr}
use Rattle.broker_model.specs.Words.{option_map_or, ◌∙◌, none-some, same_Some, list_any, Text, same, get, without_is}
use Rattle.broker_model.specs.Words.{put_is, Broker, Waiting, WaitedBefore, Names, Done, token_identifier, some_or}
use Rattle.broker_model.specs.Words.{ok_step, drop_waiting, token_text, ok_inj, with_waiting, moved, on_wrapping}
use Rattle.broker_model.specs.Words.{secrets_same, Does, IsGiven, KeepsMaps, Stay, first_in, later_in, wrapping_names}
use Rattle.broker_model.specs.Words.{WrappingCommand, of_moved, FoundResponse, found_under, found, rewrapped}
use Rattle.broker_model.specs.Words.{handed_out, act_on_wrappings}
use Rattle.broker_types.specs.declared.refusal.Refusal.TheVariants as refusal
use Rattle.broker_types.specs.declared.refusal.Reason.TheVariants as reason
use Rattle.broker_model.specs.declared.commands.WrappingCommand.TheVariants as command
use Rattle.broker_model.proofs.Operations.{shown_does}
use Rattle.broker_model.proofs.Staying.{stay_same}

-- what is found waits
pub found_is : (b : Broker) (meant : Option Text) (f : FoundResponse) → found b meant ≡ Ok f
    → get b.waiting f.token ≡ Some f.response
found_is b None f e = absurd (cc)
found_is b (Some t) f e = by (get b.waiting t) refl e
  where
    by : (o : Option Waiting) → get b.waiting t ≡ o
        → some_or (refusal.BadRequest reason.InvalidWrappingToken) (option_map (found_under t) o) ≡ Ok f
        → get b.waiting f.token ≡ Some f.response
    by None none h = absurd (cc)
    by (Some w) is h =
        let one : found_under t w ≡ f = ok_inj h in
        subst (λ (x : FoundResponse). get b.waiting x.token ≡ Some x.response) one is

module _ (b : Broker) (who : Option Text) (names : Names) where
  abbrev DoesIt : WrappingCommand → Done → Type 0
  DoesIt command = Does b who names (on_wrapping command)

  -- what waits after a response has moved
  abbrev Waited : Text → Waiting → Type 0
  Waited q v =
      (get b.waiting q ≡ Some v)
      ⊎ (IsGiven (wrapping_names names) (token_identifier q) × IsGiven (wrapping_names names) v.accessor
      × WaitedBefore b v)

  module _ (f : FoundResponse) (is : get b.waiting f.token ≡ Some f.response) where
    abbrev u : Text
    u = token_text names.wrapping_token

    abbrev entry : Waiting
    entry = moved names.wrapping_accessor b.clock f.response

    -- the broker in which it has
    abbrev after : Broker
    after = with_waiting (drop_waiting b f.token) u entry

    waited : (q : Text) (v : Waiting) → get after.waiting q ≡ Some v → Waited q v
    waited q v e =
        put_is (drop_waiting b f.token).waiting u entry q v (Waited q v) e
        (λ at here. inr (
          ap (λ t. list_any (same (token_identifier t)) (wrapping_names names)) at
              ∙ first_in names.wrapping_token (names.wrapping_accessor ∷ []),
          ap (λ (z : Waiting). list_any (same z.accessor) (wrapping_names names)) here
              ∙ later_in names.wrapping_accessor names.wrapping_token (names.wrapping_accessor ∷ [])
              (first_in names.wrapping_accessor []),
          (f.token, f.response, is, ap (λ (z : Waiting). z.origin) here, ap (λ (z : Waiting). z.reply) here),
        ))
        (λ there. inl (without_is b.waiting f.token q v there).1)

    rewrap_is : (rewrapped b names f).next ≡ after
    rewrap_is = ap (λ (o : Option Waiting). option_map_or
        (λ w. with_waiting (drop_waiting b f.token) u (moved names.wrapping_accessor b.clock w)) o b) is

    rewrapped_does : (meant : Option Text) → DoesIt (command.Rewrap meant) (rewrapped b names f)
    rewrapped_does meant =
        let d = rewrapped b names f in
        record {
          gives_own = inr refl;
          none_at_204 = λ e. absurd (cc);
          none_at_404 = λ r e. absurd (cc);
          hands_out = λ o e. absurd (cc);
          keeps_text = λ t e. absurd (cc);
          not_kept = λ wraps. refl;
          made = λ r made e. inl (cc);
          waiting = λ q v e. waited q v (subst (λ (z : Broker). get z.waiting q ≡ Some v) rewrap_is e);
          fated = subst (Stay (Some of_moved) who (wrapping_names names) b) (sym rewrap_is)
              (stay_same (Some of_moved) who (wrapping_names names) b after refl);
          versions = λ given. secrets_same b.secrets d.next.secrets (ap (λ (z : Broker). z.secrets) rewrap_is);
          keeps = subst (KeepsMaps (Some of_moved) b) (sym rewrap_is)
              (record {
                clock = refl;
                used = refl;
                tokens = refl;
                secrets = refl;
                waiting = tt;
                mounts = refl;
                roles = refl;
                policies = refl;
              });
        }

    handed_out_does : (meant : Option Text) → DoesIt (command.Unwrap meant) (handed_out b f)
    handed_out_does meant = record {
      gives_own = inl refl;
      none_at_204 = λ _. refl;
      none_at_404 = λ r e. absurd (cc);
      hands_out = λ o e. record {
        token = f.token;
        entry = f.response;
        waited = is;
        origin = same_Some _ _ e;
        text = refl;
        waits = refl;
      };
      keeps_text = λ t e none. none-some _ (sym none);
      not_kept = λ wraps. absurd (cc);
      made = λ r made e. absurd (cc);
      waiting = λ q w e. inl (without_is b.waiting f.token q w e).1;
      fated = stay_same _ who [] b (drop_waiting b f.token) refl;
      versions = λ given. secrets_same b.secrets b.secrets refl;
      keeps = record {
        clock = refl;
        used = refl;
        tokens = refl;
        secrets = refl;
        waiting = tt;
        mounts = refl;
        roles = refl;
        policies = refl;
      };
    }

  pub acts : (command : WrappingCommand) (d : Done) → act_on_wrappings b names command ≡ Ok d → DoesIt command d
  acts (command.Wrap text) d e = subst (DoesIt (command.Wrap text)) (ok_inj e) (shown_does b who names _ refl _)
  acts (command.LookUp meant) d e =
      let f = ok_step (found b meant) _ d e in
      subst (DoesIt (command.LookUp meant)) (ok_inj f.2) (shown_does b who names _ refl _)
  acts (command.Rewrap meant) d e =
      let f = ok_step (found b meant) _ d e in
      subst (DoesIt (command.Rewrap meant)) (ok_inj f.2) (rewrapped_does f.0 (found_is b meant f.0 f.1) meant)
  acts (command.Unwrap meant) d e =
      let f = ok_step (found b meant) _ d e in
      subst (DoesIt (command.Unwrap meant)) (ok_inj f.2) (handed_out_does f.0 (found_is b meant f.0 f.1) meant)

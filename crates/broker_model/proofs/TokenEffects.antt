-- What commands on tokens leave.
use Rattle.std.proofs.Common.{◌≡◌, ℕ, [], is_some, Option, Some, None, Ok, refl, sym, ap, subst, inl, inr}
use Rattle.broker_model.specs.Words.{Text, Map, get, without_is, Broker, Waiting, Names, Done, nothing, plainly}
use Rattle.broker_model.specs.Words.{some_or, unless, ok_step, drop_waiting, TokenCreation, Part, of_tokens}
use Rattle.broker_model.specs.Words.{token_entry, ok_inj, on_token, secrets_same, Does, IsFated, KeepsMaps, by_accessor}
use Rattle.broker_model.specs.Words.{stay, text_named, Making, of_ended, token_changes, token_fate, is_privileged}
use Rattle.broker_model.specs.Words.{making_path, may_make, new_policies, act_on_tokens, create, holder, known, look_up}
use Rattle.broker_model.specs.Words.{named, new_end, renew_token, revoke_token, revoke_alone}
use Rattle.broker_types.specs.Broker as broker
use Rattle.broker_types.specs.declared.refusal.Refusal.TheVariants as refusal
use Rattle.broker_types.specs.declared.refusal.Reason.TheVariants as reason
use Rattle.token_tree.specs.Tokens as tree
use Rattle.broker_model.specs.declared.commands.TokenCommand.{TokenCommand}
use Rattle.broker_model.specs.declared.commands.TokenCommand.TheVariants as command
use Rattle.broker_model.proofs.Operations.{shown_does}

-- the text that an accessor names, if it names one
named_is : (b : Broker) (c accessor t : Text) → holder b accessor ≡ Ok t
    → text_named b c (by_accessor accessor) ≡ Some t
named_is b c accessor t e = by (text_named b c (by_accessor accessor)) e
  where
    by : (o : Option Text) → some_or (refusal.BadRequest reason.InvalidAccessor) o ≡ Ok t → o ≡ Some t
    by None e = absurd (cc)
    by (Some u) e = ap Some (ok_inj e)

module _ (b : Broker) (c : Text) (names : Names) where
  abbrev DoesIt : TokenCommand → Done → Type 0
  DoesIt command = Does b (Some c) names (on_token command)

  create_does : (making : Making) (asked : TokenCreation) (d : Done) → create b c names making asked ≡ Ok d
      → DoesIt (command.Create making asked) d
  create_does making asked d e =
      let x = ok_step (known b c) _ d e in
      let privileged = is_privileged b (making_path making) x.0 in
      let may = ok_step (may_make privileged making x.0 (new_policies privileged x.0 asked) asked) _ d x.2 in
      subst (λ (z : Done). create b c names making asked ≡ Ok z → DoesIt (command.Create making asked) z) (ok_inj may.2)
      (λ is. record {
        gives_own = inr refl;
        none_at_204 = λ e. absurd (cc);
        none_at_404 = λ r e. absurd (cc);
        hands_out = λ o e. absurd (cc);
        keeps_text = λ t e. absurd (cc);
        not_kept = λ _. refl;
        made = λ r made e. inr (cc);
        waiting = λ t w e. inl e;
        fated = (c, refl, is);
        versions = λ given. secrets_same b.secrets b.secrets refl;
        keeps = record {
          clock = refl;
          used = refl;
          tokens = tt;
          secrets = refl;
          waiting = refl;
          mounts = refl;
          roles = refl;
          policies = refl;
        };
      }) e

  look_up_does : (command : TokenCommand) (t id : Text) (d : Done) → token_fate command ≡ stay
      → look_up b names t id ≡ Ok d
      → DoesIt command d
  look_up_does command t id d fate e =
      let x = ok_step (known b t) _ d e in
      subst (DoesIt command) (ok_inj x.2) (shown_does b (Some c) names _ fate _)

  module _ (command : TokenCommand) (t : Text) where
    renew_does : (increment : ℕ) (d : Done) → token_changes command ≡ Some of_tokens
        → IsFated (token_fate command) (token_changes command) b (Some c) names d
        → renew_token b names t increment ≡ Ok d
        → DoesIt command d
    renew_does increment d changes fated e =
        let x = ok_step (known b t) _ d e in
        let ending = ok_step (unless (is_some x.0.ends) (refusal.BadRequest reason.TokenNotRenewable)) _ d x.2 in
        subst (λ (z : Done). IsFated (token_fate command) (token_changes command) b (Some c) names z → DoesIt command z)
        (ok_inj ending.2)
        (λ is. record {
          gives_own = inl refl;
          none_at_204 = λ e. absurd (cc);
          none_at_404 = λ r e. absurd (cc);
          hands_out = λ o e. absurd (cc);
          keeps_text = λ t e. absurd (cc);
          not_kept = λ _. refl;
          made = λ r made e. inl (cc);
          waiting = λ t w e. inl e;
          fated = is;
          versions = λ given. secrets_same b.secrets b.secrets refl;
          keeps = subst (λ (o : Option Part). KeepsMaps o b
              (tree.renew b t (new_end b.clock (token_entry x.0) increment))) (sym changes)
              (record {
                clock = refl;
                used = refl;
                tokens = tt;
                secrets = refl;
                waiting = refl;
                mounts = refl;
                roles = refl;
                policies = refl;
              });
        }) fated

    -- tokens end, and the response of t is dropped
    ends_does : (next : Broker) → next.waiting ≡ b.waiting → next.secrets ≡ b.secrets
        → KeepsMaps (token_changes command) b (drop_waiting next t)
        → IsFated (token_fate command) (token_changes command) b (Some c) names (plainly nothing (drop_waiting next t))
        → DoesIt command (plainly nothing (drop_waiting next t))
    ends_does next waits same keeps fated = record {
      gives_own = inl refl;
      none_at_204 = λ _. refl;
      none_at_404 = λ r e. absurd (cc);
      hands_out = λ o e. absurd (cc);
      keeps_text = λ t e. absurd (cc);
      not_kept = λ _. refl;
      made = λ r made e. absurd (cc);
      waiting = λ q w e. inl (subst (λ (m : Map Waiting). get m q ≡ Some w) waits (without_is next.waiting t q w e).1);
      fated = fated;
      versions = λ given. secrets_same b.secrets next.secrets same;
      keeps = keeps;
    }

    revoke_does : token_changes command ≡ Some of_ended
        → IsFated (token_fate command) (token_changes command) b (Some c) names (revoke_token b t)
        → DoesIt command (revoke_token b t)
    revoke_does changes fated = ends_does (broker.revoke b t) refl refl
        (subst (λ (o : Option Part). KeepsMaps o b (drop_waiting (broker.revoke b t) t)) (sym changes)
        (record {
          clock = refl;
          used = refl;
          tokens = tt;
          secrets = refl;
          waiting = tt;
          mounts = refl;
          roles = refl;
          policies = refl;
        }))
        fated

  orphan_does : (t : Text) → DoesIt (command.RevokeOrphan t) (revoke_alone b t)
  orphan_does t = ends_does (command.RevokeOrphan t) t (broker.revoke_orphan b t) refl refl
      (record {
        clock = refl;
        used = refl;
        tokens = tt;
        secrets = refl;
        waiting = tt;
        mounts = refl;
        roles = refl;
        policies = refl;
      })
      (c, refl, refl)

  pub acts : (command : TokenCommand) (d : Done) → act_on_tokens b c names command ≡ Ok d → DoesIt command d
  acts (command.Create making asked) d e = create_does making asked d e
  acts (command.LookUp t) d e = look_up_does (command.LookUp t) t t d refl e
  acts (command.LookUpAccessor accessor) d e =
      let t = ok_step (named b accessor) _ d e in
      look_up_does (command.LookUpAccessor accessor) t.0 [] d refl t.2
  acts command.LookUpSelf d e = look_up_does command.LookUpSelf c c d refl e
  acts (command.Renew asked) d e =
      renew_does (command.Renew asked) asked.token asked.increment d refl (c, asked.token, refl, refl, e) e
  acts (command.RenewSelf increment) d e = renew_does (command.RenewSelf increment) c increment d refl
      (c, c, refl, refl, e) e
  acts (command.Revoke t) d e =
      subst (DoesIt (command.Revoke t)) (ok_inj e) (revoke_does (command.Revoke t) t refl (c, t, refl, refl, refl))
  acts (command.RevokeOrphan t) d e = subst (DoesIt (command.RevokeOrphan t)) (ok_inj e) (orphan_does t)
  acts (command.RevokeAccessor accessor) d e =
      let t = ok_step (holder b accessor) _ d e in
      subst (DoesIt (command.RevokeAccessor accessor)) (ok_inj t.2)
      (revoke_does (command.RevokeAccessor accessor) t.0 refl (c, t.0, refl, named_is b c accessor t.0 t.1, refl))
  acts command.RevokeSelf d e =
      subst (DoesIt command.RevokeSelf) (ok_inj e) (revoke_does command.RevokeSelf c refl (c, c, refl, refl, refl))
  acts command.ListAccessors d e = subst (DoesIt command.ListAccessors) (ok_inj e)
      (shown_does b (Some c) names _ refl _)

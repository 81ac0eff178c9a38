-- How a request is answered that is not refused, command by command.
use Rattle.std.proofs.Common.{◌≡◌, ◌⊎◌, if◌then◌else◌}
use Rattle.broker_model.specs.Words.{act_on_policies, act_on_cubbyhole, named}
use Rattle.cubbyhole.specs.Cubbyhole as cubbyholes
use Rattle.leases.specs.Leases as leases
use Rattle.leases.specs.Roles as roles
use Rattle.kv2.specs.Secrets as secrets
use Rattle.policies.specs.Policies as policies
use Rattle.histories.specs.Words.{disabled, enabled, ℕ, Bool, true, false, not, is_some, Option, Some, None, Result}
use Rattle.histories.specs.Words.{Ok, codes, refl, sym, ◌∙◌, ap, subst, inl, inr, false≢true, Text, same, IsRefused}
use Rattle.histories.specs.Words.{Broker, Names, names_of, kept_text, missing, nothing, reply, Answered, Done, some_or}
use Rattle.histories.specs.Words.{unless, no_ok, ok_step, Refusal, Reply, ok_inj, Found, act, Command, command_of}
use Rattle.histories.specs.Words.{on_cubbyhole, on_issued, on_lease, on_mount, on_policy, on_secret, on_token}
use Rattle.histories.specs.Words.{on_wrapping, Outcome, Wrapped, response_to, permits, no_content, request_of, step}
use Rattle.histories.specs.Words.{traits, act_on_issued, act_on_leases, are_none, act_on_mounts, Place, object_left}
use Rattle.histories.specs.Words.{version_reply, act_on_secrets, is_privileged, making_path, may_make, new_policies}
use Rattle.histories.specs.Words.{act_on_tokens, holder, known, revoke_token, act_on_wrappings, found, Reason, Status}
use Rattle.histories.specs.Words.{CubbyholeCommand, IssuedCommand, LeaseCommand, MountCommand, PolicyCommand}
use Rattle.histories.specs.Words.{SecretCommand, TokenCommand, WrappingCommand, Asking, clocked, AllStatusesFollow}
use Rattle.histories.specs.Words.{IsNeverDone, ReadsEnded, cubbyhole_is_silent, is_silent, issued_is_silent}
use Rattle.histories.specs.Words.{lease_is_silent, mount_is_silent, policy_is_silent, secret_is_silent}
use Rattle.histories.specs.Words.{token_is_silent}
use Rattle.histories.proofs.EventSecrets.{is_200}
use Rattle.histories.proofs.Order.{spent, wrapped_cases, asked_at, means_at_clock, Served, nothing_is_no_reply}
use Rattle.histories.proofs.Order.{refused_or_served}
use Rattle.histories.proofs.ReadsEnded.{shows_ended}

-- ---- what tells nothing

abbrev Silent : Done → Type 0
Silent d = d.answered ≡ nothing

-- an operation that was carried out
so : (x d : Done) → ◌≡◌ {A = Result Done Refusal} (Ok x) (Ok d) → x.answered ≡ nothing → Silent d
so x d e answered = ap (λ (z : Done). z.answered) (sym (ok_inj e)) ∙ answered

module _ (b : Broker) (c : Text) (names : Names) (d : Done) where
  cubbyhole_silent : (path : Text) (k : CubbyholeCommand) → cubbyhole_is_silent k ≡ true
      → act_on_cubbyhole b c names path k ≡ Ok d → Silent d
  cubbyhole_silent path (CubbyholeCommand.Write full) is e =
      so _ d (ok_step (some_or (Refusal.BadRequest Reason.MissingData) full) _ d e).2 refl
  cubbyhole_silent path CubbyholeCommand.Delete is e = so _ d e refl
  cubbyhole_silent path _ is e = absurd (false≢true is)

  token_silent : (k : TokenCommand) → token_is_silent k ≡ true → act_on_tokens b c names k ≡ Ok d → Silent d
  token_silent (TokenCommand.Revoke t) is e = so _ d e refl
  token_silent (TokenCommand.RevokeOrphan t) is e = so _ d e refl
  token_silent (TokenCommand.RevokeAccessor accessor) is e =
      so _ d (ok_step (holder b accessor) (λ u. Ok (revoke_token b u)) d e).2 refl
  token_silent TokenCommand.RevokeSelf is e = so _ d e refl
  token_silent _ is e = absurd (false≢true is)

  secret_silent : (p : Place) (k : SecretCommand) → secret_is_silent k ≡ true → act_on_secrets b names p k ≡ Ok d
      → Silent d
  secret_silent p (SecretCommand.SetSettings asked) is e = so _ d e refl
  secret_silent p SecretCommand.DeleteCurrent is e = so _ d e refl
  secret_silent p (SecretCommand.Delete ns) is e = so _ d e refl
  secret_silent p (SecretCommand.Undelete ns) is e = so _ d e refl
  secret_silent p (SecretCommand.Destroy ns) is e = so _ d e refl
  secret_silent p (SecretCommand.SetMetadata asked) is e = so _ d e refl
  secret_silent p SecretCommand.Remove is e = so _ d e refl
  secret_silent p _ is e = absurd (false≢true is)

  policy_silent : (name : Text) (k : PolicyCommand) → policy_is_silent k ≡ true
      → act_on_policies b names name k ≡ Ok d → Silent d
  policy_silent name (PolicyCommand.Set text) is e = so _ d (ok_step (policies.set b.policies name text) _ d e).2 refl
  policy_silent name PolicyCommand.Remove is e = so _ d (ok_step (policies.deleted b.policies name) _ d e).2 refl
  policy_silent name _ is e = absurd (false≢true is)

  mount_silent : (name : Text) (k : MountCommand) → mount_is_silent k ≡ true → act_on_mounts b names name k ≡ Ok d
      → Silent d
  mount_silent name (MountCommand.Enable asked) is e =
      so _ d (ok_step (enabled b.mounts name asked.type_name asked.version) _ d e).2 refl
  mount_silent name MountCommand.Disable is e = so _ d (ok_step (disabled b.mounts name) _ d e).2 refl
  mount_silent name _ is e = absurd (false≢true is)

  lease_silent : (prefix : Text) (k : LeaseCommand) → lease_is_silent k ≡ true
      → act_on_leases b names prefix k ≡ Ok d → Silent d
  lease_silent prefix (LeaseCommand.Revoke id) is e = so _ d e refl
  lease_silent prefix LeaseCommand.RevokeUnder is e = so _ d e refl
  lease_silent prefix _ is e = absurd (false≢true is)

  issued_silent : (p : Place) (k : IssuedCommand) → issued_is_silent k ≡ true → act_on_issued b c names p k ≡ Ok d
      → Silent d
  issued_silent p (IssuedCommand.SetRole asked) is e =
      so _ d (ok_step (roles.set_role b p.mount p.path (record { ttl = asked.ttl; max_ttl = asked.max_ttl })) _ d e).2
      refl
  issued_silent p IssuedCommand.RemoveRole is e = so _ d e refl
  issued_silent p _ is e = absurd (false≢true is)

  silent_for : (k : Command) → is_silent k ≡ true → act b (Some c) names k ≡ Ok d → Silent d
  silent_for (on_cubbyhole path k) is e = cubbyhole_silent path k is e
  silent_for (on_token k) is e = token_silent k is e
  silent_for (on_secret p k) is e = secret_silent p k is e
  silent_for (on_policy name k) is e = policy_silent name k is e
  silent_for (on_mount name k) is e = mount_silent name k is e
  silent_for (on_lease prefix k) is e = lease_silent prefix k is e
  silent_for (on_issued p k) is e = issued_silent p k is e
  silent_for (on_wrapping k) is e = absurd (false≢true is)

-- without a caller nothing of this is done
silent_openly : (b : Broker) (names : Names) (d : Done) (k : Command) → is_silent k ≡ true
    → act b None names k ≡ Ok d → Silent d
silent_openly b names d (on_wrapping k) is e = absurd (false≢true is)
silent_openly b names d _ is e = no_ok e

silent_by : (b : Broker) (caller : Option Text) (names : Names) (d : Done) (k : Command) → is_silent k ≡ true
    → act b caller names k ≡ Ok d → Silent d
silent_by b None names d k is e = silent_openly b names d k is e
silent_by b (Some c) names d k is e = silent_for b c names d k is e

-- ---- what is never done

module _ (b : Broker) (names : Names) (d : Done) where
  never_set : (text : Text) → act_on_policies b names (codes "root") (PolicyCommand.Set text) ≡ Ok d → ⊥
  unfolding same
  never_set text e = no_ok e

  never_removed : (name : Text) → (name ≡ codes "root") ⊎ (name ≡ codes "default")
      → act_on_policies b names name PolicyCommand.Remove ≡ Ok d → ⊥
  unfolding same
  never_removed name (inl is) e =
      no_ok (subst (λ n. act_on_policies b names n PolicyCommand.Remove ≡ Ok d) is e)
  never_removed name (inr is) e =
      no_ok (subst (λ n. act_on_policies b names n PolicyCommand.Remove ≡ Ok d) is e)

  never_disabled : (name : Text) → (name ≡ codes "sys") ⊎ ((name ≡ codes "auth") ⊎ (name ≡ codes "cubbyhole"))
      → act_on_mounts b names name MountCommand.Disable ≡ Ok d → ⊥
  unfolding same
  never_disabled name (inl is) e =
      no_ok (subst (λ n. act_on_mounts b names n MountCommand.Disable ≡ Ok d) is e)
  never_disabled name (inr (inl is)) e =
      no_ok (subst (λ n. act_on_mounts b names n MountCommand.Disable ≡ Ok d) is e)
  never_disabled name (inr (inr is)) e =
      no_ok (subst (λ n. act_on_mounts b names n MountCommand.Disable ≡ Ok d) is e)

  never_for : (c : Text) (k : Command) → IsNeverDone k → act b (Some c) names k ≡ Ok d → ⊥
  never_for c (on_cubbyhole path k) never e =
      no_ok (subst (λ j. act_on_cubbyhole b c names path j ≡ Ok d) never e)
  never_for c (on_policy name k) (inl (text, is, root)) e =
      never_set text (subst (λ n. act_on_policies b names n (PolicyCommand.Set text) ≡ Ok d) root
      (subst (λ j. act_on_policies b names name j ≡ Ok d) is e))
  never_for c (on_policy name k) (inr (is, fixed)) e =
      never_removed name fixed (subst (λ j. act_on_policies b names name j ≡ Ok d) is e)
  never_for c (on_mount name k) (is, fixed) e =
      never_disabled name fixed (subst (λ j. act_on_mounts b names name j ≡ Ok d) is e)
  never_for c _ never e = never

never_done : (b : Broker) (caller : Option Text) (names : Names) (d : Done) (k : Command) → IsNeverDone k
    → act b caller names k ≡ Ok d → ⊥
never_done b (Some c) names d k never e = never_for b names d c k never e
never_done b None names d (on_wrapping k) never e = never
never_done b None names d _ never e = no_ok e

-- ---- what tells something

-- a reply, a text that was kept, or a 404 with a reply to a read of a version
abbrev Tells : Command → Done → Type 0
Tells k d =
    ((r : Reply) × (made : Option Text) × (d.answered ≡ reply r made))
    ⊎ (((t : Text) × (d.answered ≡ kept_text t))
    ⊎ ((p : Place) × (n : ℕ) × (r : Reply) × (k ≡ on_secret p (SecretCommand.Read n)) × (d.answered ≡ missing r)))

replied : (k : Command) (r : Reply) (made : Option Text) (x d : Done) → ◌≡◌ {A = Result Done Refusal} (Ok x) (Ok d)
    → x.answered ≡ reply r made → Tells k d
replied k r made x d e answered = inl (r, made, ap (λ (z : Done). z.answered) (sym (ok_inj e)) ∙ answered)

module _ (b : Broker) (c : Text) (names : Names) (d : Done) where
  cubbyhole_tells : (path : Text) (k : CubbyholeCommand) → cubbyhole_is_silent k ≡ false
      → act_on_cubbyhole b c names path k ≡ Ok d → Tells (on_cubbyhole path k) d
  cubbyhole_tells path CubbyholeCommand.Read is e =
      replied (on_cubbyhole path CubbyholeCommand.Read) _ _ _ d
      (ok_step (some_or Refusal.NotFound (cubbyholes.object_at b c path)) _ d e).2 refl
  cubbyhole_tells path CubbyholeCommand.List is e =
      replied (on_cubbyhole path CubbyholeCommand.List) _ _ _ d
      (ok_step (unless (not (are_none (cubbyholes.list b c path))) Refusal.NotFound) _ d e).2 refl
  cubbyhole_tells path _ is e = absurd (false≢true (sym is))

  renewal_tells : (k : Command) (t : Text) (increment : ℕ)
      → act_on_tokens b t names (TokenCommand.RenewSelf increment) ≡ Ok d
      → Tells k d
  renewal_tells k t increment e =
      let x = ok_step (known b t) _ d e in
      replied k _ _ _ d
      (ok_step (unless (is_some x.0.ends) (Refusal.BadRequest Reason.TokenNotRenewable)) _ d x.2).2 refl

  token_tells : (k : TokenCommand) → token_is_silent k ≡ false → act_on_tokens b c names k ≡ Ok d
      → Tells (on_token k) d
  token_tells (TokenCommand.Create making asked) is e =
      let x = ok_step (known b c) _ d e in
      let privileged = is_privileged b (making_path making) x.0 in
      let policies = new_policies privileged x.0 asked in
      replied (on_token (TokenCommand.Create making asked)) _ _ _ d
      (ok_step (may_make privileged making x.0 policies asked) _ d x.2).2 refl
  token_tells (TokenCommand.LookUp t) is e =
      replied (on_token (TokenCommand.LookUp t)) _ _ _ d (ok_step (known b t) _ d e).2 refl
  token_tells (TokenCommand.LookUpAccessor accessor) is e =
      let t = ok_step (named b accessor) _ d e in
      replied (on_token (TokenCommand.LookUpAccessor accessor)) _ _ _ d (ok_step (known b t.0) _ d t.2).2 refl
  token_tells TokenCommand.LookUpSelf is e =
      replied (on_token TokenCommand.LookUpSelf) _ _ _ d (ok_step (known b c) _ d e).2 refl
  token_tells (TokenCommand.Renew asked) is e =
      renewal_tells (on_token (TokenCommand.Renew asked)) asked.token asked.increment e
  token_tells (TokenCommand.RenewSelf increment) is e =
      renewal_tells (on_token (TokenCommand.RenewSelf increment)) c increment e
  token_tells TokenCommand.ListAccessors is e = replied (on_token TokenCommand.ListAccessors) _ _ _ d e refl
  token_tells _ is e = absurd (false≢true (sym is))

  read_tells : (p : Place) (n : ℕ) (v : Found) (w : Bool)
      → d.answered ≡ (if w then reply (version_reply names.request v) None else missing (version_reply names.request v))
      → Tells (on_secret p (SecretCommand.Read n)) d
  read_tells p n v true answered = inl (version_reply names.request v, None, answered)
  read_tells p n v false answered = inr (inr (p, n, version_reply names.request v, refl, answered))

  secret_tells : (p : Place) (k : SecretCommand) → secret_is_silent k ≡ false → act_on_secrets b names p k ≡ Ok d
      → Tells (on_secret p k) d
  secret_tells p SecretCommand.ShowSettings is e =
      replied (on_secret p SecretCommand.ShowSettings) _ _ _ d
      (ok_step (some_or Refusal.NotFound (secrets.config b p.mount)) _ d e).2 refl
  secret_tells p (SecretCommand.Read n) is e =
      let v = ok_step (some_or Refusal.NotFound (secrets.read b p.mount p.path n)) _ d e in
      read_tells p n v.0 (is_some (object_left (v.0).version)) (ap (λ (z : Done). z.answered) (sym (ok_inj v.2)))
  secret_tells p (SecretCommand.Write asked) is e =
      replied (on_secret p (SecretCommand.Write asked)) _ _ _ d
      (ok_step (secrets.write b p.mount p.path asked.cas asked.object) _ d e).2 refl
  secret_tells p SecretCommand.ShowMetadata is e =
      replied (on_secret p SecretCommand.ShowMetadata) _ _ _ d
      (ok_step (some_or Refusal.NotFound (secrets.metadata b p.mount p.path)) _ d e).2 refl
  secret_tells p SecretCommand.List is e =
      replied (on_secret p SecretCommand.List) _ _ _ d
      (ok_step (unless (not (are_none (secrets.list b p.mount p.path))) Refusal.NotFound) _ d e).2 refl
  secret_tells p _ is e = absurd (false≢true (sym is))

  policy_tells : (name : Text) (k : PolicyCommand) → policy_is_silent k ≡ false
      → act_on_policies b names name k ≡ Ok d → Tells (on_policy name k) d
  policy_tells name PolicyCommand.List is e = replied (on_policy name PolicyCommand.List) _ _ _ d e refl
  policy_tells name PolicyCommand.Show is e =
      replied (on_policy name PolicyCommand.Show) _ _ _ d
      (ok_step (some_or Refusal.NotFound (policies.text_of b.policies name)) _ d e).2 refl
  policy_tells name _ is e = absurd (false≢true (sym is))

  mount_tells : (name : Text) (k : MountCommand) → mount_is_silent k ≡ false → act_on_mounts b names name k ≡ Ok d
      → Tells (on_mount name k) d
  mount_tells name MountCommand.List is e = replied (on_mount name MountCommand.List) _ _ _ d e refl
  mount_tells name _ is e = absurd (false≢true (sym is))

  lease_tells : (prefix : Text) (k : LeaseCommand) → lease_is_silent k ≡ false
      → act_on_leases b names prefix k ≡ Ok d → Tells (on_lease prefix k) d
  lease_tells prefix (LeaseCommand.LookUp id) is e =
      replied (on_lease prefix (LeaseCommand.LookUp id)) _ _ _ d (ok_step (leases.lookup b id) _ d e).2 refl
  lease_tells prefix (LeaseCommand.Renew asked) is e =
      replied (on_lease prefix (LeaseCommand.Renew asked)) _ _ _ d
      (ok_step (leases.renew b asked.lease_id asked.increment) _ d e).2 refl
  lease_tells prefix _ is e = absurd (false≢true (sym is))

  issued_tells : (p : Place) (k : IssuedCommand) → issued_is_silent k ≡ false → act_on_issued b c names p k ≡ Ok d
      → Tells (on_issued p k) d
  issued_tells p IssuedCommand.ShowRole is e =
      replied (on_issued p IssuedCommand.ShowRole) _ _ _ d
      (ok_step (some_or Refusal.NotFound (roles.role b p.mount p.path)) _ d e).2 refl
  issued_tells p IssuedCommand.Issue is e =
      replied (on_issued p IssuedCommand.Issue) _ _ _ d
      (ok_step (roles.creds b c p.mount p.path names.lease names.credential) _ d e).2 refl
  issued_tells p (IssuedCommand.Verify credential) is e = replied (on_issued p (IssuedCommand.Verify credential)) _ _ _
      d e refl
  issued_tells p _ is e = absurd (false≢true (sym is))

-- with a caller or without
wrapping_tells : (b : Broker) (names : Names) (d : Done) (k : WrappingCommand) → act_on_wrappings b names k ≡ Ok d
    → Tells (on_wrapping k) d
wrapping_tells b names d (WrappingCommand.Wrap text) e = replied (on_wrapping (WrappingCommand.Wrap text)) _ _ _ d e
    refl
wrapping_tells b names d (WrappingCommand.LookUp meant) e =
    replied (on_wrapping (WrappingCommand.LookUp meant)) _ _ _ d (ok_step (found b meant) _ d e).2 refl
wrapping_tells b names d (WrappingCommand.Rewrap meant) e =
    replied (on_wrapping (WrappingCommand.Rewrap meant)) _ _ _ d (ok_step (found b meant) _ d e).2 refl
wrapping_tells b names d (WrappingCommand.Unwrap meant) e =
    let f = ok_step (found b meant) _ d e in
    inr (inl ((f.0).response.reply, ap (λ (z : Done). z.answered) (sym (ok_inj f.2))))

tells_for : (b : Broker) (c : Text) (names : Names) (d : Done) (k : Command) → is_silent k ≡ false
    → act b (Some c) names k ≡ Ok d → Tells k d
tells_for b c names d (on_cubbyhole path k) is e = cubbyhole_tells b c names d path k is e
tells_for b c names d (on_token k) is e = token_tells b c names d k is e
tells_for b c names d (on_secret p k) is e = secret_tells b c names d p k is e
tells_for b c names d (on_policy name k) is e = policy_tells b c names d name k is e
tells_for b c names d (on_mount name k) is e = mount_tells b c names d name k is e
tells_for b c names d (on_lease prefix k) is e = lease_tells b c names d prefix k is e
tells_for b c names d (on_issued p k) is e = issued_tells b c names d p k is e
tells_for b c names d (on_wrapping k) is e = wrapping_tells b names d k e

tells_openly : (b : Broker) (names : Names) (d : Done) (k : Command) → act b None names k ≡ Ok d → Tells k d
tells_openly b names d (on_wrapping k) e = wrapping_tells b names d k e
tells_openly b names d _ e = no_ok e

tells_by : (b : Broker) (caller : Option Text) (names : Names) (d : Done) (k : Command) → is_silent k ≡ false
    → act b caller names k ≡ Ok d → Tells k d
tells_by b None names d k is e = tells_openly b names d k e
tells_by b (Some c) names d k is e = tells_for b c names d k is e

-- ---- one request

module _ (a : Asking) (is : a.outcome ≡ step a.broker a.moment a.words a.ask) (command : Command)
    (means : command_of (clocked a).mounts a.ask ≡ Ok command) where
  module _ (s : Served a) where
    acted : act (spent (clocked a) s.caller) s.caller (names_of a.words) command ≡ Ok s.done
    acted =
        subst (λ (x : Command). act (spent (clocked a) s.caller) s.caller (names_of a.words) x ≡ Ok s.done)
        (ok_inj (sym (means_at_clock a s.caller s.command s.means) ∙ means)) s.acted

    -- an answer that is no reply is not wrapped
    unwrapped_is : (x : Answered) → s.done.answered ≡ x
        → ((r : Reply) (made : Option Text) → s.done.answered ≡ reply r made → ⊥)
        → a.outcome.response ≡ response_to x
    unwrapped_is x answered no_reply =
        ap (λ (o : Outcome). o.response) s.outcome
        ∙ elim (wrapped_cases permits traits act (spent (clocked a) s.caller) (request_of a.ask) (names_of a.words)
        s.command s.done) [
          | inl plain ↦ ap (λ (z : Wrapped). response_to z.done.answered) plain ∙ ap response_to answered
          | inr kept ↦ absurd (no_reply kept.0 kept.1 kept.3)
        ]

    abbrev Success : Type 0
    Success = a.outcome.response.status ≡ Status.Success

    by_answer : Tells command s.done → Success ⊎ (IsRefused a.outcome.response ⊎ ReadsEnded a command)
    by_answer (inl (r, made, answered)) = inl (is_200 a s r made answered)
    by_answer (inr (inl (t, answered))) =
        inl (ap (λ r. r.status) (unwrapped_is (kept_text t) answered
        (λ r made replied. apart (sym answered ∙ replied))))
      where
        apart : {t : Text} {r : Reply} {made : Option Text} → kept_text t ≡ reply r made → ⊥
        apart e = cc
    by_answer (inr (inr (p, n, r, is_read, answered))) =
        inr (inr (p, n, is_read, shows_ended a p n (means ∙ ap Ok is_read) s r answered))

  silently : is_silent command ≡ true → (a.outcome.response ≡ no_content) ⊎ IsRefused a.outcome.response
  silently quiet = elim (refused_or_served a is) [
    | inl r ↦ inr r
    | inr s ↦
        let answered =
        silent_by (spent (clocked a) s.caller) s.caller (names_of a.words) s.done command quiet (acted s) in
        inl (unwrapped_is s nothing answered (λ r made replied. nothing_is_no_reply answered replied))
  ]

  tellingly : is_silent command ≡ false
      → (a.outcome.response.status ≡ Status.Success) ⊎ (IsRefused a.outcome.response ⊎ ReadsEnded a command)
  tellingly loud = elim (refused_or_served a is) [
    | inl r ↦ inr (inl r)
    | inr s ↦ by_answer s
        (tells_by (spent (clocked a) s.caller) s.caller (names_of a.words) s.done command loud (acted s))
  ]

  refused_always : IsNeverDone command → IsRefused a.outcome.response
  refused_always never = elim (refused_or_served a is) [
    | inl r ↦ r
    | inr s ↦ absurd
        (never_done (spent (clocked a) s.caller) s.caller (names_of a.words) s.done command never (acted s))
  ]

pub statuses_follow : AllStatusesFollow
statuses_follow b history h = record {
  silent = λ i a command at means quiet. silently a (asked_at b history i a h at).outcome command means quiet;
  told = λ i a command at means loud. tellingly a (asked_at b history i a h at).outcome command means loud;
  never = λ i a command at means never.
      refused_always a (asked_at b history i a h at).outcome command means never;
}

-- What commands on roles and credentials leave: what is issued has its own identifiers, the others give out none.
use Rattle.std.proofs.Common.{◌≡◌, ◌⊎◌, ◌++◌, ◌∷◌, ◌+◌, ◌-◌, if◌then◌else◌, Bool, true, false, [], drop, length, not}
use Rattle.broker_model.specs.Words.{codes, Some, Ok, list_any, refl, sym, ◌∙◌, ap, subst, inl, inr, length-append}
use Rattle.broker_model.specs.Words.{add-sub_cancel, drop-append_seam, Broker, Role, get, put, without, Names, is_name}
use Rattle.broker_model.specs.Words.{nothing, plainly, Done, lease_identifier, put_is, some_or, unless, ok_step, Text}
use Rattle.broker_model.specs.Words.{same, same_true, Token, Lease, RoleSettings, ok_inj, Issued, lease_id, new_lease}
use Rattle.broker_model.specs.Words.{is_last_use, on_issued, secrets_same, Does, IsNewTo, Stay, first_in, later_in}
use Rattle.broker_model.specs.Words.{lease_names, act_on_issued, issued_reply, of_issued, set_role, Place}
use Rattle.broker_types.specs.declared.refusal.Refusal.TheVariants as refusal
use Rattle.broker_types.specs.declared.refusal.Reason.TheVariants as reason
use Rattle.leases.specs.Leases as leases
use Rattle.leases.specs.Roles as roles
use Rattle.broker_model.specs.declared.commands.IssuedCommand.{IssuedCommand}
use Rattle.broker_model.specs.declared.commands.IssuedCommand.TheVariants as command
use Rattle.broker_model.proofs.Operations.{leaves_roles, shown_does, silent_does}
use Rattle.broker_model.proofs.Staying.{stay_edited}

-- what an id ends with is its identifier, if it is as long as one
identifier_of : (front i : Text) → length i ≡ 36 → lease_identifier (front ++ i) ≡ i
identifier_of front i long =
    let shorter : length (front ++ i) - 36 ≡ length front =
    ap (λ n. n - 36) (length-append front i ∙ ap (λ n. length front + n) long) ∙ add-sub_cancel (length front) 36 in
    ap (λ n. drop n (front ++ i)) shorter ∙ drop-append_seam front i

module _ (b : Broker) (c : Text) (names : Names) (p : Place) where
  abbrev DoesIt : IssuedCommand → Done → Type 0
  DoesIt command = Does b (Some c) names (on_issued p command)

  -- ---- what is issued

  module _ (r : Role) (long : length names.lease ≡ 36) where
    abbrev id : Text
    id = lease_id p.mount p.path names.lease

    abbrev lease : Lease
    lease = new_lease b.clock r names.credential

    -- what the role gives
    abbrev issued : Issued
    issued = record { lease_id = id; lease = lease; next = leases.issue b c id lease }

    is_new : (q : Text) → same q c ≡ true → (k : Text) (l : Lease) → k ≡ id → l ≡ lease
        → IsNewTo (Some c) (lease_names names) q k l
    is_new q at k l here is = (
      ap Some (sym (same_true q c at)),
      ap (λ u. list_any (same (lease_identifier u)) (lease_names names)) here
          ∙ ap (λ u. list_any (same u) (lease_names names))
          (identifier_of (p.mount ++ codes "/creds/" ++ p.path ++ codes "/") names.lease long)
          ∙ first_in names.lease (names.credential ∷ []),
      ap (λ (z : Lease). list_any (same z.credential) (lease_names names)) is
          ∙ later_in names.credential names.lease (names.credential ∷ []) (first_in names.credential []),
    )

    by_lease : (q : Text) (x : Token) (v : Bool) → same q c ≡ v → (k : Text) (l : Lease)
        → get (if v then put x.leases id lease else x.leases) k ≡ Some l
        → ((m : Lease) × (get x.leases k ≡ Some m) × (m.credential ≡ l.credential))
        ⊎ IsNewTo (Some c) (lease_names names) q k l
    by_lease q x true at k l e =
        put_is x.leases id lease k l _ e (λ here is. inr (is_new q at k l here is)) (λ there. inl (l, there, refl))
    by_lease q x false at k l e = inl (l, e, refl)

    issued_stays : Stay (Some of_issued) (Some c) (lease_names names) b issued.next
    issued_stays =
        stay_edited (Some of_issued) (Some c) (lease_names names) b issued.next
        (λ t (x : Token). leases.with_leases (if same t c then put x.leases id lease else x.leases) x) refl
        (λ q x. record { rest = refl; cubbyhole = inl refl; leases = inr refl })
        (λ q x there k l e. by_lease q x (same q c) refl k l e)

    given_does : DoesIt command.Issue (issued_reply names issued)
    given_does = record {
      gives_own = inr refl;
      none_at_204 = λ e. absurd (cc);
      none_at_404 = λ r e. absurd (cc);
      hands_out = λ o e. absurd (cc);
      keeps_text = λ t e. absurd (cc);
      not_kept = λ _. refl;
      made = λ r made e. inl (cc);
      waiting = λ t w e. inl e;
      fated = issued_stays;
      versions = λ given_. secrets_same b.secrets b.secrets refl;
      keeps = record {
        clock = refl;
        used = refl;
        tokens = tt;
        secrets = refl;
        waiting = refl;
        mounts = refl;
        roles = refl;
        policies = refl;
      };
    }

  -- a credential that is not refused is that of a role
  issue_does : (i : Issued) → length names.lease ≡ 36
      → roles.creds b c p.mount p.path names.lease names.credential ≡ Ok i
      → DoesIt command.Issue (issued_reply names i)
  issue_does i long e =
      let x = ok_step (roles.issued (roles.role b p.mount p.path)
      (is_last_use b c) b.clock p.mount p.path names.lease names.credential) _ i e in
      let r = ok_step (some_or refusal.NotFound (roles.role b p.mount p.path)) _ x.0 x.1 in
      let lasts = ok_step (unless (not (is_last_use b c)) (refusal.BadRequest reason.LastUseTakesLease)) _ x.0 r.2 in
      subst (λ i. DoesIt command.Issue (issued_reply names i))
      (ap (λ (x : roles.IssuedLease). record {
        lease_id = x.lease_id;
        lease = x.lease;
        next = leases.issue b c x.lease_id x.lease;
      }) (ok_inj lasts.2)
      ∙ ok_inj x.2)
      (given_does r.0 long)

  -- ---- roles

  set_does : (asked : RoleSettings) (d : Done) → set_role b p asked ≡ Ok d → DoesIt (command.SetRole asked) d
  set_does asked d e =
      let next = ok_step (roles.set_role b p.mount p.path (record { ttl = asked.ttl; max_ttl = asked.max_ttl })) _ d
      e in
      let named = ok_step (unless (is_name p.path) (refusal.BadRequest reason.InvalidName)) _ next.0 next.1 in
      subst (DoesIt (command.SetRole asked)) (ok_inj next.2)
      (subst (λ n. DoesIt (command.SetRole asked) (plainly nothing n)) (ok_inj named.2)
      (silent_does b (Some c) names _ refl _ (leaves_roles b (Some c) _)))

  -- ---- the part

  pub acts : (command : IssuedCommand) (d : Done) → length names.lease ≡ 36 → act_on_issued b c names p command ≡ Ok d
      → DoesIt command d
  acts command.ShowRole d long e =
      let r = ok_step (some_or refusal.NotFound (roles.role b p.mount p.path)) _ d e in
      subst (DoesIt command.ShowRole) (ok_inj r.2) (shown_does b (Some c) names _ refl _)
  acts (command.SetRole asked) d long e = set_does asked d e
  acts command.RemoveRole d long e =
      subst (DoesIt command.RemoveRole) (ok_inj e)
      (silent_does b (Some c) names _ refl _
      (leaves_roles b (Some c) (without b.roles (roles.role_name p.mount p.path))))
  acts command.Issue d long e =
      let i = ok_step (roles.creds b c p.mount p.path names.lease names.credential) _ d e in
      subst (DoesIt command.Issue) (ok_inj i.2) (issue_does i.0 long i.1)
  acts (command.Verify credential) d long e =
      subst (DoesIt (command.Verify credential)) (ok_inj e) (shown_does b (Some c) names _ refl _)

-- What commands on leases leave.
use Rattle.std.proofs.Common.{◌≡◌, ◌-◌, if◌then◌else◌, ℕ, Bool, true, false, not, None, Some, Ok, refl, sym, ◌∙◌, ap}
use Rattle.broker_model.specs.Words.{subst, Text, same, Map, get, change, keep, without, get-change, without_is, Lease}
use Rattle.broker_model.specs.Words.{Broker, Names, reply, plainly, Done, mapped, ok_step, kept_get, lease_reply}
use Rattle.broker_model.specs.Words.{of_leases, ok_inj, on_lease, secrets_same, Does, act_on_leases}
use Rattle.leases.specs.Leases as leases
use Rattle.broker_model.specs.declared.commands.LeaseCommand.{LeaseCommand}
use Rattle.broker_model.specs.declared.commands.LeaseCommand.TheVariants as command
use Rattle.broker_model.proofs.Operations.{Leaves, shown_does, silent_does, told_does}
use Rattle.broker_model.proofs.Staying.{stay_leases}

-- each lease that an edit leaves was there, with its credential
abbrev pub KeepsLeases : (Text → Map Lease → Map Lease) → Type 0
KeepsLeases edit =
    (t lease_id : Text) (m : Map Lease) (l : Lease) → get (edit t m) lease_id ≡ Some l
    → (k : Lease) × (get m lease_id ≡ Some k) × (k.credential ≡ l.credential)

pub under_out : (prefix : Text) → KeepsLeases (λ t m. keep (λ q. not (leases.is_under prefix q)) m)
under_out prefix t q m l e = (l, (kept_get (λ q. not (leases.is_under prefix q)) m q l e).0, refl)

one_out : (id : Text) → KeepsLeases (λ t m. without m id)
one_out id t q m l e = (l, (without_is m id q l e).1, refl)

renewal_keeps : (b : Broker) (id : Text) (increment : ℕ)
    → KeepsLeases (λ t m. change m id (leases.renewed b.clock increment))
renewal_keeps b id increment t q m l e =
    let f = leases.renewed b.clock increment in
    let k = mapped (λ l. if same q id then f l else l) (get m q) l (sym (get-change m id f q) ∙ e) in
    (k.0, k.1, same_credential (same q id) k.0 ∙ ap (λ (l : Lease). l.credential) (sym k.2))
  where
    same_credential : (v : Bool) (l : Lease)
        → l.credential ≡ (if v then leases.renewed b.clock increment l else l).credential
    same_credential true l = refl
    same_credential false l = refl

module _ (b : Broker) (c : Text) (names : Names) (prefix : Text) where
  abbrev DoesIt : LeaseCommand → Done → Type 0
  DoesIt command = Does b (Some c) names (on_lease prefix command)

  leaves_edited : (edit : Text → Map Lease → Map Lease) → KeepsLeases edit
      → Leaves (Some of_leases) b (Some c) (leases.edited b edit)
  leaves_edited edit keeps = record {
    waiting = refl;
    stays = stay_leases (Some of_leases) (Some c) b (leases.edited b edit) edit refl refl keeps;
    versions = λ given. secrets_same b.secrets b.secrets refl;
    keeps = record {
      clock = refl;
      used = refl;
      tokens = tt;
      secrets = refl;
      waiting = refl;
      mounts = refl;
      roles = refl;
      policies = refl;
    };
  }

  pub acts : (command : LeaseCommand) (d : Done) → act_on_leases b names prefix command ≡ Ok d → DoesIt command d
  acts (command.LookUp id) d e =
      let l = ok_step (leases.lookup b id) _ d e in
      subst (DoesIt (command.LookUp id)) (ok_inj l.2) (shown_does b (Some c) names _ refl _)
  acts (command.Renew asked) d e =
      let id = asked.lease_id in
      let r = ok_step (leases.renew b id asked.increment) _ d e in
      let l = ok_step (leases.lookup b id) _ r.0 r.1 in
      let answered : leases.Renewed
      → Done = λ r. plainly (reply (lease_reply names.request id (r.ends - b.clock) None) None) r.next in
      subst (DoesIt (command.Renew asked)) (ok_inj r.2)
      (subst (λ r. DoesIt (command.Renew asked) (answered r)) (ok_inj l.2)
      (told_does b (Some c) names _ refl _
      (leaves_edited (λ t m. change m id (leases.renewed b.clock asked.increment)) (renewal_keeps b id asked.increment))
      _))
  acts (command.Revoke id) d e =
      subst (DoesIt (command.Revoke id)) (ok_inj e)
      (silent_does b (Some c) names _ refl _ (leaves_edited (λ t m. without m id) (one_out id)))
  acts command.RevokeUnder d e =
      subst (DoesIt command.RevokeUnder) (ok_inj e)
      (silent_does b (Some c) names _ refl _
      (leaves_edited (λ t m. keep (λ q. not (leases.is_under prefix q)) m) (under_out prefix)))

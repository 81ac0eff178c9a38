-- What becomes of the versions of each secret by a request.
use Rattle.std.proofs.Common.{◌≡◌, ◌==◌, ◌||◌, if◌then◌else◌}
use Rattle.broker_model.specs.Words.{with_changed, secrets_same, AllGiven, SecretsStay}
use Rattle.kv2.specs.Secrets as secrets
use Rattle.histories.specs.Words.{not, nat_lt, ℕ, List, true, Option, Some, None, Result, Ok, Err, refl, sym, ◌∙◌, ap}
use Rattle.histories.specs.Words.{subst, arith, eq-eqb, any_contained, Text, same, same_self, Map, get, valued_is}
use Rattle.histories.specs.Words.{Broker, Names, names_of, Done, nothing, plainly, mapped, unless, no_ok, ok_step, Key}
use Rattle.histories.specs.Words.{Version, Sound, end_spent, status_code, are_new, Refusal, ok_inj, secret_name}
use Rattle.histories.specs.Words.{get-change_versions, destroyed, is_among, act, Command, on_secret, command_of, forms}
use Rattle.histories.specs.Words.{OperationsDoAsTold, Outcome, Wrapped, counted, finish, needed, permission_denied}
use Rattle.histories.specs.Words.{serve, wrapped, permits, Request, request_of, step, traits, Place, Reason, Status}
use Rattle.histories.specs.Words.{SecretCommand, Asking, clocked, AllSecretsStay}
use Rattle.histories.proofs.EventSecrets.{end_same, spent_same, wrapped_same}
use Rattle.histories.proofs.InOrder.{in_order}
use Rattle.histories.proofs.Order.{spent, asked_at, means_at_clock, served}

module _ (told : OperationsDoAsTold) (a : Asking) (sound : Sound forms None a.broker) where
  abbrev now : Broker
  now = clocked a

  abbrev q : Request Command
  q = request_of a.ask

  abbrev names : Names
  names = names_of a.words

  abbrev Left : Outcome → Type 0
  Left o = SecretsStay a.broker.secrets o.next.secrets

  module _ (caller : Option Text) where
    abbrev start : Broker
    start = spent now caller

    given_ : AllGiven start
    given_ name k is n v there =
        ((sound.secrets name k (ap (λ (m : Map Key). get m name) (sym (spent_same now caller)) ∙ is)).versions n v
        there).last

    by_result : (r : Result Wrapped Refusal) → serve permits traits act start caller q names ≡ r
        → Left (finish start caller r)
    by_result (Err why) e = secrets_same a.broker.secrets (end_spent start caller).secrets (end_same start caller
        ∙ spent_same now caller)
    by_result (Ok v) e =
        let p = ok_step (unless (q.is_open || permits start caller q.verb q.path) permission_denied) _ v e in
        let r = ok_step (q.command start) _ v p.2 in
        let n =
        ok_step (unless (are_new start.used (needed permits traits act q names r.0)) Refusal.IdentifierUsed) _ v r.2 in
        let m = ok_step (unless (not (traits r.0).must_wrap || nat_lt 0 q.wrap_ttl)
        (Refusal.BadRequest Reason.WrappingRequired)) _ v n.2 in
        let f = ok_step (act start caller names r.0) _ v m.2 in
        let left : (end_spent (counted v.done) caller).secrets ≡ (f.0).next.secrets =
        end_same (counted v.done) caller ∙ ap (λ (x : Wrapped). x.done.next.secrets) (sym (ok_inj f.2))
        ∙ wrapped_same q names start r.0 f.0 in
        subst (SecretsStay a.broker.secrets) (sym left)
        (subst (λ (m : Map Key). SecretsStay m (f.0).next.secrets) (spent_same now caller)
        ((told start caller a.words r.0 f.0 f.1).versions given_))

  -- as long as a secret is there, its versions stay
  versions_stay : a.outcome ≡ step a.broker a.moment a.words a.ask → SecretsStay a.broker.secrets a.outcome.next.secrets
  unfolding step
  versions_stay is = subst Left (sym is)
      (in_order permits traits act a.broker a.moment q names Left
      (λ closed no_caller. secrets_same a.broker.secrets a.broker.secrets refl)
      (λ t closed is_token waits. secrets_same a.broker.secrets a.broker.secrets refl)
      (λ caller is_caller. by_result caller (serve permits traits act (spent now caller) caller q names) refl))

-- ---- what is destroyed

module _ (p : Place) (ns : List ℕ) where
  destroys : (b : Broker) (who : Option Text) (names : Names) (d : Done)
      → act b who names (on_secret p (SecretCommand.Destroy ns)) ≡ Ok d
      → d ≡ plainly nothing (secrets.destroy b p.mount p.path ns)
  destroys b None _ d e = no_ok e
  destroys b (Some c) _ d e = sym (ok_inj e)

  -- a version that a 204 destroyed holds nothing
  holds_nothing : (a : Asking) → a.outcome ≡ step a.broker a.moment a.words a.ask
      → command_of (clocked a).mounts a.ask ≡ Ok (on_secret p (SecretCommand.Destroy ns))
      → a.outcome.response.status ≡ Status.NoContent
      → (n : ℕ) (m : Key) (w : Version) → is_among ns n ≡ true
      → get a.outcome.next.secrets (secret_name p.mount p.path) ≡ Some m → get m.versions n ≡ Some w
      → w.secret ≡ None
  holds_nothing a is means empty_ n m w among there held =
      let s = served a is (omega (arith, ap status_code empty_)) in
      let start = spent (clocked a) s.caller in
      let names = names_of a.words in
      let is_command : s.command ≡ on_secret p (SecretCommand.Destroy ns) =
      ok_inj (sym (means_at_clock a s.caller s.command s.means) ∙ means) in
      let done = destroys start s.caller names s.done
      (subst (λ (k : Command). act start s.caller names k ≡ Ok s.done) is_command s.acted) in
      let v = wrapped permits traits act start (request_of a.ask) names s.command s.done in
      let left : a.outcome.next.secrets ≡ (secrets.destroy start p.mount p.path ns).secrets =
      ap (λ (o : Outcome). o.next.secrets) s.outcome ∙ end_same (counted v.done) s.caller
      ∙ wrapped_same (request_of a.ask) names start s.command s.done ∙ ap (λ (x : Done). x.next.secrets) done in
      let name = secret_name p.mount p.path in
      let f = with_changed destroyed ns in
      let x = valued_is (λ u (z : Key). if same u name then f z else z) start.secrets name m
      (ap (λ (z : Map Key). get z name) (sym left) ∙ there) in
      let is_changed : m ≡ f x.0 = x.2 ∙ ap (λ b. if b then f x.0 else x.0) (same_self name) in
      let y = mapped (λ (z : Version). if is_among ns n then destroyed z else z) (get x.0.versions n) w
      (sym (get-change_versions destroyed (is_among ns) x.0.versions n)
      ∙ ap (λ (z : Key). get z.versions n) (sym is_changed) ∙ held) in
      ap (λ (z : Version). z.secret) (y.2 ∙ ap (λ b. if b then destroyed y.0 else y.0) among)

pub secrets_stay : OperationsDoAsTold → AllSecretsStay
secrets_stay told b history h = record {
  stay = λ i a q k m at one other.
      let is = asked_at b history i a h at in
      versions_stay told a is.sound is.outcome q k m one other;
  destroyed = λ i a p ns n m w at means empty_ one there held.
      holds_nothing p ns a (asked_at b history i a h at).outcome means empty_ n m w
      (any_contained (λ k. k == n) ns n one (eq-eqb n n refl)) there held;
}

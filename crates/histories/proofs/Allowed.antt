-- What is allowed is done: some commands always, some where what they ask for is there.
use Rattle.std.proofs.Common.{◌≡◌, ◌≢◌, ◌⊎◌, ◌<◌, ◌==◌, ◌||◌, if◌then◌else◌, ◌-◌, ◌++◌, ◌∷◌}
use Rattle.broker_model.specs.Words.{Renewed, renewed_end, times_of, with_renewed, Issued, IssuedLease, lease_id}
use Rattle.broker_model.specs.Words.{issued_reply, issue, list_reply, listed, settings_reply}
use Rattle.token_tree.specs.Tokens as tree
use Rattle.kv2.specs.Secrets as secrets
use Rattle.leases.specs.Leases as leases
use Rattle.broker_model.specs.parts.Leases as of_leases
use Rattle.broker_model.specs.parts.Tokens as tokens
use Rattle.histories.specs.Words.{ℕ, [], Bool, true, false, nat_lt, is_some, Option, Some, None, Result, Ok}
use Rattle.histories.specs.Words.{option_and_then, option_map, ⊤, List, nat_eq, not, starts_with, option_map_or, refl}
use Rattle.histories.specs.Words.{sym, ◌∙◌, ap, subst, inl, inr, eq-eqb, eqb-true, false_from_ne_true, false≢true}
use Rattle.histories.specs.Words.{lt-ltb, none-some, Text, same, same_self, greatest_version, Map, entries, get, keys}
use Rattle.histories.specs.Words.{put, without, get-change, Response, Broker, Mount, Role, Names, names_of, missing}
use Rattle.histories.specs.Words.{nothing, plainly, reply, Done, OnePlaceEach, found_or_not, mapped_none, ◌>>=◌}
use Rattle.histories.specs.Words.{some_or, unless, Key, Version, Sound, is_spent, one_less, Lease, Token, are_new}
use Rattle.histories.specs.Words.{Refusal, Reply, children, folder, slash, token_entry, AccessorsNameTheirTokens}
use Rattle.histories.specs.Words.{metadata_of, Written, secret_name, write_over, written, Found, asked_number}
use Rattle.histories.specs.Words.{check_and_set, checked, key_or_new, numbered, is_last_use, new_lease, role_name}
use Rattle.histories.specs.Words.{AllThatIsGranted, RootMayDoAll, is_root, text_of, lease_object, policy_object}
use Rattle.histories.specs.Words.{role_object, lease_reply, plain_reply, LeaseRenewal, SecretWrite, TokenCreation}
use Rattle.histories.specs.Words.{TokenRenewal, act, Command, command_of, on_cubbyhole, on_issued, on_lease, on_mount}
use Rattle.histories.specs.Words.{on_policy, on_secret, on_token, on_wrapping, chained, forms, response_to, no_content}
use Rattle.histories.specs.Words.{step, traits, are_none, without_kept, Place, metadata_reply, object_left}
use Rattle.histories.specs.Words.{version_answered, version_reply, written_reply, auth_reply, token_reply, new_end}
use Rattle.histories.specs.Words.{Denial, Field, Reason, Status, CubbyholeCommand, IssuedCommand, LeaseCommand}
use Rattle.histories.specs.Words.{SecretCommand, TokenCommand, Making, AllDoAllowed, AreNew, HasAccessor, HasLease}
use Rattle.histories.specs.Words.{HasVersion, MayChange, MayCreate, MayWrite, ShowsThere, is_done, IsAllowed, Asking}
use Rattle.histories.specs.Words.{clocked, spent_by, PoliciesDecide, IsAccessorOf, named, MountCommand, PolicyCommand}
use Rattle.histories.proofs.Carried.{answers, carried_for, without_ttl}
use Rattle.histories.proofs.Found.{both_new, comes, goes, held_by_token, held_by_waiting, lease_found, removes, sets}
use Rattle.histories.proofs.FolderChildren.{has_children, no_cons}
use Rattle.histories.proofs.MayCreate.{created}
use Rattle.histories.proofs.Placed.{one_place_still}
use Rattle.histories.proofs.ReadsEnded.{current_is, number_is}
use Rattle.histories.proofs.Requests.{asked_at}
use Rattle.histories.proofs.Responses.{look_up, rewrap, unwrap}
use Rattle.histories.proofs.WithTtl.{status_stays}

-- ---- commands that are never refused

-- it is carried out, needs no identifier, may lack a wrap TTL, and answers nothing
abbrev IsDoneBy : Broker → Text → Names → Command → Type 0
IsDoneBy b c names command =
    (d : Done) × (act b (Some c) names command ≡ Ok d) × ((traits command).own names ≡ [])
    × ((traits command).must_wrap ≡ false) × (d.answered ≡ nothing)

module _ (b : Broker) (c : Text) (names : Names) where
  cubbyhole_done : (path : Text) (k : CubbyholeCommand) → is_done (on_cubbyhole path k) ≡ true
      → IsDoneBy b c names (on_cubbyhole path k)
  cubbyhole_done path (CubbyholeCommand.Write (Some text)) h = (_, refl, refl, refl, refl)
  cubbyhole_done path CubbyholeCommand.Delete h = (_, refl, refl, refl, refl)
  cubbyhole_done path _ h = absurd (false≢true h)

  token_done : (k : TokenCommand) → is_done (on_token k) ≡ true → IsDoneBy b c names (on_token k)
  token_done (TokenCommand.Revoke t) h = (_, refl, refl, refl, refl)
  token_done (TokenCommand.RevokeOrphan t) h = (_, refl, refl, refl, refl)
  token_done TokenCommand.RevokeSelf h = (_, refl, refl, refl, refl)
  token_done _ h = absurd (false≢true h)

  secret_done : (p : Place) (k : SecretCommand) → is_done (on_secret p k) ≡ true → IsDoneBy b c names (on_secret p k)
  secret_done p (SecretCommand.SetSettings asked) h = (_, refl, refl, refl, refl)
  secret_done p SecretCommand.DeleteCurrent h = (_, refl, refl, refl, refl)
  secret_done p (SecretCommand.Delete ns) h = (_, refl, refl, refl, refl)
  secret_done p (SecretCommand.Undelete ns) h = (_, refl, refl, refl, refl)
  secret_done p (SecretCommand.Destroy ns) h = (_, refl, refl, refl, refl)
  secret_done p (SecretCommand.SetMetadata asked) h = (_, refl, refl, refl, refl)
  secret_done p SecretCommand.Remove h = (_, refl, refl, refl, refl)
  secret_done p _ h = absurd (false≢true h)

  lease_done : (prefix : Text) (k : LeaseCommand) → is_done (on_lease prefix k) ≡ true
      → IsDoneBy b c names (on_lease prefix k)
  lease_done prefix (LeaseCommand.Revoke id) h = (_, refl, refl, refl, refl)
  lease_done prefix LeaseCommand.RevokeUnder h = (_, refl, refl, refl, refl)
  lease_done prefix _ h = absurd (false≢true h)

  issued_done : (p : Place) (k : IssuedCommand) → is_done (on_issued p k) ≡ true → IsDoneBy b c names (on_issued p k)
  issued_done p IssuedCommand.RemoveRole h = (_, refl, refl, refl, refl)
  issued_done p _ h = absurd (false≢true h)

  all_done : (k : Command) → is_done k ≡ true → IsDoneBy b c names k
  all_done (on_cubbyhole path k) h = cubbyhole_done path k h
  all_done (on_token k) h = token_done k h
  all_done (on_secret p k) h = secret_done p k h
  all_done (on_lease prefix k) h = lease_done prefix k h
  all_done (on_issued p k) h = issued_done p k h
  all_done (on_policy name k) h = absurd (false≢true h)
  all_done (on_mount name k) h = absurd (false≢true h)
  all_done (on_wrapping k) h = absurd (false≢true h)

-- ---- a read of a version that is there

module _ (b : Broker) (c : Text) (names : Names) (p : Place) (n : ℕ) (key : Key)
    (there : get b.secrets (secret_name p.mount p.path) ≡ Some key) (v : Version)
    (kept : get key.versions (asked_number key.current n) ≡ Some v)
    (not_deleted : v.deleted ≡ None) (not_destroyed : v.secret ≢ None) where
  abbrev found : Found
  found = numbered (entries key.custom_metadata) (asked_number key.current n) v

  finds : secrets.read b p.mount p.path n ≡ Some found
  finds =
      ap (option_and_then (λ (k : Key). option_map (numbered (entries k.custom_metadata) (asked_number k.current n))
      (get k.versions (asked_number k.current n)))) there
      ∙ ap (option_map (numbered (entries key.custom_metadata) (asked_number key.current n))) kept

  something : (o : Option Text) → o ≢ None → is_some o ≡ true
  something None some = absurd (some refl)
  something (Some t) some = refl

  left : is_some (object_left v) ≡ true
  left = ap (λ (o : Option ℕ). is_some (if is_some o then None else v.secret)) not_deleted
      ∙ something v.secret not_destroyed

  pub read_done : (d : Done) × (act b (Some c) names (on_secret p (SecretCommand.Read n)) ≡ Ok d)
      × (d.answered ≡ reply (version_reply names.request found) None)
  read_done = (
    _,
    ap (λ o. some_or Refusal.NotFound o >>= (λ x. Ok (record {
      answered = version_answered names.request x;
      next = b;
      taken = [];
      handed = None;
    }))) finds,
    ap (λ w. if w then reply (version_reply names.request found) None
        else missing (version_reply names.request found)) left,
  )

-- ---- a write that passes

module _ (own of_mount : Bool) (current : ℕ) (cas : Option ℕ)
    (told : (cas ≡ Some current) ⊎ ((cas ≡ None) × (of_mount ≡ false) × (own ≡ false)))
    (low : current < greatest_version) where
  set_passes : check_and_set (own || of_mount) current cas ≡ Ok tt
  set_passes = elim told [
    | inl it ↦ ap (check_and_set (own || of_mount) current) it ∙ by (own || of_mount)
    | inr none ↦ ap (check_and_set (own || of_mount) current) none.0
        ∙ ap (λ v. check_and_set (v || of_mount) current None) none.2
        ∙ ap (λ v. check_and_set v current None) none.1
  ]
    where
      same_number : unless (current == current) (Refusal.BadRequest Reason.CheckAndSetFailed) ≡ Ok tt
      same_number =
          ap (λ v. unless v (Refusal.BadRequest Reason.CheckAndSetFailed)) (eq-eqb current current refl)

      by : (v : Bool) → check_and_set v current (Some current) ≡ Ok tt
      by true = same_number
      by false = same_number

  pub all_pass : checked (own || of_mount) current cas ≡ Ok tt
  all_pass =
      let below : Bool → Result ⊤ Refusal = λ v. unless v (Refusal.BadRequest (Reason.InvalidField Field.Version)) in
      ap (λ (r : Result ⊤ Refusal). r >>= (λ passed. below (nat_lt current greatest_version))) set_passes
      ∙ ap below (lt-ltb current greatest_version low)

module _ (a : Asking) (b : Broker) (same_mounts : b.mounts ≡ (clocked a).mounts)
    (same_secrets : b.secrets ≡ (clocked a).secrets) (p : Place) (asked : SecretWrite) (m : MayWrite a p asked) where
  abbrev name : Text
  name = secret_name p.mount p.path

  -- the secret that it is written over
  pub record IsOver (o : Option Key) : Type 0 where
    pub current : (key_or_new b.clock o).current ≡ m.current
    pub free : ((key : Key) → o ≡ Some key → key.cas_required ≡ false) → (key_or_new b.clock o).cas_required ≡ false

  is_over : (o : Option Key) → get (clocked a).secrets name ≡ o → IsOver o
  is_over None none = record { current = sym (m.by_none none); free = λ _. refl }
  is_over (Some key) there = record { current = sym (m.by_key key there); free = λ free. free key refl }

  abbrev over : Key
  over = key_or_new b.clock (get b.secrets name)

  passes : checked (over.cas_required || m.of_mount.cas_required) over.current asked.cas ≡ Ok tt
  passes =
      let o = is_over (get b.secrets name) (ap (λ (s : Map Key). get s name) (sym same_secrets)) in
      all_pass over.cas_required m.of_mount.cas_required over.current asked.cas
      (elim m.told [
        | inl it ↦ inl (it ∙ ap Some (sym o.current))
        | inr (none, of_mount, own) ↦ inr (
          none,
          of_mount,
          o.free (λ key there. own key (ap (λ (s : Map Key). get s name) (sym same_secrets) ∙ there)),
        )
      ]) (subst (λ n. n < greatest_version) (sym o.current) m.low)

  pub writes_it : secrets.write b p.mount p.path asked.cas asked.object
      ≡ Ok (written b m.of_mount name asked.object over)
  writes_it =
      ap (λ (o : Option Mount). some_or Refusal.NotFound o
      >>= (λ n. write_over b n name asked.cas asked.object over))
      (ap (λ (s : Map Mount). get s p.mount) same_mounts ∙ m.in_mount)
      ∙ ap (λ (r : Result ⊤ Refusal). r >>= (λ passed. Ok (written b m.of_mount name asked.object over))) passes

-- ---- a token that is there

module _ (b : Broker) (names : Names) (t : Text) (x : Token) (there : get b.tokens t ≡ Some x) where
  looked_up_done : (id : Text) → (d : Done) × (r : Reply) × (tokens.look_up b names t id ≡ Ok d)
      × (d.answered ≡ reply r None)
  looked_up_done id =
      let tells : Token → Reply = λ y. token_reply names.request b.clock id (token_entry y) in
      let answer : Token → Done = λ y. plainly (reply (tells y) None) b in (
        answer x,
        tells x,
        ap (λ (o : Option Token). some_or (Refusal.Forbidden Denial.BadToken) o >>= (λ y. Ok (answer y))) there,
        refl,
      )

  renewed_done : (increment : ℕ) → x.ends ≢ None → (d : Done) × (r : Reply)
      × (tokens.renew_token b names t increment ≡ Ok d) × (d.answered ≡ reply r None)
  renewed_done increment ends =
      let next : Token → ℕ = λ y. new_end b.clock (token_entry y) increment in
      let tells : Token → Reply = λ y.
      auth_reply names.request b.clock t (token_entry (tree.with_end (next y) y)) in
      let answer : Token → Done = λ y. plainly (reply (tells y) None) (tree.renew b t (next y)) in
      let ending : Token → Bool → Result Done Refusal = λ y v.
      unless v (Refusal.BadRequest Reason.TokenNotRenewable) >>= (λ u. Ok (answer y)) in (
        answer x,
        tells x,
        ap (λ (o : Option Token). some_or (Refusal.Forbidden Denial.BadToken) o
            >>= (λ y. ending y (is_some y.ends))) there
            ∙ ap (ending x) (has_some x.ends ends),
        refl,
      )
    where
      has_some : (o : Option ℕ) → o ≢ None → is_some o ≡ true
      has_some None end = absurd (end refl)
      has_some (Some n) end = refl

-- ---- a lease that is there

module _ (b : Broker) (names : Names) (lease_id : Text) (l : Lease) (there : leases.find b lease_id ≡ Some l) where
  lease_looked_up : (d : Done) × (r : Reply) × (of_leases.look_up b names lease_id ≡ Ok d)
      × (d.answered ≡ reply r None)
  lease_looked_up =
      let tells : Lease → Reply = λ m.
      plain_reply names.request (lease_object (of_leases.shown_lease b.clock lease_id (times_of m))) in (
        plainly (reply (tells l) None) b,
        tells l,
        ap (λ (o : Option Lease). some_or (Refusal.BadRequest Reason.InvalidLease) o
            >>= (λ m. Ok (plainly (reply (tells m) None) b))) there,
        refl,
      )

  lease_renewed : (increment : ℕ) → (d : Done) × (r : Reply) × (of_leases.renew b names lease_id increment ≡ Ok d)
      × (d.answered ≡ reply r None)
  lease_renewed increment =
      let next : Lease → Renewed = λ m.
      record { ends = renewed_end b.clock increment m; next = with_renewed b lease_id increment } in
      let tells : Renewed → Reply = λ r. lease_reply names.request lease_id (r.ends - b.clock) None in
      let answer : Renewed → Done = λ r. plainly (reply (tells r) None) r.next in (
        answer (next l),
        tells (next l),
        ap (λ (o : Option Lease). some_or (Refusal.BadRequest Reason.InvalidLease) o >>= (λ m. Ok (next m))
            >>= (λ r. Ok (answer r))) there,
        refl,
      )

-- ---- a role that is there

module _ (b : Broker) (c : Text) (names : Names) (p : Place) (r : Role)
    (there : get b.roles (named p) ≡ Some r) (x : Token) (caller : get b.tokens c ≡ Some x)
    (lasts : x.uses_left ≢ Some 0) where
  not_last : is_last_use b c ≡ false
  not_last = ap (λ (o : Option Token). option_map_or is_spent o false) caller ∙ by x.uses_left lasts
    where
      by : (o : Option ℕ) → o ≢ Some 0 → option_map_or (λ n. n == 0) o false ≡ false
      by None some = refl
      by (Some n) some = false_from_ne_true (n == 0) (λ e. some (ap Some (eqb-true n 0 e)))

  credential_done : (d : Done) × (y : Reply) × (issue b c names p ≡ Ok d) × (d.answered ≡ reply y None)
  credential_done =
      let lease : Role → IssuedLease = λ q. record {
        lease_id = lease_id p.mount p.path names.lease;
        lease = new_lease b.clock q names.credential;
      } in
      let left : IssuedLease → Issued = λ i.
      record { lease_id = i.lease_id; lease = i.lease; next = leases.issue b c i.lease_id i.lease } in
      let go : Result IssuedLease Refusal → Result Done Refusal = λ z.
      z >>= (λ i. Ok (left i)) >>= (λ i. Ok (issued_reply names i)) in (
        issued_reply names (left (lease r)),
        _,
        ap (λ (o : Option Role). go (some_or Refusal.NotFound o
            >>= (λ q. unless (not (is_last_use b c)) (Refusal.BadRequest Reason.LastUseTakesLease)
            >>= (λ u. Ok (lease q))))) there
            ∙ ap (λ v. go (unless (not v) (Refusal.BadRequest Reason.LastUseTakesLease) >>= (λ u. Ok (lease r))))
            not_last,
        refl,
      )

-- ---- the law

-- a version that is there, by the number that is asked for
has_version : (a : Asking) (p : Place) (n : ℕ) (h : HasVersion a p n)
    → get h.key.versions (asked_number h.key.current n) ≡ Some h.version
has_version a p n h = ap (get h.key.versions) (by (n == 0) refl) ∙ h.is_kept
  where
    by : (v : Bool) → (n == 0) ≡ v → asked_number h.key.current n ≡ h.number
    by true zero_ =
        let none = eqb-true n 0 zero_ in
        current_is h.key n none ∙ sym (h.by_current none)
    by false some =
        let other : n ≢ 0 = λ none. false≢true (sym some ∙ ap (λ m. m == 0) none) in
        number_is h.key n other ∙ sym (h.by_number other)

-- what a use leaves of a token that is looked for
record IsLike (x y : Token) : Type 0 where
  pub ends : y.ends ≡ x.ends
  pub accessor : y.accessor ≡ x.accessor
  pub leases : y.leases ≡ x.leases

module _ (decide : PoliciesDecide) (a : Asking) (is : a.outcome ≡ step a.broker a.moment a.words a.ask)
    (k : IsAllowed a) (none : a.ask.wrap_ttl ≡ 0) where
  abbrev here : Broker
  here = spent_by a k.caller

  -- what a command answers is the answer
  answer : (command : Command) → command_of (clocked a).mounts a.ask ≡ Ok command
      → are_new here.used ((traits command).own (names_of a.words)) ≡ true → (traits command).must_wrap ≡ false
      → (d : Done) → act here (Some k.caller) (names_of a.words) command ≡ Ok d
      → a.outcome.response ≡ response_to d.answered
  answer command means new free d acted =
      answers a here (Some k.caller) command (carried_for a is command means decide k) (without_ttl a command none)
      new free d acted

  was_done : (command : Command) → command_of (clocked a).mounts a.ask ≡ Ok command → is_done command ≡ true
      → a.outcome.response ≡ no_content
  was_done command means it =
      let d = all_done here k.caller (names_of a.words) command it in
      answer command means (ap (are_new here.used) d.2) d.3 d.0 d.1 ∙ ap response_to d.4

  -- a reply is a 200
  replied : (command : Command) → command_of (clocked a).mounts a.ask ≡ Ok command
      → are_new here.used ((traits command).own (names_of a.words)) ≡ true → (traits command).must_wrap ≡ false
      → (d : Done) (r : Reply) (made : Option Text) → act here (Some k.caller) (names_of a.words) command ≡ Ok d
      → d.answered ≡ reply r made → a.outcome.response.status ≡ Status.Success
  replied command means new free d r made acted answered =
      ap (λ (x : Response). x.status) (answer command means new free d acted ∙ ap response_to answered)

  read : (p : Place) (n : ℕ) → command_of (clocked a).mounts a.ask ≡ Ok (on_secret p (SecretCommand.Read n))
      → HasVersion a p n → a.outcome.response.status ≡ Status.Success
  read p n means h =
      let d = read_done here k.caller (names_of a.words) p n h.key h.there h.version (has_version a p n h)
      h.not_deleted h.not_destroyed in
      replied (on_secret p (SecretCommand.Read n)) means refl refl d.0 _ None d.1 d.2

  write : (p : Place) (asked : SecretWrite)
      → command_of (clocked a).mounts a.ask ≡ Ok (on_secret p (SecretCommand.Write asked)) → MayWrite a p asked
      → a.outcome.response.status ≡ Status.Success
  write p asked means m =
      let names = names_of a.words in
      let left = written here m.of_mount (secret_name p.mount p.path) asked.object
      (key_or_new here.clock (get here.secrets (secret_name p.mount p.path))) in
      let answer : Written → Done = λ w.
      plainly (reply (written_reply names.request here.clock w.custom_metadata w.number) None) w.next in
      replied (on_secret p (SecretCommand.Write asked)) means refl refl (answer left) _ None
      (ap (λ (r : Result Written Refusal). r >>= (λ w. Ok (answer w))) (writes_it a here refl refl p asked m)) refl

  -- a token of the clock is there after the use, with its end, its accessor and its leases
  after_use : (t : Text) (x : Token) → get (clocked a).tokens t ≡ Some x
      → (y : Token) × (get here.tokens t ≡ Some y) × IsLike x y
  after_use t x there = (
    if same t k.caller then one_less x else x,
    get-change (clocked a).tokens k.caller one_less t
        ∙ ap (option_map (λ z. if same t k.caller then one_less z else z)) there,
    by (same t k.caller),
  )
    where
      by : (v : Bool) → IsLike x (if v then one_less x else x)
      by true = record { ends = refl; accessor = refl; leases = refl }
      by false = record { ends = refl; accessor = refl; leases = refl }

  look_up_token : (t : Text) → command_of (clocked a).mounts a.ask ≡ Ok (on_token (TokenCommand.LookUp t))
      → get (clocked a).tokens t ≢ None → a.outcome.response.status ≡ Status.Success
  look_up_token t means some = elim (found_or_not (get (clocked a).tokens t)) [
    | inl none ↦ absurd (some none)
    | inr x ↦
        let y = after_use t x.0 x.1 in
        let d = looked_up_done here (names_of a.words) t y.0 y.1 t in
        replied (on_token (TokenCommand.LookUp t)) means refl refl d.0 d.1 None d.2 d.3
  ]

  look_up_self : command_of (clocked a).mounts a.ask ≡ Ok (on_token TokenCommand.LookUpSelf)
      → a.outcome.response.status ≡ Status.Success
  look_up_self means =
      let d = looked_up_done here (names_of a.words) k.caller k.own k.calls.there k.caller in
      replied (on_token TokenCommand.LookUpSelf) means refl refl d.0 d.1 None d.2 d.3

  renew : (asked : TokenRenewal) (x : Token)
      → command_of (clocked a).mounts a.ask ≡ Ok (on_token (TokenCommand.Renew asked))
      → get (clocked a).tokens asked.token ≡ Some x → x.ends ≢ None → a.outcome.response.status ≡ Status.Success
  renew asked x means there some =
      let y = after_use asked.token x there in
      let d = renewed_done here (names_of a.words) asked.token y.0 y.1 asked.increment
      (λ none. some (sym y.2.ends ∙ none)) in
      replied (on_token (TokenCommand.Renew asked)) means refl refl d.0 d.1 None d.2 d.3

  renew_self : (increment : ℕ) → command_of (clocked a).mounts a.ask ≡ Ok (on_token (TokenCommand.RenewSelf increment))
      → k.own.ends ≢ None → a.outcome.response.status ≡ Status.Success
  renew_self increment means some =
      let d = renewed_done here (names_of a.words) k.caller k.own k.calls.there increment some in
      replied (on_token (TokenCommand.RenewSelf increment)) means refl refl d.0 d.1 None d.2 d.3

  -- a lease of the clock is found after the use
  lease_after_use : (lease_id : Text) → HasLease a lease_id → (m : Lease) × (leases.find here lease_id ≡ Some m)
  lease_after_use lease_id (t, l, there) =
      let x = chained (λ (z : Token). get z.leases lease_id) (get (clocked a).tokens t) l there in
      let y = after_use t x.0 x.1 in
      lease_found here lease_id t y.0 l y.1 (ap (λ (m : Map Lease). get m lease_id) y.2.leases ∙ x.2)

  look_up_lease : (prefix lease_id : Text)
      → command_of (clocked a).mounts a.ask ≡ Ok (on_lease prefix (LeaseCommand.LookUp lease_id)) → HasLease a lease_id
      → a.outcome.response.status ≡ Status.Success
  look_up_lease prefix lease_id means there =
      let m = lease_after_use lease_id there in
      let d = lease_looked_up here (names_of a.words) lease_id m.0 m.1 in
      replied (on_lease prefix (LeaseCommand.LookUp lease_id)) means refl refl d.0 d.1 None d.2 d.3

  renew_lease : (prefix : Text) (asked : LeaseRenewal)
      → command_of (clocked a).mounts a.ask ≡ Ok (on_lease prefix (LeaseCommand.Renew asked))
      → HasLease a asked.lease_id
      → a.outcome.response.status ≡ Status.Success
  renew_lease prefix asked means there =
      let m = lease_after_use asked.lease_id there in
      let d = lease_renewed here (names_of a.words) asked.lease_id m.0 m.1 asked.increment in
      replied (on_lease prefix (LeaseCommand.Renew asked)) means refl refl d.0 d.1 None d.2 d.3

  create_it : AllThatIsGranted → RootMayDoAll → Sound forms None a.broker → (making : Making) (asked : TokenCreation)
      → command_of (clocked a).mounts a.ask ≡ Ok (on_token (TokenCommand.Create making asked))
      → MayCreate a k making asked
      → AreNew a (names_of a.words).token (names_of a.words).accessor → a.outcome.response.status ≡ Status.Success
  create_it granted root sound making asked means may new =
      let names = names_of a.words in
      let d = created granted root a sound k making asked may names in
      replied (on_token (TokenCommand.Create making asked)) means
      (both_new here.used names.token names.accessor new.one_is_new new.other_is_new new.differ) refl d.0 d.1
      (Some names.accessor) d.2 d.3

  issue_it : (p : Place) (r : Role) → command_of (clocked a).mounts a.ask ≡ Ok (on_issued p IssuedCommand.Issue)
      → get (clocked a).roles (named p) ≡ Some r → k.own.uses_left ≢ Some 0
      → AreNew a (names_of a.words).lease (names_of a.words).credential → a.outcome.response.status ≡ Status.Success
  issue_it p r means there lasts new =
      let names = names_of a.words in
      let d = credential_done here k.caller names p r there k.own k.calls.there lasts in
      replied (on_issued p IssuedCommand.Issue) means
      (both_new here.used names.lease names.credential new.one_is_new new.other_is_new new.differ) refl d.0 d.1 None d.2
      d.3

  -- a revocation of what is found
  revoke_found : (accessor : Text)
      → command_of (clocked a).mounts a.ask ≡ Ok (on_token (TokenCommand.RevokeAccessor accessor))
      → (t : Text) → tokens.holder here accessor ≡ Ok t → a.outcome.response ≡ no_content
  revoke_found accessor means t held =
      answer (on_token (TokenCommand.RevokeAccessor accessor)) means refl refl (tokens.revoke_token here t)
      (ap (λ (r : Result Text Refusal). r >>= (λ t. Ok (tokens.revoke_token here t))) held)

  -- the token that has an accessor is found after the use
  named_after_use : AccessorsNameTheirTokens → OnePlaceEach a.broker → (accessor : Text)
      → (has : IsAccessorOf a accessor)
      → tree.find_accessor here accessor ≡ Some has.0
  named_after_use accessors one accessor (t, x, there, has) =
      let y = after_use t x there in
      ap (tree.find_accessor here) (sym (y.2.accessor ∙ has))
      ∙ accessors here t y.0 (one_place_still a.broker a.moment k.caller one) y.1

  look_up_accessor : AccessorsNameTheirTokens → OnePlaceEach a.broker → (accessor : Text)
      → command_of (clocked a).mounts a.ask ≡ Ok (on_token (TokenCommand.LookUpAccessor accessor))
      → IsAccessorOf a accessor → a.outcome.response.status ≡ Status.Success
  look_up_accessor accessors one accessor means has =
      let y = after_use has.0 has.1 has.2 in
      let d = looked_up_done here (names_of a.words) has.0 y.0 y.1 [] in
      replied (on_token (TokenCommand.LookUpAccessor accessor)) means refl refl d.0 d.1 None
      (ap (λ (o : Option Text). some_or (Refusal.BadRequest Reason.InvalidAccessor) o
      >>= (λ t. tokens.look_up here (names_of a.words) t [])) (named_after_use accessors one accessor has) ∙ d.2) d.3

  -- what is there is shown
  shown_there : {X : Type 0} (command : Command) → command_of (clocked a).mounts a.ask ≡ Ok command
      → (traits command).own (names_of a.words) ≡ [] → (traits command).must_wrap ≡ false → (o : Option X) → o ≢ None
      → (go : X → Reply)
      → act here (Some k.caller) (names_of a.words) command
      ≡ (some_or Refusal.NotFound o >>= (λ x. Ok (plainly (reply (go x) None) here)))
      → a.outcome.response.status ≡ Status.Success
  shown_there command means own free None there go acts = absurd (there refl)
  shown_there command means own free (Some x) there go acts =
      replied command means (ap (are_new here.used) own) free (plainly (reply (go x) None) here) (go x) None acts refl

  list_there : (command : Command) → command_of (clocked a).mounts a.ask ≡ Ok command
      → (traits command).own (names_of a.words) ≡ [] → (traits command).must_wrap ≡ false → (ts : List Text)
      → are_none ts ≡ false
      → act here (Some k.caller) (names_of a.words) command ≡ listed here (names_of a.words) ts
      → a.outcome.response.status ≡ Status.Success
  list_there command means own free ts some acts =
      let d = plainly (reply (list_reply (names_of a.words).request ts) None) here in
      replied command means (ap (are_new here.used) own) free d _ None
      (acts ∙ ap (λ v. unless (not v) Refusal.NotFound >>= (λ u. Ok d)) some) refl

  list_own : (path q : Text) → command_of (clocked a).mounts a.ask ≡ Ok (on_cubbyhole path CubbyholeCommand.List)
      → get k.own.cubbyhole q ≢ None → (path ≡ []) ⊎ (starts_with nat_eq q (path ++ slash ∷ []) ≡ true)
      → a.outcome.response.status ≡ Status.Success
  list_own path q means some is =
      list_there (on_cubbyhole path CubbyholeCommand.List) means refl refl
      (children (folder path) (keys k.own.cubbyhole))
      (has_children k.own.cubbyhole (folder path) q some (begins path is))
      (ap (λ (o : Option Token). listed here (names_of a.words) (children (folder path)
      (option_map_or (λ (x : Token). keys x.cubbyhole) o []))) k.calls.there)
    where
      begins : (path : Text) → (path ≡ []) ⊎ (starts_with nat_eq q (path ++ slash ∷ []) ≡ true)
          → starts_with nat_eq q (folder path) ≡ true
      begins [] is = refl
      begins (c ∷ path) (inl none) = absurd (no_cons c path none)
      begins (c ∷ path) (inr at) = at

  show : AccessorsNameTheirTokens → OnePlaceEach a.broker → (command : Command)
      → command_of (clocked a).mounts a.ask ≡ Ok command → ShowsThere a command
      → a.outcome.response.status ≡ Status.Success
  show accessors one (on_token TokenCommand.LookUpSelf) means there = look_up_self means
  show accessors one (on_token (TokenCommand.LookUpAccessor accessor)) means there =
      look_up_accessor accessors one accessor means there
  show accessors one (on_lease prefix (LeaseCommand.LookUp lease_id)) means there =
      look_up_lease prefix lease_id means there
  show accessors one (on_token TokenCommand.ListAccessors) means there =
      replied (on_token TokenCommand.ListAccessors) means refl refl _ _ None refl refl
  show accessors one (on_policy name PolicyCommand.List) means there =
      replied (on_policy name PolicyCommand.List) means refl refl _ _ None refl refl
  show accessors one (on_policy name PolicyCommand.Show) means (inl root) =
      shown_there (on_policy name PolicyCommand.Show) means refl refl (text_of here.policies name)
      (λ none. none-some _ (sym none ∙ ap (λ v. if v then Some [] else get here.policies name)
      (ap (same name) (sym root) ∙ same_self name)))
      (λ text. plain_reply (names_of a.words).request (policy_object name text)) refl
  show accessors one (on_policy name PolicyCommand.Show) means (inr some) =
      shown_there (on_policy name PolicyCommand.Show) means refl refl (text_of here.policies name)
      (there_too (is_root name)) (λ text. plain_reply (names_of a.words).request (policy_object name text)) refl
    where
      there_too : (v : Bool) → (if v then Some [] else get here.policies name) ≢ None
      there_too true none = none-some _ (sym none)
      there_too false none = some none
  show accessors one (on_mount name MountCommand.List) means there =
      replied (on_mount name MountCommand.List) means refl refl _ _ None refl refl
  show accessors one (on_issued p (IssuedCommand.Verify credential)) means there =
      replied (on_issued p (IssuedCommand.Verify credential)) means refl refl _ _ None refl refl
  show accessors one (on_issued p IssuedCommand.ShowRole) means there =
      shown_there (on_issued p IssuedCommand.ShowRole) means refl refl (get here.roles (named p)) there
      (λ r. plain_reply (names_of a.words).request (role_object r.max_ttl r.ttl)) refl
  show accessors one (on_secret p SecretCommand.ShowSettings) means there =
      shown_there (on_secret p SecretCommand.ShowSettings) means refl refl (get here.mounts p.mount) there
      (settings_reply (names_of a.words).request) refl
  show accessors one (on_secret p SecretCommand.List) means (q, some, is) =
      list_there (on_secret p SecretCommand.List) means refl refl
      (children (secret_name p.mount (folder p.path)) (keys here.secrets))
      (has_children here.secrets (secret_name p.mount (folder p.path)) q some (begins p.path refl))
      refl
    where
      begins : (path : Text) → p.path ≡ path → starts_with nat_eq q (secret_name p.mount (folder path)) ≡ true
      begins [] at = is.inside at
      begins (c ∷ path) at =
          ap (λ u. starts_with nat_eq q (p.mount ++ slash ∷ (u ++ slash ∷ []))) (sym at)
          ∙ is.below (λ none. no_cons c path (sym at ∙ none))
  show accessors one (on_secret p SecretCommand.ShowMetadata) means there =
      shown_there (on_secret p SecretCommand.ShowMetadata) means refl refl (secrets.metadata here p.mount p.path)
      (λ none. there (mapped_none metadata_of (get here.secrets (named p)) none))
      (metadata_reply (names_of a.words).request) refl
  show accessors one _ means there = absurd there

  revoke_accessor : AccessorsNameTheirTokens → OnePlaceEach a.broker → (accessor : Text)
      → command_of (clocked a).mounts a.ask ≡ Ok (on_token (TokenCommand.RevokeAccessor accessor))
      → HasAccessor a accessor
      → a.outcome.response ≡ no_content
  revoke_accessor accessors one accessor means (inl has) =
      revoke_found accessor means has.0
      (held_by_token here accessor has.0 (named_after_use accessors one accessor has))
  revoke_accessor accessors one accessor means (inr (t, w, there, has)) =
      let u = held_by_waiting here accessor t w there has in
      revoke_found accessor means u.0 u.1

  change_it : (command : Command) → command_of (clocked a).mounts a.ask ≡ Ok command → MayChange a command
      → a.outcome.response ≡ no_content
  change_it (on_policy name (PolicyCommand.Set text)) means (named, root, is) =
      answer (on_policy name (PolicyCommand.Set text)) means refl refl _
      (ap (λ (r : Result (Map Text) Refusal). r >>= (λ next. Ok (plainly nothing (record here { policies = next }))))
      (sets here.policies name text named root is))
  change_it (on_policy name PolicyCommand.Remove) means (root, default) =
      answer (on_policy name PolicyCommand.Remove) means refl refl _
      (ap (λ (r : Result (Map Text) Refusal). r >>= (λ next. Ok (plainly nothing (record here { policies = next }))))
      (removes here.policies name root default))
  change_it (on_issued p (IssuedCommand.SetRole asked)) means named =
      answer (on_issued p (IssuedCommand.SetRole asked)) means refl refl _
      (ap (λ v. unless v (Refusal.BadRequest Reason.InvalidName)
      >>= (λ u. Ok (record here {
        roles = put here.roles (role_name p.mount p.path) (record { ttl = asked.ttl; max_ttl = asked.max_ttl });
      })) >>= (λ next. Ok (plainly nothing next))) named)
  change_it (on_mount name (MountCommand.Enable asked)) means may =
      answer (on_mount name (MountCommand.Enable asked)) means refl refl _
      (ap (λ (r : Result (Map Mount) Refusal). r >>= (λ next. Ok (plainly nothing (record here { mounts = next }))))
      (comes a name asked may))
  change_it (on_mount name MountCommand.Disable) means (sys, auth, own) =
      answer (on_mount name MountCommand.Disable) means refl refl _
      (ap (λ (r : Result ⊤ Refusal). r >>= (λ free. Ok (without here.mounts name))
      >>= (λ next. Ok (plainly nothing
      (if is_some (get here.mounts name) then without_kept (record here { mounts = next }) name else here))))
      (goes name sys auth own))
  change_it _ means may = absurd may

  read_own : (path : Text) → command_of (clocked a).mounts a.ask ≡ Ok (on_cubbyhole path CubbyholeCommand.Read)
      → get k.own.cubbyhole path ≢ None → a.outcome.response.status ≡ Status.Success
  read_own path means some = elim (found_or_not (get k.own.cubbyhole path)) [
    | inl away ↦ absurd (some away)
    | inr text ↦
        let names = names_of a.words in
        let answer : Text → Done = λ kept. plainly (reply (plain_reply names.request kept) None) here in
        replied (on_cubbyhole path CubbyholeCommand.Read) means refl refl (answer text.0) _ None
        (ap (λ (o : Option Text). some_or Refusal.NotFound o >>= (λ kept. Ok (answer kept)))
        (ap (option_and_then (λ (x : Token). get x.cubbyhole path)) k.calls.there ∙ text.1)) refl
  ]

pub does_allowed : PoliciesDecide → AccessorsNameTheirTokens → AllThatIsGranted → RootMayDoAll → AllDoAllowed
does_allowed decide accessors granted root b history h = record {
  wraps = λ i a at k some new low. status_stays decide a (asked_at b history i a h at).outcome k some new low;
  creates = λ i a making asked at k none means may new.
      let is = asked_at b history i a h at in
      create_it decide a is.outcome k none granted root is.sound making asked means may new;
  shows = λ i a command at k none means there.
      let is = asked_at b history i a h at in
      show decide a is.outcome k none accessors is.sound.identifiers.one_place command means there;
  issues = λ i a p r at k none means there lasts new.
      issue_it decide a (asked_at b history i a h at).outcome k none p r means there lasts new;
  renews_self = λ i a increment at k none means some.
      renew_self decide a (asked_at b history i a h at).outcome k none increment means some;
  renews_lease = λ i a prefix asked at k none means there.
      renew_lease decide a (asked_at b history i a h at).outcome k none prefix asked means there;
  revokes_accessor = λ i a accessor at k none means has.
      let asked = asked_at b history i a h at in
      revoke_accessor decide a asked.outcome k none accessors asked.sound.identifiers.one_place accessor means has;
  changes = λ i a command at k none means may.
      change_it decide a (asked_at b history i a h at).outcome k none command means may;
  unwraps = λ i a t w at may means waits.
      unwrap decide a (asked_at b history i a h at).outcome may t w waits means;
  looks_up_response = λ i a t w at may means waits.
      look_up decide a (asked_at b history i a h at).outcome may t w waits means;
  rewraps = λ i a t w at may means waits new.
      rewrap decide a (asked_at b history i a h at).outcome may t w waits means new;
  done = λ i a command at k none means it.
      was_done decide a (asked_at b history i a h at).outcome k none command means it;
  reads = λ i a p n at k none means there. read decide a (asked_at b history i a h at).outcome k none p n means there;
  writes = λ i a p asked at k none means may.
      write decide a (asked_at b history i a h at).outcome k none p asked means may;
  looks_up = λ i a t at k none means some.
      look_up_token decide a (asked_at b history i a h at).outcome k none t means some;
  renews = λ i a asked x at k none means there some.
      renew decide a (asked_at b history i a h at).outcome k none asked x means there some;
  lists_own = λ i a path q at k none means some is.
      list_own decide a (asked_at b history i a h at).outcome k none path q means some is;
  reads_own = λ i a path at k none means some.
      read_own decide a (asked_at b history i a h at).outcome k none path means some;
}

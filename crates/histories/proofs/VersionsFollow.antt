-- Versions follow the writes, deletions and destructions that were asked for: each part of the law.
use Rattle.std.proofs.Common.{◌≡◌, ◌≢◌, ◌⊎◌, ◌+◌, ◌==◌, ◌||◌, ◌∷◌, if◌then◌else◌}
use Rattle.broker_model.specs.Words.{eqb-false, with_key, with_changed, VersionObject, version_made, version_shown}
use Rattle.std.specs.FinMap.{from_entries, get-empty}
use Rattle.kv2.specs.Secrets as secrets
use Rattle.histories.specs.Words.{ℕ, zero, suc, List, [], Bool, true, false, not, cond, is_none, is_some, Contains}
use Rattle.histories.specs.Words.{nat_eq, nat_lt, Option, option_map, unwrap_or, Some, None, Ok, starts_with}
use Rattle.histories.specs.Words.{option_map_or, nat_cmp, refl, sym, ◌∙◌, ap, subst, inl, inr, arith, eq-eqb, eqb-true}
use Rattle.histories.specs.Words.{false≢true, ltb-false, ltb-true, none-some, same_Some, any_contained, Text, same}
use Rattle.histories.specs.Words.{same_self, Map, entries, get, get-keep, get-put_self, get-without_self, valued_is}
use Rattle.histories.specs.Words.{Broker, Mount, Names, names_of, missing, nothing, plainly, reply, Done, found_or_not}
use Rattle.histories.specs.Words.{mapped, some_or, no_ok, ok_step, Key, Version, spend, status_code, Status, ok_inj}
use Rattle.histories.specs.Words.{Written, secret_name, written, get-change_versions, Found, asked_number, checked}
use Rattle.histories.specs.Words.{described, destroyed, is_among, numbered, key_or_new, restored, soft_deleted}
use Rattle.histories.specs.Words.{versions_kept, with_version, disabled, secret_object, plain_reply, reply_text}
use Rattle.histories.specs.Words.{KeySettings, SecretWrite, act, Command, command_of, on_mount, on_secret, chained}
use Rattle.histories.specs.Words.{OperationsDoAsTold, step, without_kept, Place, object_left, version_answered}
use Rattle.histories.specs.Words.{version_reply, written_reply, act_on_secrets, given_settings, Refusal, MountCommand}
use Rattle.histories.specs.Words.{SecretCommand, AreAsked, Asking, IsAsked, AskedAt, History, clocked}
use Rattle.histories.specs.Words.{AllVersionsFollow, AreSet, Commands, Deletes, DidSet, DidWrite, DisablesAbove}
use Rattle.histories.specs.Words.{SecretGoes, Holds, IsAsAsked, IsNewKey, ReadsVersion, StandsUnwritten, WroteBefore}
use Rattle.histories.specs.Words.{Writes, named}
use Rattle.histories.proofs.EventSecrets.{is_404, served_left}
use Rattle.histories.proofs.Order.{some_ok, spent, asked_at, means_at_clock, tells_body, Served, served}
use Rattle.histories.proofs.ReadsEnded.{read_404}
use Rattle.histories.proofs.SecretsFollow.{Moves, is_written, secrets_moved}

-- ---- a request that succeeded

module _ (a : Asking) (is : a.outcome ≡ step a.broker a.moment a.words a.ask) (command : Command)
    (means : command_of (clocked a).mounts a.ask ≡ Ok command) where
  abbrev now : Broker
  now = clocked a

  abbrev names : Names
  names = names_of a.words

  module _ (s : Served a) where
    is_command : s.command ≡ command
    is_command = ok_inj (sym (means_at_clock a s.caller s.command s.means) ∙ means)

    acted : act (spent now s.caller) s.caller names command ≡ Ok s.done
    acted = subst (λ (x : Command). act (spent now s.caller) s.caller names x ≡ Ok s.done) is_command s.acted

  was_200 : a.outcome.response.status ≡ Status.Success → Served a
  was_200 success = served a is (omega (arith, ap status_code success))

  was_204 : a.outcome.response.status ≡ Status.NoContent → Served a
  was_204 success = served a is (omega (arith, ap status_code success))

-- a command on a secret has a caller
secret_caller : (b : Broker) (names : Names) (p : Place) (k : SecretCommand) (caller : Option Text)
    (d : Done) {P : Type 0}
    → act (spent b caller) caller names (on_secret p k) ≡ Ok d
    → ((c : Text) → act_on_secrets (spend b c) names p k ≡ Ok d → P) → P
secret_caller b names p k None d e go = no_ok e
secret_caller b names p k (Some c) d e go = go c e

-- ---- a write

-- a secret that was there, or a new one
was_there : (a : Asking) (q : Text) (o : Option Key) → get (clocked a).secrets q ≡ o
    → (get (clocked a).secrets q ≡ Some (key_or_new (clocked a).clock o))
    ⊎ ((get (clocked a).secrets q ≡ None) × IsNewKey (clocked a).clock (key_or_new (clocked a).clock o))
was_there a q None none = inr (
  none,
  record {
    created = refl;
    current = refl;
    empty = λ n. get-empty nat_cmp n;
    free = refl;
    unlimited = refl;
  },
)
was_there a q (Some k) some = inl some

-- by the name that a place has
was_named : (a : Asking) (q : Text) (p : Place) → q ≡ named p
    → (get (clocked a).secrets q ≡ Some (key_or_new (clocked a).clock (get (clocked a).secrets (named p))))
    ⊎ ((get (clocked a).secrets q ≡ None)
    × IsNewKey (clocked a).clock (key_or_new (clocked a).clock (get (clocked a).secrets (named p))))
was_named a q p name =
    subst (λ u. (get (clocked a).secrets q ≡ Some (key_or_new (clocked a).clock (get (clocked a).secrets u)))
    ⊎ ((get (clocked a).secrets q ≡ None)
    × IsNewKey (clocked a).clock (key_or_new (clocked a).clock (get (clocked a).secrets u)))) name
    (was_there a q (get (clocked a).secrets q) refl)

module _ (told : OperationsDoAsTold) (a : Asking) (is : a.outcome ≡ step a.broker a.moment a.words a.ask) (q : Text)
    (asked : SecretWrite) (w : Writes a q asked) where
  abbrev here : Broker
  here = clocked a

  abbrev over : Key
  over = key_or_new here.clock (get here.secrets (secret_name w.place.mount w.place.path))

  module _ (s : Served a) (c : Text) (e : act_on_secrets (spend here c) (names_of a.words) w.place
      (SecretCommand.Write asked) ≡ Ok s.done) where
    wrote_it : DidWrite a q asked
    wrote_it =
        let name = secret_name w.place.mount w.place.path in
        let x = ok_step (secrets.write (spend here c) w.place.mount w.place.path asked.cas asked.object) _ s.done e in
        let m = ok_step (some_or Refusal.NotFound (get here.mounts w.place.mount)) _ x.0 x.1 in
        let passed = ok_step (checked (over.cas_required || m.0.cas_required) over.current asked.cas) _ x.0 m.2 in
        let after = with_version here.clock (versions_kept m.0 over) asked.object over in
        let left : a.outcome.next.secrets ≡ (written (spend here c) m.0 name asked.object over).next.secrets =
        served_left a s ∙ ap (λ (d : Done). d.next.secrets) (sym (ok_inj x.2))
        ∙ ap (λ (z : Written). z.next.secrets) (sym (ok_inj passed.2)) in
        record {
          place = w.place;
          name = w.name;
          of_mount = m.0;
          in_mount = some_ok Refusal.NotFound (get here.mounts w.place.mount) m.1;
          before = over;
          was = was_named a q w.place w.name;
          after = after;
          there = ap (get a.outcome.next.secrets) w.name ∙ ap (λ (z : Map Key). get z name) left
              ∙ get-put_self here.secrets name after;
          is = is_written here.clock m.0 asked (get here.secrets name) passed.1;
          made = version_made here.clock after.current;
          is_made = refl;
          told = sym (tells_body told a s _ None (ap (λ (d : Done). d.answered) (sym (ok_inj x.2))
              ∙ ap (λ (z : Written).
              reply (written_reply (names_of a.words).request here.clock z.custom_metadata z.number)
              None) (sym (ok_inj passed.2)))).0;
        }

  pub did_write : DidWrite a q asked
  did_write =
      let s = was_200 a is (on_secret w.place (SecretCommand.Write asked)) w.means w.answered in
      secret_caller here (names_of a.words) w.place (SecretCommand.Write asked) s.caller s.done
      (acted a is (on_secret w.place (SecretCommand.Write asked)) w.means s) (wrote_it s)

-- ---- settings

-- those that are given, and the others as they were
are_set : (now : ℕ) (asked : KeySettings) (k : Key) → AreSet now asked k (described now (given_settings asked) k)
are_set now asked k = record {
  updated = refl;
  cas_required = λ v e. ap (λ (o : Option Bool). unwrap_or o k.cas_required) e;
  same_cas_required = λ e. ap (λ (o : Option Bool). unwrap_or o k.cas_required) e;
  max_versions = λ n e. ap (λ (o : Option ℕ). unwrap_or o k.max_versions) e;
  same_max_versions = λ e. ap (λ (o : Option ℕ). unwrap_or o k.max_versions) e;
  custom_metadata = λ pairs e. ap pairs_left e;
  same_custom_metadata = λ e. ap pairs_left e;
}
  where
    pairs_left : Option (List (Text × Text)) → Map Text
    pairs_left o = option_map_or from_entries o k.custom_metadata

module _ (a : Asking) (is : a.outcome ≡ step a.broker a.moment a.words a.ask) (q : Text) (asked : KeySettings)
    (w : Commands a q (SecretCommand.SetMetadata asked)) where
  did_set : DidSet a q asked
  did_set =
      let k = on_secret w.place (SecretCommand.SetMetadata asked) in
      let s = was_204 a is k w.means w.answered in
      let old = get (clocked a).secrets (named w.place) in
      let after = described (clocked a).clock (given_settings asked) (key_or_new (clocked a).clock old) in
      secret_caller (clocked a) (names_of a.words) w.place (SecretCommand.SetMetadata asked) s.caller s.done
      (acted a is k w.means s) (λ c e. record {
        before = key_or_new (clocked a).clock old;
        was = was_named a q w.place w.name;
        after = after;
        there = ap (get a.outcome.next.secrets) w.name
            ∙ ap (λ (z : Map Key). get z (named w.place))
            (served_left a s ∙ ap (λ (d : Done). d.next.secrets) (sym (ok_inj e)))
            ∙ get-put_self (clocked a).secrets (named w.place) after;
        is = are_set (clocked a).clock asked (key_or_new (clocked a).clock old);
      })

-- ---- what goes

module _ (a : Asking) (is : a.outcome ≡ step a.broker a.moment a.words a.ask) (q : Text) where
  removed : Commands a q SecretCommand.Remove → get a.outcome.next.secrets q ≡ None
  removed w =
      let k = on_secret w.place SecretCommand.Remove in
      let s = was_204 a is k w.means w.answered in
      let name = secret_name w.place.mount w.place.path in
      secret_caller (clocked a) (names_of a.words) w.place SecretCommand.Remove s.caller s.done (acted a is k w.means s)
      (λ c e.
      ap (get a.outcome.next.secrets) w.name
      ∙ ap (λ (z : Map Key). get z name) (served_left a s ∙ ap (λ (d : Done). d.next.secrets) (sym (ok_inj e)))
      ∙ get-without_self (clocked a).secrets name)

  disabled_below : DisablesAbove a q → get a.outcome.next.secrets q ≡ None
  disabled_below w =
      let s = was_204 a is (on_mount w.name MountCommand.Disable) w.means w.answered in
      by s s.caller (acted a is (on_mount w.name MountCommand.Disable) w.means s)
    where
      bare : (next : Map Mount) (c : Text) (o : Option Mount) → o ≢ None
          → get (if is_some o then without_kept (record (spend (clocked a) c) { mounts = next }) w.name
          else spend (clocked a) c).secrets q ≡ None
      bare next c None there = absurd (there refl)
      bare next c (Some m) there =
          get-keep (λ u. not (starts_with nat_eq u (secret_name w.name []))) (clocked a).secrets q
          ∙ ap (λ v. cond (not v) (get (clocked a).secrets q) None) w.below

      by : (s : Served a) (caller : Option Text)
          → act (spent (clocked a) caller) caller (names_of a.words) (on_mount w.name MountCommand.Disable) ≡ Ok s.done
          → get a.outcome.next.secrets q ≡ None
      by s None e = no_ok e
      by s (Some c) e =
          let next = ok_step (disabled (clocked a).mounts w.name) _ s.done e in
          ap (λ (z : Map Key). get z q) (served_left a s ∙ ap (λ (d : Done). d.next.secrets) (sym (ok_inj next.2)))
          ∙ bare next.0 c (get (clocked a).mounts w.name) w.there

  pub goes_away : SecretGoes a q → get a.outcome.next.secrets q ≡ None
  goes_away (inl w) = removed w
  goes_away (inr w) = disabled_below w

-- ---- a change of versions

-- a version that is deleted is so afterwards
left_deleted : (now : ℕ) (v w : Version) → w ≡ soft_deleted now v → w.deleted ≢ None
left_deleted now v w at none = by v.deleted refl (ap (λ (z : Version). z.deleted) (sym at) ∙ none)
  where
    by : (o : Option ℕ) → v.deleted ≡ o
        → (if is_none o then record v { deleted = Some now } else v).deleted ≡ None → ⊥
    by None was e = none-some _ (sym e)
    by (Some t) was e = none-some _ (sym e ∙ was)

-- and one that is taken back is not, unless it is destroyed
left_restored : (v w : Version) → w ≡ restored v → (w.deleted ≡ None) ⊎ (w.secret ≡ None)
left_restored v w at =
    subst (λ (z : Version). (z.deleted ≡ None) ⊎ (z.secret ≡ None)) (sym at) (by v.secret refl)
  where
    by : (o : Option Text) → v.secret ≡ o
        → ((if is_none o then v else record v { deleted = None }).deleted ≡ None)
        ⊎ ((if is_none o then v else record v { deleted = None }).secret ≡ None)
    by None none = inr none
    by (Some t) some = inl refl

module _ (a : Asking) (is : a.outcome ≡ step a.broker a.moment a.words a.ask) (q : Text) (m : Key)
    (there : get a.outcome.next.secrets q ≡ Some m) where
  -- a command that changes a secret left it changed
  was_changed : (asked : SecretCommand) (w : Commands a q asked) (f : Key → Key)
      → ((c : Text) (d : Done) → act_on_secrets (spend (clocked a) c) (names_of a.words) w.place asked ≡ Ok d
      → d ≡ plainly nothing (with_key (spend (clocked a) c) w.place.mount w.place.path f))
      → (k : Key) × (m ≡ f k)
  was_changed asked w f changes =
      let s = was_204 a is (on_secret w.place asked) w.means w.answered in
      let name = secret_name w.place.mount w.place.path in
      secret_caller (clocked a) (names_of a.words) w.place asked s.caller s.done
      (acted a is (on_secret w.place asked) w.means s) (λ c e.
      let left = served_left a s ∙ ap (λ (d : Done). d.next.secrets) (changes c s.done e) in
      let x = valued_is (λ u (z : Key). if same u name then f z else z) (clocked a).secrets name m
      (ap (λ (z : Map Key). get z name) (sym left) ∙ ap (get a.outcome.next.secrets) (sym w.name) ∙ there) in
      (x.0, x.2 ∙ ap (λ v. if v then f x.0 else x.0) (same_self name)))

  module _ (n : ℕ) (v : Version) (kept : get m.versions n ≡ Some v) where
    -- and each version that was named is a changed one
    named_changed : (g : Version → Version) (ns : List ℕ) (k : Key) → m ≡ with_changed g ns k → Contains ns n
        → (u : Version) × (v ≡ g u)
    named_changed g ns k at one =
        let among = any_contained (λ k. k == n) ns n one (eq-eqb n n refl) in
        let u = mapped (λ (z : Version). if is_among ns n then g z else z) (get k.versions n) v
        (sym (get-change_versions g (is_among ns) k.versions n)
        ∙ ap (λ (z : Key). get z.versions n) (sym at) ∙ kept) in
        (u.0, u.2 ∙ ap (λ b. if b then g u.0 else u.0) among)

    is_deleted : Deletes a q m.current n → v.deleted ≢ None
    is_deleted (inl (it, current)) =
        let f = soft_deleted (clocked a).clock in
        let k = was_changed SecretCommand.DeleteCurrent it (λ z. with_changed f (z.current ∷ []) z)
        (λ c d e. sym (ok_inj e)) in
        let number = sym (current ∙ ap (λ (z : Key). z.current) k.1) in
        let u = named_changed f ((k.0).current ∷ []) k.0 k.1 (0, omega (arith), number) in
        left_deleted (clocked a).clock u.0 v u.1
    is_deleted (inr (ns, it, one)) =
        let f = soft_deleted (clocked a).clock in
        let k = was_changed (SecretCommand.Delete ns) it (with_changed f ns) (λ c d e. sym (ok_inj e)) in
        let u = named_changed f ns k.0 k.1 one in
        left_deleted (clocked a).clock u.0 v u.1

    as_asked : IsAsAsked a q m.current n v
    as_asked = record {
      deleted = is_deleted;
      taken_back = λ ns it one.
          let k = was_changed (SecretCommand.Undelete ns) it (with_changed restored ns) (λ c d e. sym (ok_inj e)) in
          let u = named_changed restored ns k.0 k.1 one in
          left_restored u.0 v u.1;
      destroyed = λ ns it one.
          let k = was_changed (SecretCommand.Destroy ns) it (with_changed destroyed ns) (λ c d e. sym (ok_inj e)) in
          let u = named_changed destroyed ns k.0 k.1 one in
          ap (λ (z : Version). z.secret) u.1;
    }

-- ---- a read

-- a version whose object is left
left_is : (v : Version) → is_some (object_left v) ≡ true → (object : Text) × (v.deleted ≡ None)
    × (v.secret ≡ Some object)
left_is v h = by v.deleted refl v.secret refl h
  where
    by : (o : Option ℕ) → v.deleted ≡ o → (x : Option Text) → v.secret ≡ x
        → is_some (if is_some o then None else x) ≡ true
        → (object : Text) × (v.deleted ≡ None) × (v.secret ≡ Some object)
    by (Some t) some x is e = absurd (false≢true e)
    by None none None is e = absurd (false≢true e)
    by None none (Some object) is e = (object, none, is)

module _ (told : OperationsDoAsTold) (a : Asking) (is : a.outcome ≡ step a.broker a.moment a.words a.ask) (p : Place)
    (n : ℕ)
    (means : command_of (clocked a).mounts a.ask ≡ Ok (on_secret p (SecretCommand.Read n)))
    (success : a.outcome.response.status ≡ Status.Success) where
  abbrev request : Text
  request = (names_of a.words).request

  it : Served a
  it = was_200 a is (on_secret p (SecretCommand.Read n)) means success

  module _ (k : Key) (there : get (clocked a).secrets (secret_name p.mount p.path) ≡ Some k) (v : Version)
      (kept : get k.versions (asked_number k.current n) ≡ Some v) where
    abbrev number : ℕ
    number = asked_number k.current n

    abbrev found : Found
    found = numbered (entries k.custom_metadata) number v

    number_is : n ≢ 0 → number ≡ n
    number_is some = by (n == 0) refl
      where
        by : (v : Bool) → (n == 0) ≡ v → (if v then k.current else n) ≡ n
        by true zero_ = absurd (some (eqb-true n 0 zero_))
        by false _ = refl

    abbrev told_so : Bool → Option ℕ → VersionObject
    told_so gone time = record { created = v.created; deleted = time; destroyed = gone; version = number }

    reads : (object : Text) → v.deleted ≡ None → v.secret ≡ Some object
        → it.done.answered ≡ reply (version_reply request found) None
        → ReadsVersion a p n
    reads object not_deleted holds answered = record {
      key = k;
      there = there;
      number = number;
      by_number = number_is;
      by_current = λ none. ap (λ m. if m == 0 then k.current else m) none;
      version = v;
      is_kept = kept;
      not_deleted = not_deleted;
      object = object;
      holds = holds;
      shown = version_shown number v;
      is_shown = ap (told_so (is_none v.secret)) not_deleted
          ∙ ap (λ (o : Option Text). told_so (is_none o) None) holds;
      reply = sym (tells_body told a it (version_reply request found) None answered).0
          ∙ ap (λ o. reply_text (plain_reply request
          (secret_object o (entries k.custom_metadata) (version_shown number v))))
          (ap (λ (o : Option ℕ). if is_some o then None else v.secret) not_deleted ∙ holds);
    }

    by_left : (w : Bool) → is_some (object_left v) ≡ w
        → it.done.answered ≡ (if w then reply (version_reply request found) None
        else missing (version_reply request found)) → ReadsVersion a p n
    by_left true left answered = let x = left_is v left in reads x.0 x.1 x.2 answered
    by_left false left answered = absurd (apart (sym success ∙ is_404 a it (version_reply request found) answered))
      where
        apart : ◌≡◌ {A = Status} Status.Success Status.NotFound → ⊥
        apart e = cc

  reads_version : ReadsVersion a p n
  reads_version =
      secret_caller (clocked a) (names_of a.words) p (SecretCommand.Read n) it.caller it.done
      (acted a is (on_secret p (SecretCommand.Read n)) means it) (λ c e.
      let v = ok_step (some_or Refusal.NotFound (secrets.read (spend (clocked a) c) p.mount p.path n)) _ it.done e in
      let o = get (clocked a).secrets (secret_name p.mount p.path) in
      let k = chained (λ (k : Key). option_map (numbered (entries k.custom_metadata) (asked_number k.current n))
      (get k.versions (asked_number k.current n))) o v.0 (some_ok Refusal.NotFound _ v.1) in
      let x = mapped (numbered (entries (k.0).custom_metadata) (asked_number (k.0).current n)) _ v.0 k.2 in
      by_left k.0 k.1 x.0 x.1 (is_some (object_left x.0)) refl
      (ap (λ (d : Done). d.answered) (sym (ok_inj v.2)) ∙ ap (version_answered request) x.2))

-- ---- where what is held comes from

module _ (told : OperationsDoAsTold) (a : Asking) (is : a.outcome ≡ step a.broker a.moment a.words a.ask) (q : Text)
    (n : ℕ) (object : Text) where
  -- the event wrote it, as that version
  abbrev Wrote : Type 0
  Wrote = (asked : SecretWrite) × (w : DidWrite a q asked) × (w.after.current ≡ n) × (asked.object ≡ object)

  abbrev From : Type 0
  From = Wrote ⊎ Holds (clocked a) q n object

  module _ (m : Key) (there : get a.outcome.next.secrets q ≡ Some m) (v : Version)
      (kept : get m.versions n ≡ Some v)
      (holds : v.secret ≡ Some object) where
    -- a version that was there before the write
    from_before : (asked : SecretWrite) (w : DidWrite a q asked) → get w.before.versions n ≡ Some v → From
    from_before asked w was = elim w.was [
      | inl k ↦ inr (record { key = w.before; there = k; version = v; is_kept = was; holds = holds })
      | inr new ↦ absurd (none-some v (sym (new.1.empty n) ∙ was))
    ]

    from_write : (asked : SecretWrite) → DidWrite a q asked → From
    from_write asked w =
        let one : w.after ≡ m = same_Some _ _ (sym w.there ∙ there) in
        let at : get w.after.versions n ≡ Some v = ap (λ (z : Key). get z.versions n) one ∙ kept in
        by_number one at (n == w.after.current) refl
      where
        by_number : w.after ≡ m → get w.after.versions n ≡ Some v → (x : Bool) → (n == w.after.current) ≡ x → From
        by_number one at true same_ =
            let is_number = eqb-true n w.after.current same_ in
            let new = same_Some _ _ (sym w.is.version ∙ ap (get w.after.versions) (sym is_number) ∙ at) in
            inl (asked, w, sym is_number, same_Some _ _ (ap (λ (z : Version). z.secret) new ∙ holds))
        by_number one at false other = by_age (nat_lt w.after.current (n + w.is.kept)) refl (n == 0) refl
          where
            by_age : (x : Bool) → nat_lt w.after.current (n + w.is.kept) ≡ x → (y : Bool) → (n == 0) ≡ y → From
            by_age x young true zero_ = absurd (none-some v (sym (w.is.gone n (inl (eqb-true n 0 zero_))) ∙ at))
            by_age false old false some =
                absurd (none-some v (sym (w.is.gone n (inr (ltb-false w.after.current (n + w.is.kept) old))) ∙ at))
            by_age true young false some =
                from_before asked w (sym (w.is.left n (eqb-false n 0 some) (eqb-false n w.after.current other)
                (ltb-true w.after.current (n + w.is.kept) young)) ∙ at)

    from_unwritten : (k : Key) → get (clocked a).secrets q ≡ Some k → StandsUnwritten a q k m → From
    from_unwritten k was s = elim (found_or_not (get k.versions n)) [
      | inl none ↦ absurd (none-some v (sym (s.none n none) ∙ kept))
      | inr x ↦
          let w = s.versions n x.0 x.1 in
          let one : w.0 ≡ v = same_Some _ _ (sym w.1 ∙ kept) in
          elim w.2.secret [
            | inl same_ ↦ inr (record {
              key = k;
              there = was;
              version = x.0;
              is_kept = x.1;
              holds = sym same_ ∙ ap (λ (z : Version). z.secret) one ∙ holds;
            })
            | inr gone ↦ absurd (none-some object (sym gone.0 ∙ ap (λ (z : Version). z.secret) one ∙ holds))
          ]
    ]

    by_before : (o : Option Key) → get (clocked a).secrets q ≡ o → Moves a q o (Some m) → From
    by_before (Some k) was (inl (asked, w)) = from_write asked (did_write told a is q asked w)
    by_before (Some k) was (inr s) = from_unwritten k was s
    by_before None none (inl (asked, w)) = from_write asked (did_write told a is q asked w)
    by_before None none (inr (it, current, empty)) = absurd (none-some v (sym (empty n) ∙ kept))

  held_from : Holds a.outcome.next q n object → From
  held_from h =
      by_before h.key h.there h.version h.is_kept h.holds (get (clocked a).secrets q) refl
      (subst (Moves a q (get (clocked a).secrets q)) h.there (secrets_moved told a is q))

-- ---- over a history

-- what was written at an event of the rest was written before a later place
later_on : (x : Option Asking) (history : History) (j : ℕ) (q : Text) (n : ℕ) (object : Text)
    → WroteBefore history j q n object
    → WroteBefore (x ∷ history) (suc j) q n object
later_on x history j q n object w = record {
  place = suc w.place;
  earlier = omega (arith, w.earlier);
  asking = w.asking;
  asked_at = w.asked_at;
  asked = w.asked;
  wrote = w.wrote;
  number = w.number;
  is = w.is;
}

given_at : OperationsDoAsTold → (b : Broker) (history : History) (j : ℕ) (x : Asking) (q : Text) (n : ℕ) (object : Text)
    → AreAsked b history → AskedAt history j x → Holds (clocked x) q n object
    → WroteBefore history j q n object ⊎ Holds b q n object
given_at told b [] j x q n object h at holds = absurd (none-some _ at)
given_at told b (None ∷ later) zero x q n object h at holds = absurd (none-some _ at)
given_at told b (None ∷ later) (suc j) x q n object h at holds =
    elim (given_at told b later j x q n object h at holds) [
      | inl w ↦ inl (later_on None later j q n object w)
      | inr first ↦ inr first
    ]
given_at told b (Some y ∷ later) zero x q n object (is, h) at holds =
    inr (subst (λ (z : Broker). Holds z q n object) is.broker
    (subst (λ (z : Asking). Holds z.broker q n object) (sym (same_Some _ _ at))
    (record {
      key = holds.key;
      there = holds.there;
      version = holds.version;
      is_kept = holds.is_kept;
      holds = holds.holds;
    })))
given_at told b (Some y ∷ later) (suc j) x q n object (is, h) at holds =
    elim (given_at told y.outcome.next later j x q n object h at holds) [
      | inl w ↦ inl (later_on (Some y) later j q n object w)
      | inr left ↦ elim (held_from told y (outcome_of b y is) q n object left) [
        | inl (asked, w, number, same_) ↦ inl (record {
          place = 0;
          earlier = omega (arith);
          asking = y;
          asked_at = refl;
          asked = asked;
          wrote = w;
          number = number;
          is = same_;
        })
        | inr before ↦ inr (subst (λ (z : Broker). Holds z q n object) is.broker (record {
          key = before.key;
          there = before.there;
          version = before.version;
          is_kept = before.is_kept;
          holds = before.holds;
        }))
      ]
    ]
  where
    outcome_of : (b : Broker) (y : Asking) → IsAsked b y → y.outcome ≡ step y.broker y.moment y.words y.ask
    outcome_of b y is = is.outcome ∙ ap (λ c. step c y.moment y.words y.ask) (sym is.broker)

pub versions_follow : OperationsDoAsTold → AllVersionsFollow
versions_follow told b history h = record {
  clock = λ i a at. refl;
  written = λ i a q asked at w. did_write told a (asked_at b history i a h at).outcome q asked w;
  set = λ i a q asked at w. did_set a (asked_at b history i a h at).outcome q asked w;
  stand = λ i a q k m at was there.
      subst (λ (o : Option Key). Moves a q o (Some m)) was
      (subst (Moves a q (get (clocked a).secrets q)) there
      (secrets_moved told a (asked_at b history i a h at).outcome q));
  as_asked = λ i a q m n v at there kept. as_asked a (asked_at b history i a h at).outcome q m there n v kept;
  go = λ i a q at was none. by_before a q (get (clocked a).secrets q) refl was
      (subst (Moves a q (get (clocked a).secrets q)) none
      (secrets_moved told a (asked_at b history i a h at).outcome q));
  come = λ i a q m at none there.
      subst (λ (o : Option Key). Moves a q o (Some m)) none
      (subst (Moves a q (get (clocked a).secrets q)) there
      (secrets_moved told a (asked_at b history i a h at).outcome q));
  gone = λ i a q at goes. goes_away a (asked_at b history i a h at).outcome q goes;
  read = λ i a p n at means success. reads_version told a (asked_at b history i a h at).outcome p n means success;
  read_404 = λ i a p n at means is_404. read_404 a (asked_at b history i a h at).outcome p n means is_404;
  given = λ j x q n object at holds. given_at told b history j x q n object h at holds;
}
  where
    by_before : (a : Asking) (q : Text) (o : Option Key) → get (clocked a).secrets q ≡ o
        → get (clocked a).secrets q ≢ None
        → Moves a q o None → SecretGoes a q
    by_before a q None is was moves = absurd (was is)
    by_before a q (Some k) is was moves = moves

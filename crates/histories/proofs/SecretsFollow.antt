-- What becomes of each secret by a request: versions follow the writes, deletions and destructions that were asked for.
use Rattle.std.proofs.Common.{◌≡◌, ◌≢◌, ◌⊎◌, ◌<◌, ◌≤◌, ◌+◌, ◌-◌, ◌==◌, ◌||◌, ◌∷◌, if◌then◌else◌}
use Rattle.broker_model.specs.Words.{le-ltb, not-false, write_is, next_versions, Settings, new_version, version_of}
use Rattle.broker_model.specs.Words.{with_changed}
use Rattle.kv2.specs.Secrets as secrets
use Rattle.histories.specs.Words.{get-empty, ℕ, zero, suc, List, [], Bool, true, false, not, cond, Contains, is_none}
use Rattle.histories.specs.Words.{is_some, nat_eq, Option, Some, None, Ok, option_map, ⊤, starts_with, refl, sym, ◌∙◌}
use Rattle.histories.specs.Words.{ap, subst, inl, inr, arith, eq-eqb, eqb-true, false≢true, lt-ltb, ne_eqb, or_parts}
use Rattle.histories.specs.Words.{none-some, Text, same, same_true, passing, Map, get, keep, change, put, without}
use Rattle.histories.specs.Words.{get-change, get-keep, get-put, get-without, Broker, Mount, Names, names_of, nothing}
use Rattle.histories.specs.Words.{reply, Done, some_or, unless, no_ok, ok_step, Key, Version, spend, Reply, ok_inj}
use Rattle.histories.specs.Words.{Written, secret_name, get-change_versions, nat_cmp, checked, check_and_set}
use Rattle.histories.specs.Words.{described, destroyed, is_among, key_or_new, restored, soft_deleted, versions_kept}
use Rattle.histories.specs.Words.{with_version, disabled, KeySettings, SecretWrite, act, Command, command_of}
use Rattle.histories.specs.Words.{on_cubbyhole, on_issued, on_lease, on_mount, on_policy, on_secret, on_token}
use Rattle.histories.specs.Words.{on_wrapping, SameUnless, OperationsDoAsTold, step, traits, may_change, are_none}
use Rattle.histories.specs.Words.{act_on_mounts, without_kept, Place, act_on_secrets, given_settings, Refusal, Reason}
use Rattle.histories.specs.Words.{Kind, CubbyholeCommand, IssuedCommand, LeaseCommand, MountCommand, PolicyCommand}
use Rattle.histories.specs.Words.{SecretCommand, Asking, clocked, AreKept, Commands, Comes, Deletes, SecretGoes}
use Rattle.histories.specs.Words.{IsWritten, SecretStands, StandsUnwritten, VersionStands, Writes, TokenCommand}
use Rattle.histories.specs.Words.{WrappingCommand}
use Rattle.histories.proofs.EventSecrets.{is_200, is_204, same_or_served, served_left, spent_same}
use Rattle.histories.proofs.Order.{spent, means_at_clock, Served}

-- ---- one secret

-- what became of a secret, if it was there, or is
abbrev pub Moves : Asking → Text → Option Key → Option Key → Type 0
Moves a q (Some k) (Some m) = SecretStands a q k m
Moves a q (Some k) None = SecretGoes a q
Moves a q None (Some m) = Comes a q m
Moves a q None None = ⊤

-- a version that stays as it is
version_self : (a : Asking) (q : Text) (current n : ℕ) (v : Version) → VersionStands a q current n v v
version_self a q current n v = record { created = refl; secret = inl refl; deleted = inl refl }

unwritten_self : (a : Asking) (q : Text) (k : Key) → StandsUnwritten a q k k
unwritten_self a q k = record {
  created = refl;
  current = refl;
  versions = λ n v there. (v, there, version_self a q k.current n v);
  none = λ n none. none;
  settings = inl (refl, refl, refl, refl);
}

same_moves : (a : Asking) (q : Text) (o : Option Key) → Moves a q o o
same_moves a q None = tt
same_moves a q (Some k) = inr (unwritten_self a q k)

-- a number that is tested to be one of these is one
is_one : (ns : List ℕ) (n : ℕ) → is_among ns n ≡ true → Contains ns n
is_one ns n h = let x = passing (λ m. m == n) ns h in subst (Contains ns) (eqb-true x.0 n x.2) x.1

-- where the versions of these numbers are changed so, each stands
changed_stands : (a : Asking) (q : Text) (k : Key) (f : Version → Version) (ns : List ℕ)
    → ((n : ℕ) (v : Version) → Contains ns n → VersionStands a q k.current n v (f v))
    → StandsUnwritten a q k (with_changed f ns k)
changed_stands a q k f ns stands = record {
  created = refl;
  current = refl;
  versions = λ n v there. (
    if is_among ns n then f v else v,
    get-change_versions f (is_among ns) k.versions n ∙ ap (option_map (λ w. if is_among ns n then f w else w)) there,
    elim (is_among ns n) as (λ b. is_among ns n ≡ b → VersionStands a q k.current n v (if b then f v else v)) [
      | true ↦ λ among. stands n v (is_one ns n among)
      | false ↦ λ _. version_self a q k.current n v
    ] refl,
  );
  none = λ n none. get-change_versions f (is_among ns) k.versions n
      ∙ ap (option_map (λ w. if is_among ns n then f w else w)) none;
  settings = inl (refl, refl, refl, refl);
}

deleted_stands : (a : Asking) (q : Text) (current n : ℕ) (v : Version) → Deletes a q current n
    → VersionStands a q current n v (soft_deleted (clocked a).clock v)
deleted_stands a q current n v deletes = by v.deleted refl
  where
    by : (o : Option ℕ) → v.deleted ≡ o
        → VersionStands a q current n v (if is_none o then record v { deleted = Some (clocked a).clock } else v)
    by None none = record { created = refl; secret = inl refl; deleted = inr (inl (none, refl, deletes)) }
    by (Some t) some = version_self a q current n v

restored_stands : (a : Asking) (q : Text) (current n : ℕ) (v : Version) (ns : List ℕ)
    → Commands a q (SecretCommand.Undelete ns)
    → Contains ns n → VersionStands a q current n v (restored v)
restored_stands a q current n v ns asked one = by v.secret refl
  where
    by : (o : Option Text) → v.secret ≡ o
        → VersionStands a q current n v (if is_none o then v else record v { deleted = None })
    by None none = version_self a q current n v
    by (Some t) some = record {
      created = refl;
      secret = inl refl;
      deleted = inr (inr (refl, (λ none. none-some _ (sym none ∙ some)), (ns, asked, one)));
    }

destroyed_stands : (a : Asking) (q : Text) (current n : ℕ) (v : Version) (ns : List ℕ)
    → Commands a q (SecretCommand.Destroy ns)
    → Contains ns n → VersionStands a q current n v (destroyed v)
destroyed_stands a q current n v ns asked one =
    record { created = refl; secret = inr (refl, (ns, asked, one)); deleted = inl refl }

-- ---- one map

module _ (a : Asking) (ks : Map Key) where
  abbrev AllMove : Map Key → Type 0
  AllMove ms = (q : Text) → Moves a q (get ks q) (get ms q)

  all_same : (ms : Map Key) → ms ≡ ks → AllMove ms
  all_same ms is q = subst (λ (m : Map Key). Moves a q (get ks q) (get m q)) (sym is) (same_moves a q (get ks q))

  -- one secret is put there
  one_put : (name : Text) (x : Key) → ((q : Text) → q ≡ name → (o : Option Key) → get ks q ≡ o → Moves a q o (Some x))
      → AllMove (put ks name x)
  one_put name x moves q =
      subst (Moves a q (get ks q)) (sym (get-put ks name x q))
      (elim (same q name) as (λ v. same q name ≡ v → Moves a q (get ks q) (cond v (Some x) (get ks q))) [
        | true ↦ λ at. moves q (same_true q name at) (get ks q) refl
        | false ↦ λ _. same_moves a q (get ks q)
      ] refl)

  -- one is changed
  one_changed : (name : Text) (f : Key → Key) → ((q : Text) → q ≡ name → (k : Key) → StandsUnwritten a q k (f k))
      → AllMove (change ks name f)
  one_changed name f stands q =
      subst (Moves a q (get ks q)) (sym (get-change ks name f q)) (by (get ks q) (same q name) refl)
    where
      by : (o : Option Key) (v : Bool) → same q name ≡ v → Moves a q o (option_map (λ k. if v then f k else k) o)
      by None v at = tt
      by (Some k) true at = inr (stands q (same_true q name at) k)
      by (Some k) false at = inr (unwritten_self a q k)

  -- those that do not pass go
  some_kept : (passes : Text → Bool) → ((q : Text) → passes q ≡ false → SecretGoes a q) → AllMove (keep passes ks)
  some_kept passes goes q =
      subst (Moves a q (get ks q)) (sym (get-keep passes ks q)) (by (get ks q) (passes q) refl)
    where
      by : (o : Option Key) (v : Bool) → passes q ≡ v → Moves a q o (cond v o None)
      by None true at = tt
      by None false at = tt
      by (Some k) true at = inr (unwritten_self a q k)
      by (Some k) false at = goes q at

  one_gone : (name : Text) → ((q : Text) → q ≡ name → SecretGoes a q) → AllMove (without ks name)
  one_gone name goes q =
      subst (Moves a q (get ks q)) (sym (get-without ks name q)) (by (get ks q) (same q name) refl)
    where
      by : (o : Option Key) (v : Bool) → same q name ≡ v → Moves a q o (cond v None o)
      by None true at = tt
      by None false at = tt
      by (Some k) true at = goes q (same_true q name at)
      by (Some k) false at = inr (unwritten_self a q k)

-- ---- a write

-- how many versions are kept
are_kept : (m : Mount) (k : Key) → AreKept k.max_versions m.max_versions (versions_kept m k)
are_kept m k = by (k.max_versions == 0) refl (m.max_versions == 0) refl
  where
    by : (v : Bool) → (k.max_versions == 0) ≡ v → (w : Bool) → (m.max_versions == 0) ≡ w
        → AreKept k.max_versions m.max_versions (if v then (if w then 10 else m.max_versions) else k.max_versions)
    by true own true of_mount = record {
      by_own = λ some. absurd (some (eqb-true _ 0 own));
      by_mount = λ _ some. absurd (some (eqb-true _ 0 of_mount));
      else_ten = λ _ _. refl;
    }
    by true own false of_mount = record {
      by_own = λ some. absurd (some (eqb-true _ 0 own));
      by_mount = λ _ _. refl;
      else_ten = λ _ none. absurd (false≢true (sym of_mount ∙ ap (λ n. n == 0) none));
    }
    by false own w of_mount = record {
      by_own = λ _. refl;
      by_mount = λ none _. absurd (false≢true (sym own ∙ ap (λ n. n == 0) none));
      else_ten = λ none _. absurd (false≢true (sym own ∙ ap (λ n. n == 0) none));
    }

positive : (n : ℕ) → n ≢ 0 → 0 < n
positive zero some = absurd (some refl)
positive (suc n) some = omega (arith)

-- one at least
some_kept_at_all : (own of_mount kept : ℕ) → AreKept own of_mount kept → 0 < kept
some_kept_at_all own of_mount kept r = by (own == 0) refl (of_mount == 0) refl
  where
    by : (v : Bool) → (own == 0) ≡ v → (w : Bool) → (of_mount == 0) ≡ w → 0 < kept
    by true none true nothing_ = omega (arith, r.else_ten (eqb-true own 0 none) (eqb-true of_mount 0 nothing_))
    by true none false some =
        let other : of_mount ≢ 0 = λ zero. false≢true (sym some ∙ ap (λ n. n == 0) zero) in
        omega (arith, r.by_mount (eqb-true own 0 none) other, positive of_mount other)
    by false some w other =
        let its : own ≢ 0 = λ zero. false≢true (sym some ∙ ap (λ n. n == 0) zero) in
        omega (arith, r.by_own its, positive own its)

-- check-and-set that passed
module _ (own of_mount : Bool) (current : ℕ) (cas : Option ℕ) (passed : checked (own || of_mount) current cas ≡ Ok tt)
  where
    set_passed : check_and_set (own || of_mount) current cas ≡ Ok tt
    set_passed = (ok_step (check_and_set (own || of_mount) current cas) _ tt passed).1

    told_is : (n : ℕ) → cas ≡ Some n → n ≡ current
    told_is n some =
        let same_ : unless (n == current) (Refusal.BadRequest Reason.CheckAndSetFailed) ≡ Ok tt =
        by (own || of_mount) (ap (check_and_set (own || of_mount) current) (sym some) ∙ set_passed) in
        by_test (n == current) refl same_
      where
        by : (v : Bool) → check_and_set v current (Some n) ≡ Ok tt
            → unless (n == current) (Refusal.BadRequest Reason.CheckAndSetFailed) ≡ Ok tt
        by true e = e
        by false e = e

        by_test : (v : Bool) → (n == current) ≡ v → unless v (Refusal.BadRequest Reason.CheckAndSetFailed) ≡ Ok tt
            → n ≡ current
        by_test true at e = eqb-true n current at
        by_test false at e = no_ok e

    untold_is : cas ≡ None → (own ≡ false) × (of_mount ≡ false)
    untold_is none =
        or_parts own of_mount (by (own || of_mount) refl (ap (check_and_set (own || of_mount) current) (sym none)
        ∙ set_passed))
      where
        by : (v : Bool) → (own || of_mount) ≡ v → check_and_set v current None ≡ Ok tt → (own || of_mount) ≡ false
        by true at e = no_ok e
        by false at e = at

-- what a write that passed left
module _ (now : ℕ) (m : Mount) (asked : SecretWrite) (o : Option Key)
    (passed : checked ((key_or_new now o).cas_required || m.cas_required) (key_or_new now o).current asked.cas
    ≡ Ok tt) where
  abbrev k : Key
  k = key_or_new now o

  abbrev limit : ℕ
  limit = versions_kept m k

  abbrev after : Key
  after = with_version now limit asked.object k

  abbrev fresh : Option Version
  fresh = Some (new_version now asked.object)

  positive_limit : 0 < limit
  positive_limit = some_kept_at_all k.max_versions m.max_versions limit (are_kept m k)

  version_is : get after.versions (k.current + 1)
      ≡ Some (record { created = now; deleted = None; secret = Some asked.object })
  version_is =
      next_versions now limit asked.object o (k.current + 1)
      ∙ ap (λ v. cond v (cond ((k.current + 1) == (k.current + 1)) fresh (version_of o (k.current + 1))) None)
      (lt-ltb (k.current + 1 - limit) (k.current + 1) (omega (arith, positive_limit)))
      ∙ ap (λ v. cond v fresh (version_of o (k.current + 1))) (eq-eqb (k.current + 1) (k.current + 1) refl)

  gone : (n : ℕ) → (n ≡ 0) ⊎ (n + limit ≤ k.current + 1) → get after.versions n ≡ None
  gone n low = next_versions now limit asked.object o n
      ∙ ap (λ v. cond v (cond (n == (k.current + 1)) fresh (version_of o n)) None)
      (le-ltb (k.current + 1 - limit) n (below low))
    where
      below : (n ≡ 0) ⊎ (n + limit ≤ k.current + 1) → n ≤ k.current + 1 - limit
      below (inl none) = omega (arith, none)
      below (inr low_) = omega (arith, low_)

  old_is : (n : ℕ) → get k.versions n ≡ version_of o n
  old_is n = by o
    where
      by : (x : Option Key) → get (key_or_new now x).versions n ≡ version_of x n
      by None = get-empty nat_cmp n
      by (Some y) = refl

  left : (n : ℕ) → n ≢ 0 → n ≢ k.current + 1 → k.current + 1 < n + limit
      → get after.versions n ≡ get k.versions n
  left n some other high = next_versions now limit asked.object o n
      ∙ ap (λ v. cond v (cond (n == (k.current + 1)) fresh (version_of o n)) None)
      (lt-ltb (k.current + 1 - limit) n (omega (arith, high, positive n some)))
      ∙ ap (λ v. cond v fresh (version_of o n)) (ne_eqb n (k.current + 1) other) ∙ sym (old_is n)

  pub is_written : IsWritten now m asked k after
  is_written = record {
    told = told_is k.cas_required m.cas_required k.current asked.cas passed;
    untold = untold_is k.cas_required m.cas_required k.current asked.cas passed;
    number = refl;
    version = version_is;
    kept = limit;
    are_kept = are_kept m k;
    gone = gone;
    left = left;
    created = refl;
    updated = refl;
    cas_required = refl;
    max_versions = refl;
    custom_metadata = refl;
  }

-- ---- by a command

-- what is in a list of one
only : (m n : ℕ) → Contains (m ∷ []) n → n ≡ m
only m n (zero, low, is) = sym is
only m n (suc i, low, is) = absurd (omega (arith, low))

-- settings that a secret is given
described_stands : (a : Asking) (q : Text) (now : ℕ) (settings : Settings) (k : Key) (asked : KeySettings)
    → Commands a q (SecretCommand.SetMetadata asked) → StandsUnwritten a q k (described now settings k)
described_stands a q now settings k asked it = record {
  created = refl;
  current = refl;
  versions = λ n v there. (v, there, version_self a q k.current n v);
  none = λ n none. none;
  settings = inr (asked, it);
}

module _ (a : Asking) (s : Served a) (means : command_of (clocked a).mounts a.ask ≡ Ok s.command) where
  abbrev now : Broker
  now = clocked a

  abbrev names : Names
  names = names_of a.words

  -- what is asked of a secret, answered by a 204
  commands : (p : Place) (k : SecretCommand) (q : Text) → s.command ≡ on_secret p k → s.done.answered ≡ nothing
      → q ≡ secret_name p.mount p.path → Commands a q k
  commands p k q is answered at =
      record { place = p; means = means ∙ ap Ok is; name = at; answered = is_204 a s answered }

  writes : (p : Place) (asked : SecretWrite) (q : Text) (r : Reply) (made : Option Text)
      → s.command ≡ on_secret p (SecretCommand.Write asked)
      → s.done.answered ≡ reply r made → q ≡ secret_name p.mount p.path → Writes a q asked
  writes p asked q r made is answered at =
      record { place = p; means = means ∙ ap Ok is; name = at; answered = is_200 a s r made answered }

  abbrev Moved : Done → Type 0
  Moved d = AllMove a now.secrets d.next.secrets

  -- a command of the caller on a secret
  secrets_move : (c : Text) (p : Place) (k : SecretCommand) → s.command ≡ on_secret p k
      → act_on_secrets (spend now c) names p k ≡ Ok s.done → Moved s.done
  secrets_move c p SecretCommand.ShowSettings is e =
      let m = ok_step (some_or Refusal.NotFound (secrets.config (spend now c) p.mount)) _ s.done e in
      all_same a now.secrets _ (ap (λ (d : Done). d.next.secrets) (sym (ok_inj m.2)))
  secrets_move c p (SecretCommand.SetSettings asked) is e =
      all_same a now.secrets _ (ap (λ (d : Done). d.next.secrets) (sym (ok_inj e)))
  secrets_move c p (SecretCommand.Read n) is e =
      let v = ok_step (some_or Refusal.NotFound (secrets.read (spend now c) p.mount p.path n)) _ s.done e in
      all_same a now.secrets _ (ap (λ (d : Done). d.next.secrets) (sym (ok_inj v.2)))
  secrets_move c p SecretCommand.ShowMetadata is e =
      let m = ok_step (some_or Refusal.NotFound (secrets.metadata (spend now c) p.mount p.path)) _ s.done e in
      all_same a now.secrets _ (ap (λ (d : Done). d.next.secrets) (sym (ok_inj m.2)))
  secrets_move c p SecretCommand.List is e =
      let some =
      ok_step (unless (not (are_none (secrets.list (spend now c) p.mount p.path))) Refusal.NotFound) _ s.done e in
      all_same a now.secrets _ (ap (λ (d : Done). d.next.secrets) (sym (ok_inj some.2)))
  secrets_move c p (SecretCommand.Write asked) is e =
      let w = ok_step (secrets.write (spend now c) p.mount p.path asked.cas asked.object) _ s.done e in
      let x = write_is (spend now c) p.mount p.path asked.cas asked.object w.0 w.1 in
      let answered = ap (λ (d : Done). d.answered) (sym (ok_inj w.2)) in
      subst (AllMove a now.secrets) (ap (λ (z : Written). z.next.secrets) (sym x.3)
      ∙ ap (λ (d : Done). d.next.secrets) (ok_inj w.2))
      (one_put a now.secrets (secret_name p.mount p.path) _ (λ q at o there.
      let it = writes p asked q _ _ is answered at in by _ q o (asked, it)))
    where
      by : (x : Key) (q : Text) (o : Option Key) → ((asked : SecretWrite) × Writes a q asked) → Moves a q o (Some x)
      by x q None it = inl it
      by x q (Some k) it = inl it
  secrets_move c p SecretCommand.DeleteCurrent is e =
      let answered = ap (λ (d : Done). d.answered) (sym (ok_inj e)) in
      subst Moved (ok_inj e)
      (one_changed a now.secrets (secret_name p.mount p.path)
      (λ k. with_changed (soft_deleted now.clock) (k.current ∷ []) k) (λ q at k.
      changed_stands a q k (soft_deleted now.clock) (k.current ∷ []) (λ n v one.
      deleted_stands a q k.current n v (inl (
        commands p SecretCommand.DeleteCurrent q is answered at,
        only k.current n
            one,
      )))))
  secrets_move c p (SecretCommand.Delete ns) is e =
      let answered = ap (λ (d : Done). d.answered) (sym (ok_inj e)) in
      subst Moved (ok_inj e)
      (one_changed a now.secrets (secret_name p.mount p.path) (with_changed (soft_deleted now.clock) ns) (λ q at k.
      changed_stands a q k (soft_deleted now.clock) ns (λ n v one.
      deleted_stands a q k.current n v (inr (ns, commands p (SecretCommand.Delete ns) q is answered at, one)))))
  secrets_move c p (SecretCommand.Undelete ns) is e =
      let answered = ap (λ (d : Done). d.answered) (sym (ok_inj e)) in
      subst Moved (ok_inj e)
      (one_changed a now.secrets (secret_name p.mount p.path) (with_changed restored ns) (λ q at k.
      changed_stands a q k restored ns (λ n v one.
      restored_stands a q k.current n v ns (commands p (SecretCommand.Undelete ns) q is answered at) one)))
  secrets_move c p (SecretCommand.Destroy ns) is e =
      let answered = ap (λ (d : Done). d.answered) (sym (ok_inj e)) in
      subst Moved (ok_inj e)
      (one_changed a now.secrets (secret_name p.mount p.path) (with_changed destroyed ns) (λ q at k.
      changed_stands a q k destroyed ns (λ n v one.
      destroyed_stands a q k.current n v ns (commands p (SecretCommand.Destroy ns) q is answered at) one)))
  secrets_move c p (SecretCommand.SetMetadata asked) is e =
      let answered = ap (λ (d : Done). d.answered) (sym (ok_inj e)) in
      let name = secret_name p.mount p.path in
      subst Moved (ok_inj e)
      (one_put a now.secrets name
      (described now.clock (given_settings asked) (key_or_new now.clock (get now.secrets name)))
      (λ q at o there.
      subst (λ z. Moves a q o (Some (described now.clock (given_settings asked) (key_or_new now.clock z))))
      (sym there ∙ ap (get now.secrets) at)
      (by q o (commands p (SecretCommand.SetMetadata asked) q is answered at))))
    where
      by : (q : Text) (o : Option Key) → Commands a q (SecretCommand.SetMetadata asked)
          → Moves a q o (Some (described now.clock (given_settings asked) (key_or_new now.clock o)))
      by q None it = inr ((asked, it), refl, λ n. get-empty nat_cmp n)
      by q (Some k) it = inr (described_stands a q now.clock (given_settings asked) k asked it)
  secrets_move c p SecretCommand.Remove is e =
      let answered = ap (λ (d : Done). d.answered) (sym (ok_inj e)) in
      subst Moved (ok_inj e)
      (one_gone a now.secrets (secret_name p.mount p.path) (λ q at. inl
      (commands p SecretCommand.Remove q is answered at)))

  -- the disabling of a mount
  disabling_moves : (c name : Text) → s.command ≡ on_mount name MountCommand.Disable
      → act_on_mounts (spend now c) names name MountCommand.Disable ≡ Ok s.done
      → Moved s.done
  disabling_moves c name is e =
      let next = ok_step (disabled now.mounts name) _ s.done e in
      let answered = ap (λ (d : Done). d.answered) (sym (ok_inj next.2)) in
      subst Moved (ok_inj next.2) (by next.0 (get now.mounts name) refl answered)
    where
      by : (next : Map Mount) (o : Option Mount) → get now.mounts name ≡ o → s.done.answered ≡ nothing
          → AllMove a now.secrets (if is_some o then without_kept (record (spend now c) { mounts = next }) name
          else spend now c).secrets
      by next None none answered = all_same a now.secrets now.secrets refl
      by next (Some m) some answered =
          some_kept a now.secrets (λ q. not (starts_with nat_eq q (secret_name name []))) (λ q goes.
          inr (record {
            name = name;
            below = not-false _ goes;
            means = means ∙ ap Ok is;
            there = λ none. none-some _ (sym none ∙ some);
            answered = is_204 a s answered;
          }))

  -- ---- whatever the command is

  -- which commands may change secrets
  touches : (command : Command) → may_change (traits command).changes Kind.KvKey ≡ true
      → ((p : Place) × (k : SecretCommand) × (command ≡ on_secret p k)) ⊎
      ((name : Text) × (command ≡ on_mount name MountCommand.Disable))
  touches (on_secret p k) e = inl (p, k, refl)
  touches (on_mount name MountCommand.Disable) e = inr (name, refl)
  touches (on_mount name _) e = absurd (false≢true e)
  touches (on_cubbyhole path (CubbyholeCommand.Write full)) e = absurd (false≢true e)
  touches (on_cubbyhole path _) e = absurd (false≢true e)
  touches (on_token (TokenCommand.LookUp t)) e = absurd (false≢true e)
  touches (on_token _) e = absurd (false≢true e)
  touches (on_policy name (PolicyCommand.Set text)) e = absurd (false≢true e)
  touches (on_policy name _) e = absurd (false≢true e)
  touches (on_lease prefix (LeaseCommand.LookUp id)) e = absurd (false≢true e)
  touches (on_lease prefix _) e = absurd (false≢true e)
  touches (on_issued p IssuedCommand.Issue) e = absurd (false≢true e)
  touches (on_issued p _) e = absurd (false≢true e)
  touches (on_wrapping (WrappingCommand.Unwrap t)) e = absurd (false≢true e)
  touches (on_wrapping _) e = absurd (false≢true e)

  abbrev Acted : Command → Option Text → Type 0
  Acted command caller = act (spent now caller) caller names command ≡ Ok s.done

  by_caller : (p : Place) (k : SecretCommand) → s.command ≡ on_secret p k → (caller : Option Text)
      → Acted (on_secret p k) caller
      → Moved s.done
  by_caller p k is None e = no_ok e
  by_caller p k is (Some c) e = secrets_move c p k is e

  disabled_by : (name : Text) → s.command ≡ on_mount name MountCommand.Disable → (caller : Option Text)
      → Acted (on_mount name MountCommand.Disable) caller → Moved s.done
  disabled_by name is None e = no_ok e
  disabled_by name is (Some c) e = disabling_moves c name is e

  served_moves : OperationsDoAsTold → Moved s.done
  served_moves told =
      elim (may_change (traits s.command).changes Kind.KvKey) as
      (λ v. may_change (traits s.command).changes Kind.KvKey ≡ v
      → SameUnless v (spent now s.caller).secrets s.done.next.secrets → Moved s.done) [
        | true ↦ λ may _. elim (touches s.command may) [
          | inl (p, k, is) ↦ by_caller p k is s.caller (subst (λ (x : Command). Acted x s.caller) is s.acted)
          | inr (name, is) ↦ disabled_by name is s.caller (subst (λ (x : Command). Acted x s.caller) is s.acted)
        ]
        | false ↦ λ _ same_. all_same a now.secrets s.done.next.secrets (same_ ∙ spent_same now s.caller)
      ] refl (told (spent now s.caller) s.caller a.words s.command s.done s.acted).keeps.secrets

-- what becomes of all secrets by a request
pub secrets_moved : OperationsDoAsTold → (a : Asking) → a.outcome ≡ step a.broker a.moment a.words a.ask
    → AllMove a (clocked a).secrets a.outcome.next.secrets
secrets_moved told a is = elim (same_or_served a is) [
  | inl same_ ↦ all_same a (clocked a).secrets a.outcome.next.secrets same_
  | inr s ↦ subst (AllMove a (clocked a).secrets) (sym (served_left a s))
      (served_moves a s (means_at_clock a s.caller s.command s.means) told)
]

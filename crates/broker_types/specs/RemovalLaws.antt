-- Laws of revocation and expiry: a sound broker stays sound, and evolves.
use Rattle.std.proofs.Common.{◌≡◌, ◌≢◌, ◌≤◌, ℕ, max, Bool, nat_lt, false, not, Option, Some, None, refl, sym, ◌∙◌, ap}
use Rattle.broker_types.specs.Words.{option_map_or, subst, max-le, Text, get, keep, greatest_moment, Token, Lease}
use Rattle.broker_types.specs.Words.{is_under, orphaned_by, with_live_leases, Broker, waiting_ends, at_moment, revoke}
use Rattle.broker_types.specs.Words.{revoke_orphan, Forms, SoundIdentifiers, Sound, IsSoundToken, Evolves, HasEnded}
use Rattle.broker_types.specs.Lineage as lineage
use Rattle.broker_types.specs.FewerLaws.{IsLess, AreFewer, WaitFewer, fewer_evolves, fewer_ended, edited_sound}
use Rattle.broker_types.specs.FewerLaws.{fewer_sound, tree_of}
use Rattle.broker_types.specs.Laws.{IsTree}
use Rattle.broker_types.specs.SearchLaws.{kept_get}
use Rattle.broker_types.specs.TreeLaws.{orphaned_is, alive_is, revoke_tree, orphan_tree, alive_tree}

-- ---- what each removal leaves

module _ (b : Broker) where
  revoke_fewer : (t : Text) → AreFewer b.tokens (lineage.without_descendants b.tokens t)
  revoke_fewer t q y e = (
    y,
    (kept_get (λ q. not (is_under b.tokens q t)) b.tokens q y e).0,
    record { same_accessor = refl; fewer_leases = λ _ _ f. f },
  )

  orphan_fewer : (t : Text) → AreFewer b.tokens (lineage.without_parent b.tokens t)
  orphan_fewer t q y e = let x = orphaned_is b.tokens t q y e in
      (x.0, x.1, subst (IsLess x.0) (sym x.2) (record { same_accessor = refl; fewer_leases = λ _ _ f. f }))

  abbrev is_live : ℕ → Token → Text → Bool
  is_live now x lease_id = option_map_or (λ (l : Lease). nat_lt now l.ends) (get x.leases lease_id) false

  live_less : (now : ℕ) (x : Token) (lease_id : Text) (l : Lease)
      → get (with_live_leases now x).leases lease_id ≡ Some l → get x.leases lease_id ≡ Some l
  live_less now x lease_id l e = (kept_get (is_live now x) x.leases lease_id l e).0

  alive_fewer : (now : ℕ) → AreFewer b.tokens (lineage.alive_at now b.tokens)
  alive_fewer now q y e = let x = alive_is now b.tokens q y e in
      (x.0, x.1, subst (IsLess x.0) (sym x.3) (record { same_accessor = refl; fewer_leases = live_less now x.0 }))

  abbrev still_waits : ℕ → Text → Bool
  still_waits now t = option_map_or (λ w. nat_lt now (waiting_ends w)) (get b.waiting t) false

  wait_fewer : (now : ℕ) → WaitFewer b.waiting (keep (still_waits now) b.waiting)
  wait_fewer now q w e = (kept_get (still_waits now) b.waiting q w e).0

  -- revocation lets a broker evolve
  pub revoke_evolves : (t : Text) → Evolves b (revoke b t)
  revoke_evolves t = fewer_evolves b b.clock (lineage.without_descendants b.tokens t) b.waiting (revoke_fewer t)
      (λ q w e. e)

  -- so does revocation of one token
  pub revoke_orphan_evolves : (t : Text) → Evolves b (revoke_orphan b t)
  revoke_orphan_evolves t =
      fewer_evolves b b.clock (lineage.without_parent b.tokens t) b.waiting (orphan_fewer t) (λ q w e. e)

  -- and expiry
  pub at_moment_evolves : (moment : ℕ) → Evolves b (at_moment b moment)
  at_moment_evolves moment =
      let now = max b.clock moment in
      fewer_evolves b now (lineage.alive_at now b.tokens) (keep (still_waits now) b.waiting) (alive_fewer now)
      (wait_fewer now)

-- ---- what has ended

module _ (b : Broker) (sound : SoundIdentifiers b) where
  -- a token that revocation removes has ended
  pub revoke_ends : (t q : Text) → get b.tokens q ≢ None → get (revoke b t).tokens q ≡ None → HasEnded (revoke b t) q
  revoke_ends t q stood gone =
      fewer_ended b sound b.clock (lineage.without_descendants b.tokens t) b.waiting q (λ q w e. e) stood gone

  -- so has one that is revoked alone
  pub revoke_orphan_ends : (t q : Text) → get b.tokens q ≢ None → get (revoke_orphan b t).tokens q ≡ None
      → HasEnded (revoke_orphan b t) q
  revoke_orphan_ends t q stood gone =
      fewer_ended b sound b.clock (lineage.without_parent b.tokens t) b.waiting q (λ q w e. e) stood gone

  -- and one that expired
  pub at_moment_ends : (moment : ℕ) (q : Text) → get b.tokens q ≢ None → get (at_moment b moment).tokens q ≡ None
      → HasEnded (at_moment b moment) q
  at_moment_ends moment q stood gone =
      let now = max b.clock moment in
      fewer_ended b sound now (lineage.alive_at now b.tokens) (keep (still_waits b now) b.waiting) q
      (wait_fewer b now) stood gone

-- ---- soundness

module _ (forms : Forms) (who : Option Text) (b : Broker) (sound : Sound forms who b) where
  tree : IsTree b.tokens
  tree = tree_of forms who who b sound

  -- revocation leaves a sound broker sound
  pub revoke_sound : (t : Text) → Sound forms who (revoke b t)
  revoke_sound t =
      fewer_sound forms who who b sound b.clock (lineage.without_descendants b.tokens t) b.waiting
      sound.clock (revoke_tree b.tokens t tree) (revoke_fewer b t) (λ q w e. e)
      (λ q y e. sound.tokens.each q y (kept_get (λ q. not (is_under b.tokens q t)) b.tokens q y e).0)
      (λ q y e. sound.unspent q y (kept_get (λ q. not (is_under b.tokens q t)) b.tokens q y e).0)

  orphaned_sound : (t q : Text) (x : Token) → IsSoundToken forms q x → IsSoundToken forms q (orphaned_by t x)
  orphaned_sound t q x s =
      edited_sound forms q x s (orphaned_by t x).parent x.ends x.uses_left x.cubbyhole x.leases
      s.ends s.uses_left s.cubbyhole s.leases

  -- so does revocation of one token
  pub revoke_orphan_sound : (t : Text) → Sound forms who (revoke_orphan b t)
  revoke_orphan_sound t =
      fewer_sound forms who who b sound b.clock (lineage.without_parent b.tokens t) b.waiting
      sound.clock (orphan_tree b.tokens t tree) (orphan_fewer b t) (λ q w e. e)
      (λ q y e. let x = orphaned_is b.tokens t q y e in
      subst (IsSoundToken forms q) (sym x.2) (orphaned_sound t q x.0 (sound.tokens.each q x.0 x.1)))
      (λ q y e zero. let x = orphaned_is b.tokens t q y e in
      sound.unspent q x.0 x.1 (ap (λ (z : Token). z.uses_left) (sym x.2) ∙ zero))

  live_sound : (now : ℕ) (q : Text) (x : Token) → IsSoundToken forms q x → IsSoundToken forms q (with_live_leases now x)
  live_sound now q x s =
      edited_sound forms q x s x.parent x.ends x.uses_left x.cubbyhole (with_live_leases now x).leases
      s.ends s.uses_left s.cubbyhole (λ lease_id l e. s.leases lease_id l (live_less b now x lease_id l e))

  -- and expiry
  pub at_moment_sound : (moment : ℕ) → moment ≤ greatest_moment → Sound forms who (at_moment b moment)
  at_moment_sound moment within =
      let now = max b.clock moment in
      fewer_sound forms who who b sound now (lineage.alive_at now b.tokens) (keep (still_waits b now) b.waiting)
      (max-le sound.clock within) (alive_tree now b.tokens tree) (alive_fewer b now) (wait_fewer b now)
      (λ q y e. let x = alive_is now b.tokens q y e in
      subst (IsSoundToken forms q) (sym x.3) (live_sound now q x.0 (sound.tokens.each q x.0 x.1)))
      (λ q y e zero. let x = alive_is now b.tokens q y e in
      sound.unspent q x.0 x.1 (ap (λ (z : Token). z.uses_left) (sym x.3) ∙ zero))

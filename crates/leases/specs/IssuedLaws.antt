-- A lease made under new identifiers leaves a sound broker sound, and lets it evolve.
use Rattle.std.proofs.Common.{◌≡◌, ◌≢◌, ◌≤◌, ◌+◌, ◌-◌, ◌++◌, ◌==◌, if◌then◌else◌, ℕ, min, drop, length, codes, true, ap}
use Rattle.records.specs.Words.{false, Option, Some, None, option_map, option_and_then, arith, refl, sym, ◌∙◌, subst}
use Rattle.records.specs.Words.{inl, inr, length-append, le_refl, le_trans, min-le_left, min-le_right, add-le-add}
use Rattle.records.specs.Words.{add-sub_cancel, drop-append_seam, nat_tests, none-some, Text, same, longest_ttl, Map}
use Rattle.records.specs.Words.{get, put, is_name, is_mount_name, Token, Lease, Broker, Role, Evolves, IsNew, id-length}
use Rattle.records.specs.Words.{token, accessor, lease, credential, wrapping_token, wrapping_accessor, lease_of}
use Rattle.records.specs.Words.{token_identifier, lease_identifier, Forms, Sound, IsSoundLease, IsIdentifier, IsMoment}
use Rattle.records.specs.Words.{valued_is, HasTwoMore, still_marked, sound_with_two, mapped, put_is, same_true}
use Rattle.leases.specs.Leases.{with_leases, or_if_zero}
use Rattle.leases.specs.Laws.{issued, MayBeIssued, IsBounded}
use Rattle.leases.specs.Roles.{lease_id, new_lease, first_ttl, longest}
use Rattle.leases.specs.SoundLaws.{lease_of-edited, at_token, sound_with}

-- ---- the leases that tokens have then

module _ (b : Broker) (t id : Text) (l : Lease) where
  abbrev after : Broker
  after = issued b t id l

  abbrev edit : Text → Map Lease → Map Lease
  edit u m = if same u t then put m id l else m

  -- a lease of a token's leases is the new one, or it was there
  in_leases : (u q : Text) (m : Map Lease) (k : Lease) (P : Type 0) → get (edit u m) q ≡ Some k
      → (u ≡ t → q ≡ id → k ≡ l → P) → (get m q ≡ Some k → P) → P
  in_leases u q m k P is first rest =
      elim (same u t) as (λ v. same u t ≡ v → get (if v then put m id l else m) q ≡ Some k → P) [
        | true ↦ λ here e. put_is m id l q k P e (first (same_true u t here)) rest
        | false ↦ λ _ e. rest e
      ] refl is

  -- a lease of a token is the new one, or it was there
  pub lease_cases : (u q : Text) (k : Lease) (P : Type 0) → lease_of after u q ≡ Some k → (u ≡ t → q ≡ id → k ≡ l → P)
      → (lease_of b u q ≡ Some k → P) → P
  lease_cases u q k P is first rest =
      let x = there (get b.tokens u) (sym (lease_of-edited b edit u q) ∙ is) in
      in_leases u q x.0.leases k P x.2 first
      (λ before. rest (ap (option_and_then (λ (x : Token). get x.leases q)) x.1 ∙ before))
    where
      there : (o : Option Token) → option_and_then (λ (x : Token). get (edit u x.leases) q) o ≡ Some k
          → (x : Token) × (o ≡ Some x) × (get (edit u x.leases) q ≡ Some k)
      there None h = absurd (none-some _ h)
      there (Some x) h = (x, refl, h)

  -- a lease made under new identifiers lets a broker evolve
  pub issue_evolves : IsNew b (lease_identifier id) → IsNew b l.credential → Evolves b after
  issue_evolves new_id new_credential = record {
    used = still_marked b (lease_identifier id) l.credential;
    tokens = λ u y e.
        let x = valued_is (λ t x. with_leases (edit t x.leases) x) b.tokens u y e in
        inl (λ none. absurd (none-some _ (sym none ∙ x.1)));
    leases = λ u q k e.
        lease_cases u q k _ e
        (λ ut qid kl. inr (
          subst (λ z. IsNew b (lease_identifier z)) (sym qid) new_id,
          subst (λ (z : Lease). IsNew b z.credential) (sym kl) new_credential,
        ))
        (λ before. inl (k, before, refl));
    wrapping_tokens = λ u w e. inl (λ none. absurd (none-some _ (sym none ∙ e)));
    waiting = λ u w e. inl (u, w, e, refl, refl);
  }

  module _ (forms : Forms) (who : Option Text) (sound : Sound forms who b) (made : MayBeIssued b t id l)
      (is_identifier : IsIdentifier (lease_identifier id)) where
    -- an identifier is that of the new lease, its credential, or it was there
    filled : HasTwoMore b (lease t id) (lease_identifier id) (credential t id) l.credential after
    filled (token u) i e = inl (sym (at_token b edit (λ _. token_identifier u) (λ x m. refl) u) ∙ e)
    filled (accessor u) i e = inl (sym (at_token b edit (λ (x : Token). x.accessor) (λ x m. refl) u) ∙ e)
    filled (lease u q) i e =
        let k = mapped (λ (k : Lease). lease_identifier q) (lease_of after u q) i e in
        lease_cases u q k.0 _ k.1
        (λ ut qid kl. inr (inl ((λ j. lease (ut j) (qid j)), k.2 ∙ ap lease_identifier qid)))
        (λ before. inl (ap (option_map (λ (k : Lease). lease_identifier q)) before ∙ ap Some (sym k.2)))
    filled (credential u q) i e =
        let k = mapped (λ (k : Lease). k.credential) (lease_of after u q) i e in
        lease_cases u q k.0 _ k.1
        (λ ut qid kl. inr (inr ((λ j. credential (ut j) (qid j)), k.2 ∙ ap (λ (z : Lease). z.credential) kl)))
        (λ before. inl (ap (option_map (λ (k : Lease). k.credential)) before ∙ ap Some (sym k.2)))
    filled (wrapping_token u) i e = inl e
    filled (wrapping_accessor u) i e = inl e

    -- and leaves a sound one sound
    pub issue_sound : Sound forms who after
    issue_sound =
        sound_with b edit forms who sound
        (λ u q x k is e. in_leases u q x.leases k (IsSoundLease q k) e
        (λ ut qid kl. subst (λ z. IsSoundLease z k) (sym qid) (subst (IsSoundLease id) (sym kl) made.sound))
        (λ before. (sound.tokens.each u x is).leases q k before)) after refl
        (sound_with_two b (lease_identifier id) l.credential (lease t id) (credential t id) after refl
        sound.identifiers made.id_is_new made.credential_is_new made.differ filled is_identifier
        made.sound.credential
        (λ u w e. still_marked b (lease_identifier id) l.credential w.origin
        (sound.identifiers.origins_used u w e)))

-- ---- the identifier of a lease

-- what an id ends with is its identifier
pub identifier_of : (front i : Text) → IsIdentifier i → lease_identifier (front ++ i) ≡ i
identifier_of front i is =
    let long : length i ≡ 36 = ap length is.2 ∙ id-length is.0 in
    let shorter : length (front ++ i) - 36 ≡ length front =
    ap (λ n. n - 36) (length-append front i ∙ ap (λ n. length front + n) long) ∙ add-sub_cancel (length front) 36 in
    ap (λ n. drop n (front ++ i)) shorter ∙ drop-append_seam front i

-- so that of a sound lease is one
pub identifier_in : (id : Text) (l : Lease) → IsSoundLease id l → IsIdentifier (lease_identifier id)
identifier_in id l s =
    let n = s.name in
    subst IsIdentifier (sym (ap lease_identifier n.parts
    ∙ identifier_of (n.mount ++ codes "/creds/" ++ n.role ++ codes "/") n.identifier n.is_identifier)) n.is_identifier

-- that of a lease of a role
pub identifier_of_id : (mount name identifier : Text) → IsIdentifier identifier
    → lease_identifier (lease_id mount name identifier) ≡ identifier
identifier_of_id mount name identifier is =
    identifier_of (mount ++ codes "/creds/" ++ name ++ codes "/") identifier is

-- ---- the lease of a role

-- no lease is made for longer than it may last
pub ttl_bound : (r : Role) → first_ttl r ≤ longest r
ttl_bound r = min-le_right _ (longest r)

-- and none lasts longer than 32 days
pub longest_bound : (r : Role) → longest r ≤ longest_ttl
longest_bound r = min-le_right _ longest_ttl

-- nor longer than a role with a longest time says
role_bound : (n : ℕ) → n ≢ 0 → min (or_if_zero n longest_ttl) longest_ttl ≤ n
role_bound n not_zero = subst (λ b. min (if b then longest_ttl else n) longest_ttl ≤ n) (sym is_none)
    (min-le_left n longest_ttl)
  where
    is_none : (n == 0) ≡ false
    is_none = grind (arith, nat_tests)

-- so a lease that is made for a role is bounded by it
pub new_lease_bounded : (now : ℕ) (r : Role) (credential : Text) → IsBounded r (new_lease now r credential)
new_lease_bounded now r other = record {
  ends = add-le-add (le_refl now) (ttl_bound r);
  role = role_bound r.max_ttl;
  days = longest_bound r;
}

-- the lease of a role is sound
pub new_lease_sound : (mount name identifier other : Text) (now : ℕ) (r : Role) → is_mount_name mount ≡ true
    → is_name name ≡ true → IsIdentifier identifier → IsIdentifier other → IsMoment now
    → IsSoundLease (lease_id mount name identifier) (new_lease now r other)
new_lease_sound mount name identifier other now r is_mount named is_identifier is_other moment = record {
  name = record {
    mount = mount;
    role = name;
    identifier = identifier;
    mount_name = is_mount;
    role_name = named;
    is_identifier = is_identifier;
    parts = refl;
  };
  issued = moment;
  ttl = ttl_bound r;
  max_ttl = longest_bound r;
  ends = add-le-add moment (le_trans (ttl_bound r) (longest_bound r));
  renewed = λ m e. absurd (none-some _ e);
  credential = is_other;
}

-- The rows of leases after one is made or renewed.
use Rattle.std.proofs.Common.{◌≡◌, ◌≢◌, ◌&&◌, if◌then◌else◌, Bool, true, false, cond, Option, Some, None, option_map}
use Rattle.records.specs.Words.{option_and_then, refl, sym, ◌∙◌, ap, false≢true, and_from, false_from_ne_true}
use Rattle.records.specs.Words.{same_Some, Text, same, same_self, same_true, get, put, change, get-put, get-change}
use Rattle.records.specs.Words.{mapped, Token, Lease, Broker, IsNew, lease, credential, lease_of, lease_identifier}
use Rattle.records.specs.Words.{AllUsed, of_leases, Tells, KeepsOthers, lease_row, credential_row, Table, with_row}
use Rattle.records.specs.declared.kind.Kind.TheVariants as kind
use Rattle.leases.specs.Words.{Row, edited, issue, with_issued, RepresentsLeases, KeepsOtherLeases, lease_cases}
use Rattle.leases.specs.Words.{lease_of-edited, AreLeases, are_leases, leases_tell, one_owner}

-- ---- a lease made

-- the leases that tokens have then
pub lease_of-issue : (b : Broker) (t id : Text) (l : Lease) → get b.tokens t ≢ None → (u q : Text)
    → lease_of (issue b t id l) u q ≡ (if same u t && same q id then Some l else lease_of b u q)
lease_of-issue b t id l here u q =
    lease_of-edited b (λ u m. if same u t then put m id l else m) u q
    ∙ elim (same u t) as (λ v. same u t ≡ v
    → option_and_then (λ (x : Token). get (if v then put x.leases id l else x.leases) q) (get b.tokens u)
    ≡ (if v && same q id then Some l else lease_of b u q)) [
      | true ↦ λ is. there (get b.tokens u) (λ none. here (ap (get b.tokens) (sym (same_true u t is)) ∙ none))
      | false ↦ λ _. refl
    ] refl
  where
    chosen : (v : Bool) (o : Option Lease) → cond v (Some l) o ≡ (if v then Some l else o)
    chosen true o = refl
    chosen false o = refl

    there : (o : Option Token) → o ≢ None → option_and_then (λ (x : Token). get (put x.leases id l) q) o
        ≡ (if same q id then Some l else option_and_then (λ (x : Token). get x.leases q) o)
    there None n = absurd (n refl)
    there (Some x) n = get-put x.leases id l q ∙ chosen (same q id) (get x.leases q)

module _ (old : Table) (b : Broker) (t id : Text) (l : Lease) (represents : RepresentsLeases old b)
    (here : get b.tokens t ≢ None) (all_used : AllUsed b)
    (new_id : IsNew b (lease_identifier id)) (new_credential : IsNew b l.credential) where
  was : AreLeases old b
  was = are_leases b represents.one_place old represents.tells

  -- nobody had the id, nor the credential
  no_id : (u : Text) (m : Lease) → lease_of b u id ≡ Some m → ⊥
  no_id u m is = all_used (lease u id) (lease_identifier id)
      (ap (option_map (λ (m : Lease). lease_identifier id)) is) new_id

  no_credential : (u q : Text) (m : Lease) → lease_of b u q ≡ Some m → m.credential ≡ l.credential → ⊥
  no_credential u q m is same_credential =
      all_used (credential u q) l.credential
      (ap (option_map (λ (m : Lease). m.credential)) is ∙ ap Some same_credential) new_credential

  other_id : (u q : Text) (m : Lease) → lease_of b u q ≡ Some m → same q id ≡ false
  other_id u q m is = false_from_ne_true _ (λ at. no_id u m (ap (lease_of b u) (sym (same_true q id at)) ∙ is))

  and_false : (v w : Bool) → w ≡ false → (v && w) ≡ false
  and_false true w h = h
  and_false false w h = refl

  -- what was there is there
  still : (u q : Text) (m : Lease) → lease_of b u q ≡ Some m → lease_of (issue b t id l) u q ≡ Some m
  still u q m is =
      lease_of-issue b t id l here u q
      ∙ ap (λ v. if v then Some l else lease_of b u q) (and_false (same u t) (same q id) (other_id u q m is)) ∙ is

  made : lease_of (issue b t id l) t id ≡ Some l
  made = lease_of-issue b t id l here t id ∙ ap (λ v. if v then Some l else lease_of b t id)
      (and_from _ _ (same_self t) (same_self id))

  pub are_issued : AreLeases (with_issued old t id l) (issue b t id l)
  are_issued = record {
    leases = λ q r is.
        elim (same q id) as (λ v. same q id ≡ v → (if v then Some (lease_row t l) else old kind.Lease q) ≡ Some r
        → (u : Text) × (m : Lease) × (lease_of (issue b t id l) u q ≡ Some m) × (r ≡ lease_row u m)) [
          | true ↦ λ at e. (t, l, ap (lease_of (issue b t id l) t) (same_true q id at) ∙ made, sym (same_Some _ _ e))
          | false ↦ λ _ e. let m = was.leases q r e in (m.0, m.1, still m.0 q m.1 m.2, m.3)
        ] refl is;
    each_lease = λ u q m is. lease_cases b t id l u q m (with_issued old t id l kind.Lease q ≡ Some (lease_row u m)) is
        (λ ut qid ml. ap (λ v. if v then Some (lease_row t l) else old kind.Lease q)
        (ap (λ z. same z id) qid ∙ same_self id)
        ∙ (λ i. Some (lease_row (sym ut i) (sym ml i))))
        (λ before. ap (λ v. if v then Some (lease_row t l) else old kind.Lease q) (other_id u q m before)
        ∙ was.each_lease u q m before);
    credentials = λ q r is.
        elim (same q l.credential) as (λ v. same q l.credential ≡ v
        → (if v then Some (credential_row id) else old kind.Credential q) ≡ Some r
        → (u : Text) × (p : Text) × (m : Lease) × (lease_of (issue b t id l) u p ≡ Some m) × (m.credential ≡ q)
        × (r ≡ credential_row p)) [
          | true ↦ λ at e. (t, id, l, made, sym (same_true q l.credential at), sym (same_Some _ _ e))
          | false ↦ λ _ e. let m = was.credentials q r e in (m.0, m.1, m.2, still m.0 m.1 m.2 m.3, m.4, m.5)
        ] refl is;
    each_credential = λ u q m is. lease_cases b t id l u q m
        (with_issued old t id l kind.Credential m.credential ≡ Some (credential_row q)) is
        (λ ut qid ml. ap (λ v. if v then Some (credential_row id) else old kind.Credential m.credential)
        (ap (λ (z : Lease). same z.credential l.credential) ml ∙ same_self l.credential)
        ∙ ap (λ z. Some (credential_row z)) (sym qid))
        (λ before. ap (λ v. if v then Some (credential_row id) else old kind.Credential m.credential)
        (false_from_ne_true _ (λ at. no_credential u q m before (same_true m.credential l.credential at)))
        ∙ was.each_credential u q m before);
  }

  pub issued_told : Tells of_leases (with_issued old t id l) (issue b t id l)
  issued_told = leases_tell (with_issued old t id l) (issue b t id l) are_issued

-- other rows stay
pub issued_keeps : (old : Table) (t id : Text) (l : Lease) → KeepsOthers of_leases old (with_issued old t id l)
issued_keeps old t id l kind.Lease q h = absurd (false≢true (sym h))
issued_keeps old t id l kind.Credential q h = absurd (false≢true (sym h))
issued_keeps old t id l _ q h = refl

-- ---- a lease renewed

module _ (b : Broker) (id : Text) (f : Lease → Lease) where
  abbrev after : Broker
  after = edited b (λ t m. change m id f)

  -- the leases that tokens have then
  lease_of-changed : (u q : Text) → lease_of after u q ≡ option_map (λ m. if same q id then f m else m) (lease_of b u q)
  lease_of-changed u q = lease_of-edited b (λ t m. change m id f) u q ∙ inner (get b.tokens u)
    where
      inner : (o : Option Token) → option_and_then (λ (x : Token). get (change x.leases id f) q) o
          ≡ option_map (λ m. if same q id then f m else m) (option_and_then (λ (x : Token). get x.leases q) o)
      inner None = refl
      inner (Some x) = get-change x.leases id f q

  module _ (old : Table) (t : Text) (l : Lease) (represents : RepresentsLeases old b) (its : lease_of b t id ≡ Some l)
      (keeps : (m : Lease) → (f m).credential ≡ m.credential) where
    abbrev new : Table
    new = with_row old kind.Lease id (lease_row t (f l))

    had : AreLeases old b
    had = are_leases b represents.one_place old represents.tells

    credential_kept : (v : Bool) (m : Lease) → (if v then f m else m).credential ≡ m.credential
    credential_kept true m = keeps m
    credential_kept false m = refl

    pub are_changed : AreLeases new after
    are_changed = record {
      leases = λ q r is.
          elim (same q id) as (λ v. same q id ≡ v → (if v then Some (lease_row t (f l)) else old kind.Lease q) ≡ Some r
          → (u : Text) × (m : Lease) × (lease_of after u q ≡ Some m) × (r ≡ lease_row u m)) [
            | true ↦ λ at e. (
              t,
              f l,
              lease_of-changed t q ∙ ap (option_map (λ m. if same q id then f m else m))
                  (ap (lease_of b t) (same_true q id at) ∙ its)
                  ∙ ap (λ v. Some (if v then f l else l)) at,
              sym (same_Some _ _ e),
            )
            | false ↦ λ apart e. let m = had.leases q r e in (
              m.0,
              m.1,
              lease_of-changed m.0 q ∙ ap (option_map (λ m. if same q id then f m else m)) m.2
                  ∙ ap (λ v. Some (if v then f m.1 else m.1)) apart,
              m.3,
            )
          ] refl is;
      each_lease = λ u q m is.
          let k = mapped (λ m. if same q id then f m else m) (lease_of b u q) m (sym (lease_of-changed u q) ∙ is) in
          elim (same q id) as (λ v. same q id ≡ v → m ≡ (if v then f k.0 else k.0)
          → (if v then Some (lease_row t (f l)) else old kind.Lease q) ≡ Some (lease_row u m)) [
            | true ↦ λ at e.
                let there : lease_of b u id ≡ Some k.0 = ap (lease_of b u) (sym (same_true q id at)) ∙ k.1 in
                let owner : t ≡ u = one_owner b represents.one_place t u id l k.0 its there in
                let one : l ≡ k.0 = same_Some _ _ (sym its ∙ ap (λ z. lease_of b z id) owner ∙ there) in
                λ i. Some (lease_row (owner i) ((ap f one ∙ sym e) i))
            | false ↦ λ _ e. had.each_lease u q k.0 k.1 ∙ ap (λ z. Some (lease_row u z)) (sym e)
          ] refl k.2;
      credentials = λ q r is.
          let m = had.credentials q r is in (
            m.0,
            m.1,
            if same m.1 id then f m.2 else m.2,
            lease_of-changed m.0 m.1 ∙ ap (option_map (λ z. if same m.1 id then f z else z)) m.3,
            credential_kept (same m.1 id) m.2 ∙ m.4,
            m.5,
          );
      each_credential = λ u q m is.
          let k = mapped (λ m. if same q id then f m else m) (lease_of b u q) m (sym (lease_of-changed u q) ∙ is) in
          ap (λ (z : Lease). old kind.Credential z.credential) k.2
          ∙ ap (old kind.Credential) (credential_kept (same q id) k.0)
          ∙ had.each_credential u q k.0 k.1;
    }

    pub changed_told : Tells of_leases new after
    changed_told = leases_tell new after are_changed

-- other rows stay
pub renewed_keeps : (old : Table) (id : Text) (r : Row) → KeepsOtherLeases id old (with_row old kind.Lease id r)
renewed_keeps old id r kind.Lease q apart =
    elim (same q id) as (λ v. same q id ≡ v → (if v then Some r else old kind.Lease q) ≡ old kind.Lease q) [
      | true ↦ λ at. absurd (apart refl (same_true q id at))
      | false ↦ λ _. refl
    ] refl
renewed_keeps old id r _ q apart = refl

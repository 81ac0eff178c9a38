-- Leases that end, from the rows that are taken out to those that are left, and to the broker.
use Rattle.std.proofs.Common.{◌≡◌, ◌≢◌, ◌∷◌, if◌then◌else◌, [], List, get_or, Contains, Bool, true, false, Option, Some}
use Rattle.records.specs.Words.{None, option_and_then, AllByRecursion, refl, sym, ◌∙◌, ap, subst, inl, inr, arith}
use Rattle.records.specs.Words.{false≢true, false_from_ne_true, All-contains, All-contains_itself, All-from_recursion}
use Rattle.records.specs.Words.{recursion_from_All, none-some, same_Some, Text, same, same_self, same_true}
use Rattle.records.specs.Words.{found_or_not, Lease, Broker, lease_of, RowKey, of_leases, Tells, KeepsOthers, lease_row}
use Rattle.records.specs.Words.{credential_row, Table, table_of, is_at, without_row, table_of-remove, Rows}
use Rattle.std.specs.FinMap as fin
use Rattle.records.specs.declared.kind.Kind.{Kind}
use Rattle.records.specs.declared.kind.Kind.TheVariants as kind
use Rattle.leases.specs.Words.{Row, Ending, is_named, AreReadable, unless_ended, EndsWith, EndsLeases, Leaves}
use Rattle.leases.specs.Words.{IsLeaseRow, RepresentsLeases, RemovesLease, RemovesEach, AreThoseThatEnd, AreLeases}
use Rattle.leases.specs.Words.{are_leases, leases_tell, one_credential}
use Rattle.leases.proofs.LeaseBodies.{credential_told}

-- ---- one lease

-- the table after one lease was taken out
removed_table : (id : Text) (row : Row) (old new : Rows) → (h : RemovesLease id row old new)
    → table_of new ≡ without_row (without_row (table_of old) kind.Credential h.lease.credential) kind.Lease id
removed_table id row old new h =
    ap table_of h.rows ∙ table_of-remove (fin.remove old (kind.Credential, h.lease.credential)) kind.Lease id
    ∙ ap (λ t. without_row t kind.Lease id) (table_of-remove old kind.Credential h.lease.credential)

removed_at : (id : Text) (row : Row) (old new : Rows) → (h : RemovesLease id row old new) → (k : Kind) (q : Text)
    → table_of new k q ≡ without_row (without_row (table_of old) kind.Credential h.lease.credential) kind.Lease id k q
removed_at id row old new h k q = ap (λ (t : Table). t k q) (removed_table id row old new h)

-- ---- one after another

-- rows of other kinds stay
pub others_after : (es : List (RowKey × Row)) (old new : Rows) → RemovesEach es old new
    → KeepsOthers of_leases (table_of old) (table_of new)
others_after [] old new h k q o = ap (λ (r : Rows). table_of r k q) h
others_after (e ∷ es) old new h k q o = others_after es h.0 new h.2 k q o ∙ removed_at e.0.1 e.1 old h.0 h.1 k q
    ∙ apart k o
  where
    apart : (k : Kind) → of_leases k ≡ false
        → without_row (without_row (table_of old) kind.Credential h.1.lease.credential) kind.Lease e.0.1 k q
        ≡ table_of old k q
    apart kind.Lease o = absurd (false≢true (sym o))
    apart kind.Credential o = absurd (false≢true (sym o))
    apart _ o = refl

-- a row that is gone stays so
gone_after : (es : List (RowKey × Row)) (old new : Rows) → RemovesEach es old new → (k : Kind) (q : Text)
    → table_of old k q ≡ None
    → table_of new k q ≡ None
gone_after [] old new h k q none = ap (λ (r : Rows). table_of r k q) h ∙ none
gone_after (e ∷ es) old new h k q none =
    gone_after es h.0 new h.2 k q (removed_at e.0.1 e.1 old h.0 h.1 k q
    ∙ ap (λ o. if is_at kind.Lease e.0.1 k q then None else
    (if is_at kind.Credential h.1.lease.credential k q then None else o)) none
    ∙ still (is_at kind.Lease e.0.1 k q) (is_at kind.Credential h.1.lease.credential k q))
  where
    still : (v w : Bool) → ◌≡◌ {A = Option Row} (if v then None else (if w then None else None)) None
    still true w = refl
    still false true = refl
    still false false = refl

-- what is known of each entry afterwards: it was read, and the lease and its credential are gone
pub record WasEnded (new : Table) (e : RowKey × Row) : Type 0 where
  pub row : IsLeaseRow e.1
  pub lease : new kind.Lease e.0.1 ≡ None
  pub credential : new kind.Credential row.0.credential ≡ None

each_after : (es : List (RowKey × Row)) (old new : Rows) → RemovesEach es old new
    → AllByRecursion (WasEnded (table_of new)) es
each_after [] old new h = tt
each_after (e ∷ es) old new h = (
  record {
    row = (h.1.lease, h.1.in_range, h.1.row_is);
    lease = gone_after es h.0 new h.2 kind.Lease e.0.1 (removed_at e.0.1 e.1 old h.0 h.1 kind.Lease e.0.1
        ∙ ap (λ v. if v then None else table_of old kind.Lease e.0.1) (same_self e.0.1));
    credential = gone_after es h.0 new h.2 kind.Credential h.1.lease.credential
        (removed_at e.0.1 e.1 old h.0 h.1 kind.Credential h.1.lease.credential
        ∙ ap (λ v. if v then None else table_of old kind.Credential h.1.lease.credential)
        (same_self h.1.lease.credential));
  },
  each_after es h.0 new h.2,
)

-- a lease that is none of the entries is as it was
lease_after : (es : List (RowKey × Row)) (old new : Rows) → RemovesEach es old new → (q : Text)
    → AllByRecursion (λ e. e.0.1 ≢ q) es
    → table_of new kind.Lease q ≡ table_of old kind.Lease q
lease_after [] old new h q apart = ap (λ (r : Rows). table_of r kind.Lease q) h
lease_after (e ∷ es) old new h q apart =
    lease_after es h.0 new h.2 q apart.1 ∙ removed_at e.0.1 e.1 old h.0 h.1 kind.Lease q
    ∙ ap (λ v. if v then None else table_of old kind.Lease q)
    (false_from_ne_true _ (λ is. apart.0 (sym (same_true q e.0.1 is))))

-- and so is a credential of none of them
credential_after : (es : List (RowKey × Row)) (old new : Rows) → RemovesEach es old new → (q : Text)
    → AllByRecursion (λ e. (r : IsLeaseRow e.1) → r.0.credential ≢ q) es
    → table_of new kind.Credential q ≡ table_of old kind.Credential q
credential_after [] old new h q apart = ap (λ (r : Rows). table_of r kind.Credential q) h
credential_after (e ∷ es) old new h q apart =
    credential_after es h.0 new h.2 q apart.1 ∙ removed_at e.0.1 e.1 old h.0 h.1 kind.Credential q
    ∙ ap (λ v. if v then None else table_of old kind.Credential q)
    (false_from_ne_true _
    (λ is. apart.0 (h.1.lease, h.1.in_range, h.1.row_is) (sym (same_true q h.1.lease.credential is))))

-- ---- the leases that end

module _ (ends : Ending) (es : List (RowKey × Row)) (old new : Rows)
    (those : AreThoseThatEnd ends (table_of old) es) where
  -- their rows are read if those that end are
  pub each_readable : AreReadable ends (table_of old) → AllByRecursion (λ e. IsLeaseRow e.1) es
  each_readable readable = recursion_from_All (λ e. IsLeaseRow e.1) es (λ k d below.
      let e = those.each k d below in readable (get_or es k d).0.1 (get_or es k d).1 e.0 e.1)

  module _ (h : RemovesEach es old new) where
    -- what is known of a lease that ends
    entry : (q : Text) (row : Row) → table_of old kind.Lease q ≡ Some row → ends q row ≡ true
        → WasEnded (table_of new) ((kind.Lease, q), row)
    entry q row is goes =
        All-contains (WasEnded (table_of new)) es ((kind.Lease, q), row)
        (All-from_recursion (WasEnded (table_of new)) es (each_after es old new h)) (those.whole q row is goes)

    -- a lease that stays is none of the entries
    apart : (q : Text) (row : Row) → table_of old kind.Lease q ≡ Some row → ends q row ≡ false
        → AllByRecursion (λ e. e.0.1 ≢ q) es
    apart q row is stays = recursion_from_All (λ e. e.0.1 ≢ q) es (λ k d below key.
        let e = those.each k d below in
        let one : row ≡ (get_or es k d).1 = same_Some _ _ (sym is ∙ ap (table_of old kind.Lease) (sym key) ∙ e.0) in
        false≢true (sym stays ∙ (λ i. ends (sym key i) (one i)) ∙ e.1))

    lease_left : (q : Text) → table_of new kind.Lease q ≡ unless_ended ends q (table_of old kind.Lease q)
    lease_left q = elim (found_or_not (table_of old kind.Lease q)) [
      | inl none ↦ gone_after es old new h kind.Lease q none ∙ sym (ap (unless_ended ends q) none)
      | inr row ↦
          elim (ends q row.0) as (λ v. ends q row.0 ≡ v
          → table_of new kind.Lease q ≡ unless_ended ends q (table_of old kind.Lease q)) [
            | true ↦ λ goes.
                (entry q row.0 row.1 goes).lease
                ∙ sym (ap (unless_ended ends q) row.1 ∙ ap (λ v. if v then None else Some row.0) goes)
            | false ↦ λ stays.
                lease_after es old new h q (apart q row.0 row.1 stays) ∙ row.1
                ∙ sym (ap (unless_ended ends q) row.1 ∙ ap (λ v. if v then None else Some row.0) stays)
          ] refl
    ]

    pub leases_ended : EndsLeases ends (table_of old) (table_of new)
    leases_ended = record {
      readable = λ q row is goes. (entry q row is goes).row;
      leases = lease_left;
      credentials_gone = λ q w.
          let e = entry w.lease_id (lease_row w.owner w.lease) w.row w.goes in
          let one : e.row.0.credential ≡ q = credential_told w.owner w.owner e.row.0 w.lease (sym e.row.2)
          ∙ w.credential_is in
          ap (table_of new kind.Credential) (sym one) ∙ e.credential;
      credentials_left = λ q none.
          credential_after es old new h q
          (recursion_from_All (λ e. (r : IsLeaseRow e.1) → r.0.credential ≢ q) es (λ k d below r is.
          let e = get_or es k d in
          let p = those.each k d below in
          none (record {
            lease_id = e.0.1;
            owner = e.1.owner;
            lease = r.0;
            row = p.0 ∙ ap Some r.2;
            goes = ap (ends e.0.1) (sym r.2) ∙ p.1;
            credential_is = is;
          })));
      others = others_after es old new h;
    }

-- ---- one lease by its id

-- the row of a lease alone
pub one_ended : (id : Text) (row : Row) (old new : Rows) → table_of old kind.Lease id ≡ Some row
    → RemovesLease id row old new
    → EndsLeases (is_named id) (table_of old) (table_of new)
one_ended id row old new is removed = leases_ended (is_named id) (e ∷ []) old new those (new, removed, refl)
  where
    e : RowKey × Row
    e = ((kind.Lease, id), row)

    those : AreThoseThatEnd (is_named id) (table_of old) (e ∷ [])
    those = record {
      each = All-from_recursion (λ e. (table_of old kind.Lease e.0.1 ≡ Some e.1) × (same e.0.1 id ≡ true)) (e ∷ [])
          ((is, same_self id), tt);
      whole = λ q r at goes.
          let key : id ≡ q = sym (same_true q id goes) in
          let one : row ≡ r = same_Some _ _ (sym is ∙ ap (table_of old kind.Lease) key ∙ at) in
          subst (Contains (e ∷ [])) (λ i. ((kind.Lease, key i), one i))
          (All-contains_itself (e ∷ []) 0 e (omega arith));
    }

-- no row, none
pub none_ended : (id : Text) (rows : Rows) → table_of rows kind.Lease id ≡ None
    → EndsLeases (is_named id) (table_of rows) (table_of rows)
none_ended id rows none =
    leases_ended (is_named id) [] rows rows (record {
      each = All-from_recursion (λ e. (table_of rows kind.Lease e.0.1 ≡ Some e.1) × (same e.0.1 id ≡ true)) [] tt;
      whole = λ q r at goes. absurd
          (none-some _ (sym none ∙ ap (table_of rows kind.Lease) (sym (same_true q id goes)) ∙ at));
    }) refl

-- ---- to the broker

module _ (ends : Ending) (old new : Table) (b c : Broker) (represents : RepresentsLeases old b)
    (ended : EndsLeases ends old new)
    (leaves : Leaves ends b c) where
  was : AreLeases old b
  was = are_leases b represents.one_place old represents.tells

  -- a lease of c is one of b, and stays
  of_before : (t q : Text) (l : Lease) → lease_of c t q ≡ Some l → (lease_of b t q ≡ Some l)
      × (ends q (lease_row t l) ≡ false)
  of_before t q l is = elim (found_or_not (lease_of b t q)) [
    | inl none ↦ absurd (none-some _
        (sym (leaves t q ∙ ap (option_and_then (λ l. if ends q (lease_row t l) then None else Some l)) none) ∙ is))
    | inr m ↦
        elim (ends q (lease_row t m.0)) as (λ v. ends q (lease_row t m.0) ≡ v → (if v then None else Some m.0) ≡ Some l
        → (lease_of b t q ≡ Some l) × (ends q (lease_row t l) ≡ false)) [
          | true ↦ λ _ none. absurd (none-some _ none)
          | false ↦ λ stays some.
              let one : m.0 ≡ l = same_Some _ _ some in
              (m.1 ∙ some, ap (λ z. ends q (lease_row t z)) (sym one) ∙ stays)
        ] refl (sym (leaves t q ∙ ap (option_and_then (λ l. if ends q (lease_row t l) then None else Some l)) m.1) ∙ is)
  ]

  -- and one of b that stays is one of c
  still : (t q : Text) (l : Lease) → lease_of b t q ≡ Some l → ends q (lease_row t l) ≡ false → lease_of c t q ≡ Some l
  still t q l is stays =
      leaves t q ∙ ap (option_and_then (λ l. if ends q (lease_row t l) then None else Some l)) is
      ∙ ap (λ v. if v then None else Some l) stays

  row_left : (q : Text) (r : Row) → new kind.Lease q ≡ Some r → (old kind.Lease q ≡ Some r) × (ends q r ≡ false)
  row_left q r is = elim (found_or_not (old kind.Lease q)) [
    | inl none ↦ absurd (none-some _ (sym (ended.leases q ∙ ap (unless_ended ends q) none) ∙ is))
    | inr s ↦
        elim (ends q s.0) as (λ v. ends q s.0 ≡ v → (if v then None else Some s.0) ≡ Some r
        → (old kind.Lease q ≡ Some r) × (ends q r ≡ false)) [
          | true ↦ λ _ none. absurd (none-some _ none)
          | false ↦ λ stays some. (s.1 ∙ some, ap (ends q) (sym (same_Some _ _ some)) ∙ stays)
        ] refl (sym (ended.leases q ∙ ap (unless_ended ends q) s.1) ∙ is)
  ]

  -- the credential of a lease that stays is that of no other
  own : (t q : Text) (l : Lease) → lease_of b t q ≡ Some l → ends q (lease_row t l) ≡ false
      → EndsWith ends old l.credential → ⊥
  own t q l is stays w =
      let m = was.leases w.lease_id (lease_row w.owner w.lease) w.row in
      let credential : m.1.credential ≡ l.credential = sym (credential_told w.owner m.0 w.lease m.1 m.3)
      ∙ w.credential_is in
      let one = one_credential b represents.one_place m.0 t w.lease_id q m.1 l m.2 is credential in
      let row : lease_row w.owner w.lease ≡ lease_row t l =
      same_Some _ _ (sym w.row ∙ ap (old kind.Lease) one.1 ∙ was.each_lease t q l is) in
      false≢true (sym stays ∙ (λ i. ends (sym one.1 i) (sym row i)) ∙ w.goes)

  pub are_left : AreLeases new c
  are_left = record {
    leases = λ q r is.
        let left = row_left q r is in
        let l = was.leases q r left.0 in
        (l.0, l.1, still l.0 q l.1 l.2 (ap (ends q) (sym l.3) ∙ left.1), l.3);
    each_lease = λ t q l is.
        let before = of_before t q l is in
        ended.leases q ∙ ap (unless_ended ends q) (was.each_lease t q l before.0)
        ∙ ap (λ v. if v then None else Some (lease_row t l)) before.1;
    credentials = λ q r is. credential q r is;
    each_credential = λ t q l is.
        let before = of_before t q l is in
        ended.credentials_left l.credential (own t q l before.0 before.1) ∙ was.each_credential t q l before.0;
  }
    where
      -- a row of a credential that is there was there before
      before : (q : Text) (r : Row) → new kind.Credential q ≡ Some r → old kind.Credential q ≡ Some r
      before q r is = elim (found_or_not (old kind.Credential q)) [
        | inl none ↦
            absurd (none-some _ (sym (ended.credentials_left q (λ w.
            let m = was.leases w.lease_id (lease_row w.owner w.lease) w.row in
            let credential : m.1.credential ≡ q = sym (credential_told w.owner m.0 w.lease m.1 m.3) ∙ w.credential_is in
            none-some _ (sym none ∙ ap (old kind.Credential) (sym credential)
            ∙ was.each_credential m.0 w.lease_id m.1 m.2)) ∙ none) ∙ is))
        | inr s ↦
            let l = was.credentials q s.0 s.1 in
            elim (ends l.1 (lease_row l.0 l.2)) as (λ v. ends l.1 (lease_row l.0 l.2) ≡ v
            → old kind.Credential q ≡ Some r) [
              | true ↦ λ goes. absurd (none-some _ (sym (ended.credentials_gone q (record {
                lease_id = l.1;
                owner = l.0;
                lease = l.2;
                row = was.each_lease l.0 l.1 l.2 l.3;
                goes = goes;
                credential_is = l.4;
              })) ∙ is))
              | false ↦ λ stays.
                  sym (ap (old kind.Credential) l.4)
                  ∙ sym (ended.credentials_left l.2.credential (own l.0 l.1 l.2 l.3 stays))
                  ∙ ap (new kind.Credential) l.4 ∙ is
            ] refl
      ]

      credential : (q : Text) (r : Row) → new kind.Credential q ≡ Some r
          → (t : Text) × (id : Text) × (l : Lease) × (lease_of c t id ≡ Some l) × (l.credential ≡ q)
          × (r ≡ credential_row id)
      credential q r is =
          let l = was.credentials q r (before q r is) in
          elim (ends l.1 (lease_row l.0 l.2)) as (λ v. ends l.1 (lease_row l.0 l.2) ≡ v
          → (t : Text) × (id : Text) × (l : Lease) × (lease_of c t id ≡ Some l) × (l.credential ≡ q)
          × (r ≡ credential_row id)) [
            | true ↦ λ goes. absurd (none-some _ (sym (ended.credentials_gone q (record {
              lease_id = l.1;
              owner = l.0;
              lease = l.2;
              row = was.each_lease l.0 l.1 l.2 l.3;
              goes = goes;
              credential_is = l.4;
            })) ∙ is))
            | false ↦ λ stays. (l.0, l.1, l.2, still l.0 l.1 l.2 l.3 stays, l.4, l.5)
          ] refl

  pub left_told : Tells of_leases new c
  left_told = leases_tell new c are_left

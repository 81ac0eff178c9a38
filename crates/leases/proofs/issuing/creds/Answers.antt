use Rattle.std.proofs.Common.{◌≡◌, ◌∙◌, ℕ, Bool, false, Some, Option, Result, Ok, ap, sym, subst}
use Rattle.records.specs.Words.{err_from_is_err_and, Broker, Role, IsNew, lease_identifier, ◌>>=◌, Refusal, EndsOk}
use Rattle.records.specs.Words.{Text, Lease, honest_before, goes_further, fails_alike, read_fault, of_leases, Tells}
use Rattle.records.specs.Words.{KeepsOthers, Table, table, table_of, Rows, IsHonest, GoesOn}
use Rattle.leases.specs.Words.{RepresentsLeases, with_issued, issue, with_lease}
use Rattle.leases.specs.Roles as roles
use Rattle.leases.proofs.issuing.creds.Goals as goal

-- the lease that is answered, and its rows
abbrev IsMade : Table → Table → Text → Text × ℕ → roles.IssuedLease → Type 0
IsMade old new t x i = (x ≡ (i.lease_id, i.lease.ttl)) × (new ≡ with_lease old t i)

-- the same by the broker
abbrev IsIssued : Table → Text × ℕ → roles.Issued → Type 0
IsIssued new x i = (x ≡ (i.lease_id, i.lease.ttl)) × Tells of_leases new i.next

-- the next broker
abbrev then_issued : Broker → Text → roles.IssuedLease → Result roles.Issued Refusal
then_issued b t i = Ok (record { lease_id = i.lease_id; lease = i.lease; next = issue b t i.lease_id i.lease })

pub returns-clause-rows : goal.returns-clause-rows
returns-clause-rows g c honest o at =
    let seen = g.T.RecordsTx.seen in
    let first : IsHonest (seen c.role.new.tx) = honest_before _ _ _ c.in_ok-issue.ensures.call.goes_on honest in
    let old = table (seen c.args.tx.now) in
    let new = table (seen c.issue.new.tx) in
    let t = c.args.asked.token.now in
    let mount = c.args.mount.now in
    let name = c.args.name.now in
    let identifier = c.args.asked.names.lease.now in
    let credential = c.args.asked.names.credential.now in
    let r : Role = c.in-Some.found in
    let l : Lease = roles.new_lease c.args.now r credential in
    let id = roles.lease_id mount name identifier in
    let some : Some r ≡ o = sym c.in-Some.is ∙ c.in_ok-found.ensures.found first o at in
    let made : c.new_lease-lease.result ≡ l = c.new_lease-lease.ensures.value
    ∙ ap (λ n. roles.new_lease n r credential) c.seconds-now.ensures.value in
    let id_is = c.as_str.ensures.value ∙ c.in_ok-id.ensures in
    let last : c.args.asked.is_last_use ≡ false = c.if-asked.false in
    subst (λ (v : Bool). EndsOk (IsMade old new t) (c.new.result, c.lease.inside.ttl)
    (roles.issued o v c.args.now mount name identifier credential)) (sym last)
    (subst (λ (o : Option Role). EndsOk (IsMade old new t)
    (c.new.result, c.lease.inside.ttl) (roles.issued o false c.args.now mount name identifier credential)) some (
      (λ i. ((c.new.ensures ∙ c.in_ok-id.ensures) i, ap (λ (l : Lease). l.ttl) (c.lease.view_is ∙ made) i)),
      c.in_ok-issue.ensures.rows honest
          ∙ (λ i. with_issued (table_of (c.in_ok-found.ensures.call.same first i)) t (id_is i) (made i)),
    ))

pub returns-clause-told : goal.returns-clause-told
returns-clause-told g c honest forms b represents sound roles_told clock last here used new_id new_credential =
    let seen = g.T.RecordsTx.seen in
    let first : IsHonest (seen c.role.new.tx) = honest_before _ _ _ c.in_ok-issue.ensures.call.goes_on honest in
    let new = table (seen c.issue.new.tx) in
    let t = c.args.asked.token.now in
    let mount = c.args.mount.now in
    let name = c.args.name.now in
    let identifier = c.args.asked.names.lease.now in
    let credential = c.args.asked.names.credential.now in
    let r : Role = c.in-Some.found in
    let l : Lease = roles.new_lease c.args.now r credential in
    let some : Some r ≡ roles.role b mount name = sym c.in-Some.is
    ∙ c.in_ok-found.ensures.told first b sound roles_told in
    let made : c.new_lease-lease.result ≡ l = c.new_lease-lease.ensures.value
    ∙ ap (λ n. roles.new_lease n r credential) c.seconds-now.ensures.value in
    let id_is = c.as_str.ensures.value ∙ c.in_ok-id.ensures in
    let told = c.in_ok-issue.ensures.told honest forms b
    (subst (λ (rows : Rows). RepresentsLeases (table_of rows) b)
    (sym (c.in_ok-found.ensures.call.same first)) represents) here used
    (subst (λ q. IsNew b (lease_identifier q)) (sym id_is) new_id)
    (subst (λ (z : Lease). IsNew b z.credential) (sym made) new_credential) in
    subst (λ (n : ℕ). EndsOk (IsIssued new) (c.new.result, c.lease.inside.ttl)
    (roles.issued (roles.role b mount name) (roles.is_last_use b t) n mount name identifier credential >>= then_issued b
    t)) clock
    (subst (λ (v : Bool). EndsOk (IsIssued new) (c.new.result, c.lease.inside.ttl)
    (roles.issued (roles.role b mount name) v c.args.now mount name identifier credential >>= then_issued b t))
    (sym c.if-asked.false ∙ last)
    (subst (λ (o : Option Role). EndsOk (IsIssued new) (c.new.result, c.lease.inside.ttl)
    (roles.issued o false c.args.now mount name identifier credential >>= then_issued b t)) some (
      (λ i. ((c.new.ensures ∙ c.in_ok-id.ensures) i, ap (λ (l : Lease). l.ttl) (c.lease.view_is ∙ made) i)),
      subst (λ (p : Text × Lease). Tells of_leases new (issue b t p.0 p.1)) (λ i. (id_is i, made i)) told,
    )))

pub returns-clause-call : goal.returns-clause-call
returns-clause-call g c =
    let seen = g.T.RecordsTx.seen in
    record {
      others = λ honest.
          let first : IsHonest (seen c.role.new.tx) = honest_before _ _ _ c.in_ok-issue.ensures.call.goes_on honest in
          subst (λ (rows : Rows). KeepsOthers of_leases (table_of rows) (table (seen c.issue.new.tx)))
          (c.in_ok-found.ensures.call.same first) (c.in_ok-issue.ensures.call.others honest);
      faults = tt;
      goes_on = goes_further _ _ _ _ c.in_ok-found.ensures.call.goes_on c.in_ok-issue.ensures.call.goes_on;
    }

pub returns-in_err-issue-clause-call : goal.returns-in_err-issue-clause-call
returns-in_err-issue-clause-call g c =
    let seen = g.T.RecordsTx.seen in
    let p = err_from_is_err_and c.from_residual-in_err-issue.result c.from_residual-in_err-issue.ensures.1 in
    rw (p.1, p.2) (record {
      others = λ _. tt;
      faults = read_fault _ _ c.in_err-issue.ensures.call.faults;
      goes_on = goes_further _ _ _ _ c.in_ok-found.ensures.call.goes_on
          (subst (GoesOn (seen c.role.new.tx) (seen c.issue.new.tx))
          (sym (fails_alike (Unit {0}) c.in_err-issue.field-0.0)) c.in_err-issue.ensures.call.goes_on);
    })

-- Rows of roles, edited.
use Rattle.std.proofs.Common.{◌≡◌, if◌then◌else◌, nat_eq, Bool, true, false, not, cond, Option, Some, None, option_map}
use Rattle.records.specs.Words.{starts_with, refl, sym, ◌∙◌, ap, false≢true, Text, same, Map, get, put, without, keep}
use Rattle.records.specs.Words.{get-put, get-without, get-keep, Broker, Role, of_roles, Tells, KeepsOthers, role_row}
use Rattle.records.specs.Words.{rows_of, Table, with_row, without_row, without_under}
use Rattle.records.specs.declared.kind.Kind.TheVariants as kind

role_rows : (b : Broker) (q : Text) → rows_of b kind.Role q ≡ option_map role_row (get b.roles q)
unfolding rows_of
role_rows b q = refl

-- the row of a role
pub role_told : (t : Table) (b : Broker) → Tells of_roles t b → (q : Text)
    → t kind.Role q ≡ option_map role_row (get b.roles q)
role_told t b told q = told kind.Role q refl ∙ role_rows b q

-- a table that has the rows of roles
pub roles_by : (t : Table) (b : Broker) → ((q : Text) → t kind.Role q ≡ option_map role_row (get b.roles q))
    → Tells of_roles t b
roles_by t b roles kind.Clock q h = absurd (false≢true h)
roles_by t b roles kind.Used q h = absurd (false≢true h)
roles_by t b roles kind.Token q h = absurd (false≢true h)
roles_by t b roles kind.Accessor q h = absurd (false≢true h)
roles_by t b roles kind.Cubby q h = absurd (false≢true h)
roles_by t b roles kind.Lease q h = absurd (false≢true h)
roles_by t b roles kind.Credential q h = absurd (false≢true h)
roles_by t b roles kind.KvKey q h = absurd (false≢true h)
roles_by t b roles kind.KvVersion q h = absurd (false≢true h)
roles_by t b roles kind.Waiting q h = absurd (false≢true h)
roles_by t b roles kind.Mount q h = absurd (false≢true h)
roles_by t b roles kind.Policy q h = absurd (false≢true h)
roles_by t b roles kind.Role q h = roles q ∙ sym (role_rows b q)

-- other rows stay
pub gone_keeps : (old : Table) (key : Text) → KeepsOthers of_roles old (without_row old kind.Role key)
gone_keeps old key kind.Role q h = absurd (false≢true (sym h))
gone_keeps old key _ q h = refl

pub dropped_keeps : (old : Table) (prefix : Text) → KeepsOthers of_roles old (without_under old kind.Role prefix)
dropped_keeps old prefix kind.Role q h = absurd (false≢true (sym h))
dropped_keeps old prefix _ q h = refl

module _ (old : Table) (b : Broker) (told : Tells of_roles old b) where
  -- the rows of roles where some have changed
  edited_told : (new : Table) (roles : Map Role) (met : Text → Bool) (o : Option Role)
      → ((q : Text) → new kind.Role q ≡ (if met q then option_map role_row o else old kind.Role q))
      → ((q : Text) → get roles q ≡ cond (met q) o (get b.roles q)) → Tells of_roles new (record b { roles = roles })
  edited_told new roles met o rows map =
      roles_by new (record b { roles = roles }) (λ q.
      rows q ∙ ap (λ z. if met q then option_map role_row o else z) (role_told old b told q)
      ∙ inner (met q) (get b.roles q)
      ∙ ap (option_map role_row) (sym (map q)))
    where
      inner : (v : Bool) (p : Option Role) → (if v then option_map role_row o else option_map role_row p)
          ≡ option_map role_row (cond v o p)
      inner true p = refl
      inner false p = refl

  pub put_told : (key : Text) (r : Role)
      → Tells of_roles (with_row old kind.Role key (role_row r)) (record b { roles = put b.roles key r })
  put_told key r = edited_told (with_row old kind.Role key (role_row r)) (put b.roles key r) (λ q. same q key) (Some r)
      (λ q. refl) (get-put b.roles key r)

  pub gone_told : (key : Text) → Tells of_roles (without_row old kind.Role key)
      (record b { roles = without b.roles key })
  gone_told key = edited_told (without_row old kind.Role key) (without b.roles key) (λ q. same q key) None (λ q. refl)
      (get-without b.roles key)

  pub dropped_told : (prefix : Text) → Tells of_roles (without_under old kind.Role prefix)
      (record b { roles = keep (λ q. not (starts_with nat_eq q prefix)) b.roles })
  dropped_told prefix =
      edited_told (without_under old kind.Role prefix) (keep (λ q. not (starts_with nat_eq q prefix)) b.roles)
      (λ q. starts_with nat_eq q prefix) None
      (λ q. refl) (λ q. get-keep (λ q. not (starts_with nat_eq q prefix)) b.roles q
      ∙ turned (starts_with nat_eq q prefix) (get b.roles q))
    where
      turned : (v : Bool) (o : Option Role) → cond (not v) o None ≡ cond v None o
      turned true o = refl
      turned false o = refl

-- What changes do to a version.
use Rattle.std.proofs.Common.{◌≡◌, if◌then◌else◌, true, false, Some, None, is_none, refl, ap, subst}
use Rattle.records.specs.Words.{none-some, same_Some, Version, IsMoment, IsVersionInRange}
use Rattle.kv2.specs.declared.changing.Change.{Change}
use Rattle.kv2.specs.declared.changing.Change.TheVariants as done
use Rattle.kv2.specs.Words.{change_of, IsTimely, soft_deleted}

-- to change twice is to change once
pub twice : (c : Change) (v : Version) → change_of c (change_of c v) ≡ change_of c v
twice (done.Delete now) v =
    elim (is_none v.deleted) as (λ b. is_none v.deleted ≡ b
    → soft_deleted now (if b then record v { deleted = Some now } else v)
    ≡ (if b then record v { deleted = Some now } else v)) [
      | true ↦ λ _. refl
      | false ↦ λ e. ap (λ b. if b then record v { deleted = Some now } else v) e
    ] refl
twice done.Restore v =
    elim (is_none v.secret) as (λ b. is_none v.secret ≡ b
    → change_of done.Restore (if b then v else record v { deleted = None })
    ≡ (if b then v else record v { deleted = None })) [
      | true ↦ λ e. ap (λ b. if b then v else record v { deleted = None }) e
      | false ↦ λ e. ap (λ b. if b then record v { deleted = None } else record v { deleted = None }) e
    ] refl
twice done.Destroy v = refl

-- a version in range stays in range
pub stays_in_range : (c : Change) (v : Version) → IsTimely c → IsVersionInRange v → IsVersionInRange (change_of c v)
stays_in_range (done.Delete now) v timely s =
    elim (is_none v.deleted) as (λ b. IsVersionInRange (if b then record v { deleted = Some now } else v)) [
      | true ↦ record {
        created = s.created;
        deleted = λ m e. subst IsMoment (same_Some _ _ e) timely;
        secret = s.secret;
      }
      | false ↦ s
    ]
stays_in_range done.Restore v timely s =
    elim (is_none v.secret) as (λ b. IsVersionInRange (if b then v else record v { deleted = None })) [
      | true ↦ s
      | false ↦ record { created = s.created; deleted = λ m e. absurd (none-some _ e); secret = s.secret }
    ]
stays_in_range done.Destroy v timely s =
    record { created = s.created; deleted = s.deleted; secret = λ t e. absurd (none-some _ e) }

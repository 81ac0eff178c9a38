-- Rows of mounts, edited.
use Rattle.std.proofs.Common.{◌≡◌, ◌==◌, ◌&&◌, if◌then◌else◌, Bool, true, false, cond, Option, Some, None, option_map}
use Rattle.records.specs.Words.{is_some, Result, Ok, refl, sym, ◌∙◌, ap, subst, false≢true, none-some, same_Some, Text}
use Rattle.records.specs.Words.{same, Map, get, put, without, get-put, get-without, Mount, ◌>>=◌, EndsOk, Refusal}
use Rattle.records.specs.Words.{kind_number, of_mounts, KeepsOthers, IsMountInRange, IsSomeIn, mount_row, Table}
use Rattle.records.specs.Words.{with_row, without_row}
use Rattle.records.specs.declared.kind.Kind.{Kind}
use Rattle.records.specs.declared.kind.Kind.TheVariants as kind
use Rattle.mounts.specs.Words.{Row, IsMountAt, AreMounts}

-- ---- rows of other kinds

apart : (k : Kind) → of_mounts k ≡ false → (kind_number k == kind_number kind.Mount) ≡ false
apart kind.Mount h = absurd (false≢true (sym h))
apart kind.Clock h = refl
apart kind.Used h = refl
apart kind.Token h = refl
apart kind.Accessor h = refl
apart kind.Cubby h = refl
apart kind.Lease h = refl
apart kind.Credential h = refl
apart kind.KvKey h = refl
apart kind.KvVersion h = refl
apart kind.Waiting h = refl
apart kind.Policy h = refl
apart kind.Role h = refl

module _ (old new : Table) (name : Text) where
  pub others_put : (r : Row) → new ≡ with_row old kind.Mount name r → KeepsOthers of_mounts old new
  others_put r e k q other = (λ i. e i k q) ∙ ap (λ v. if v && same q name then Some r else old k q) (apart k other)

  pub others_gone : new ≡ without_row old kind.Mount name → KeepsOthers of_mounts old new
  others_gone e k q other = (λ i. e i k q) ∙ ap (λ v. if v && same q name then None else old k q) (apart k other)

  -- ---- rows of mounts

  one_of : (mounts : Map Mount) (q : Text) (v : Bool) (m : Mount) → IsMountInRange m → IsMountAt old q (get mounts q)
      → (in_range : IsSomeIn IsMountInRange (cond v (Some m) (get mounts q)))
      × ((if v then Some (mount_row m) else old kind.Mount q) ≡ option_map mount_row (cond v (Some m) (get mounts q)))
  one_of mounts q true m good at = (λ x is. subst IsMountInRange (same_Some m x is) good, refl)
  one_of mounts q false m good at = (at.in_range, at.row)

  pub mounts_put : (mounts : Map Mount) (m : Mount) → IsMountInRange m
      → new ≡ with_row old kind.Mount name (mount_row m) → AreMounts old mounts
      → AreMounts new (put mounts name m)
  mounts_put mounts m good e are q =
      let one = one_of mounts q (same q name) m good (are q) in
      subst (λ o. IsMountAt new q o) (sym (get-put mounts name m q))
      (record { in_range = one.0; row = (λ i. e i kind.Mount q) ∙ one.1 })

  none_of : (mounts : Map Mount) (q : Text) (v : Bool) → IsMountAt old q (get mounts q)
      → (in_range : IsSomeIn IsMountInRange (cond v None (get mounts q)))
      × ((if v then None else old kind.Mount q) ≡ option_map mount_row (cond v None (get mounts q)))
  none_of mounts q true at = (λ x is. absurd (none-some x is), refl)
  none_of mounts q false at = (at.in_range, at.row)

  pub mounts_gone : (mounts : Map Mount) → new ≡ without_row old kind.Mount name → AreMounts old mounts
      → AreMounts new (without mounts name)
  mounts_gone mounts e are q =
      let one = none_of mounts q (same q name) (are q) in
      subst (λ o. IsMountAt new q o) (sym (get-without mounts name q))
      (record { in_range = one.0; row = (λ i. e i kind.Mount q) ∙ one.1 })

-- ---- a mount that is there or not, and then the mounts with it

pub ends_then : {X Y : Type 0} (r : Result Mount Refusal) (m : Mount) (P : X → Y → Type 0) (x : X) (f : Mount → Y)
    → r ≡ Ok m → P x (f m)
    → EndsOk P x (r >>= (λ z. Ok (f z)))
ends_then r m P x f is p = subst (λ z. EndsOk P x (z >>= (λ z. Ok (f z)))) (sym is) p

pub some_mapped : {X Y : Type 0} (f : X → Y) (o : Option X) → is_some (option_map f o) ≡ is_some o
some_mapped f None = refl
some_mapped f (Some x) = refl

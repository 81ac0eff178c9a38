-- Laws of routes and of mounts, as statements (this project's).
use Rattle.std.specs.Prelude.{◌≡◌, ◌≤◌, ℕ, List, length, true, false, All, Option, Some, None, Ok}
use Rattle.records.specs.Words.{Text, Map, Broker, Mount, Evolves, Forms, Sound, SoundMounts, of_mounts, Tells, Table}
use Rattle.mounts.specs.declared.mount_type.MountType.{MountType}
use Rattle.mounts.specs.Forms.{form_of, has_form, are_bytes}
use Rattle.mounts.specs.MountRows.{AreMounts}
use Rattle.mounts.specs.Mounts.{enabled, disabled}
use Rattle.mounts.specs.Patterns.{pattern_found, is_in_order, has_pattern}
use Rattle.mounts.specs.Route.{operation_for}
use Rattle.mounts.specs.RouteRow.{RouteRow}
use Rattle.mounts.specs.RouteTable.{route_rows}

-- ---- the table

-- the rows of each type of mounts are in order
abbrev pub AreInOrder : Type 0
AreInOrder = (type : MountType) → is_in_order (route_rows type) ≡ true

-- in a table in order, the verb and the pattern of each row mean its operation
abbrev pub RowsAreRoutes : Type 0
RowsAreRoutes =
    (rows : List RouteRow) → is_in_order rows ≡ true
    → All (λ (r : RouteRow). operation_for rows r.pattern r.verb ≡ Some r.operation) rows

-- The pattern is of the table, the path has its form, and each other pattern of the table that the path has the form of
-- has a shorter text before its parameter.
pub record IsForm (rows : List RouteRow) (path pattern : Text) : Type 0 where
  pub listed : has_pattern rows pattern ≡ true
  pub form : has_form (form_of pattern) path ≡ true
  pub longest : (other : Text) → has_pattern rows other ≡ true → has_form (form_of other) path ≡ true
      → length (form_of other).literal ≤ length (form_of pattern).literal
  pub only : (other : Text) → has_pattern rows other ≡ true → has_form (form_of other) path ≡ true
      → length (form_of other).literal ≡ length (form_of pattern).literal → other ≡ pattern

-- in a table in order, the path has the form of the pattern that it finds
abbrev pub FoundByForm : Type 0
FoundByForm =
    (rows : List RouteRow) (path pattern : Text) → is_in_order rows ≡ true → are_bytes path ≡ true
    → pattern_found rows path ≡ Some pattern → IsForm rows path pattern

-- and there is one such pattern at most
abbrev pub OneByForm : Type 0
OneByForm = (rows : List RouteRow) (path p q : Text) → IsForm rows path p → IsForm rows path q → p ≡ q

-- and if it finds none, it has the form of none
abbrev pub NoneFoundByForm : Type 0
NoneFoundByForm =
    (rows : List RouteRow) (path pattern : Text) → is_in_order rows ≡ true → are_bytes path ≡ true
    → pattern_found rows path ≡ None → has_pattern rows pattern ≡ true → has_form (form_of pattern) path ≡ false

-- ---- mounts

-- a mount that is enabled leaves a sound broker sound
abbrev pub EnableKeepsSoundness : Type 0
EnableKeepsSoundness =
    (forms : Forms) (who : Option Text) (b : Broker) (name type : Text) (version : Option ℕ) (next : Map Mount)
    → Sound forms who b → enabled b.mounts name type version ≡ Ok next → Sound forms who (record b { mounts = next })

-- and so does a mount that is disabled
abbrev pub DisableKeepsSoundness : Type 0
DisableKeepsSoundness =
    (forms : Forms) (who : Option Text) (b : Broker) (name : Text) (next : Map Mount)
    → Sound forms who b → disabled b.mounts name ≡ Ok next → Sound forms who (record b { mounts = next })

-- any mounts let a broker evolve
abbrev pub MountsEvolve : Type 0
MountsEvolve = (b : Broker) (next : Map Mount) → Evolves b (record b { mounts = next })

-- the rows of mounts are those of a broker exactly if they are those of its mounts
abbrev pub MountsAreTold : Type 0
MountsAreTold =
    (rows : Table) (b : Broker) → SoundMounts b.mounts
    → (Tells of_mounts rows b → AreMounts rows b.mounts) × (AreMounts rows b.mounts → Tells of_mounts rows b)

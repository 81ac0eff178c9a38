-- The paths below `cubbyhole/` have the routes of cubbyholes.
use Rattle.std.proofs.Common.{◌≡◌, ◌≢◌, ◌++◌, ◌∷◌, [], Option, Some, Ok, Err, codes, refl, sym, ◌∙◌, ap}
use Rattle.broker_model.specs.Words.{none-some, Mount, ◌>>=◌, some_or, Text, same, Verb, Table, found_alone, AreInOrder}
use Rattle.broker_model.specs.Words.{FoundByForm, NoneFoundByForm, IsKnownAt, pattern_found, cut, methods_of}
use Rattle.broker_model.specs.Words.{operation_for, route_at, route_by, route_rows, CubbyholeOperation, Operation}
use Rattle.broker_model.specs.Words.{Cubbyholes, MeansBelowCubbyhole, ListsTheWhole, AllowsListAlone, list_alone}
use Rattle.broker_types.specs.declared.ask.Verb.TheVariants as verb
use Rattle.broker_types.specs.declared.refusal.Refusal.TheVariants as refusal
use Rattle.mounts.specs.declared.mount_type.MountType.TheVariants as mount

module _ (found : FoundByForm) (none : NoneFoundByForm) where
  -- ---- the routes of cubbyholes

  -- what the row of the verb and of `{*path}` says holds of each path within the mount
  pub means_there : AreInOrder → (v : Verb) (operation : CubbyholeOperation)
      → operation_for (route_rows mount.Cubbyhole) (codes "{*path}") v ≡ Some (Cubbyholes operation)
      → MeansBelowCubbyhole v operation
  unfolding route_at same
  means_there ordered v operation row o b path bytes =
      let rows = route_rows mount.Cubbyhole in
      let there = found_alone found none rows (b ∷ path) (codes "{*path}")
      (ordered mount.Cubbyhole) bytes refl refl refl in
      ap (λ z. some_or refusal.NotFound z >>= route_by rows v (codes "cubbyhole") (b ∷ path)) there
      ∙ ap (λ z. some_or (refusal.MethodNotAllowed (methods_of rows (codes "{*path}"))) z
      >>= (λ (x : Operation). Ok (record { operation = x; mount = codes "cubbyhole"; parameter = b ∷ path }))) row

  -- ---- the whole cubbyhole

  there_itself : AreInOrder → pattern_found (route_rows mount.Cubbyhole) [] ≡ Some []
  unfolding same
  there_itself ordered = found_alone found none (route_rows mount.Cubbyhole) [] []
      (ordered mount.Cubbyhole) refl refl refl refl

  -- the row of LIST and of the empty pattern is that of the whole
  pub lists_whole : AreInOrder → ListsTheWhole
  unfolding route_at same
  lists_whole ordered o =
      ap (λ z. some_or refusal.NotFound z >>= route_by (route_rows mount.Cubbyhole) verb.List (codes "cubbyhole") [])
      (there_itself ordered)

  -- and no row of it has another verb
  pub lists_alone : AreInOrder → AllowsListAlone
  unfolding route_at same
  lists_alone ordered o v other =
      ap (λ z. some_or refusal.NotFound z >>= route_by (route_rows mount.Cubbyhole) v (codes "cubbyhole") [])
      (there_itself ordered)
      ∙ not_list v other
    where
      not_list : (v : Verb) → v ≢ verb.List
          → route_by (route_rows mount.Cubbyhole) v (codes "cubbyhole") [] []
          ≡ Err (refusal.MethodNotAllowed list_alone)
      not_list verb.Get n = refl
      not_list verb.List n = absurd (n refl)
      not_list verb.Write n = refl
      not_list verb.Delete n = refl

pub always_there : (rows : Table) (o : Option Mount) (path : Text)
    → IsKnownAt rows (cut (codes "cubbyhole/" ++ path)).0 o
unfolding same
always_there rows o path none = absurd (none-some _ (sym none))

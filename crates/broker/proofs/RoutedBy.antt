-- By which row of which table a path has its route.
use Rattle.std.proofs.Common.{◌≡◌, ◌∷◌, List, [], cond, Bool, true, false, Option, Some, Ok, sym, ◌∙◌, ap}
use Rattle.broker_model.specs.Words.{find, list_all, and_parts, none-some, same_Some, Mount, mapped, some_or, ok_step}
use Rattle.broker_model.specs.Words.{some_ok, Text, Verb, ok_inj, pattern_found, is_row, Route, cut, methods_of}
use Rattle.broker_model.specs.Words.{operation_for, route_at, RouteRow, route_rows, type_at, MountType, Operation}
use Rattle.broker_types.specs.declared.refusal.Refusal.TheVariants as refusal

-- what passes in all elements passes in the one that is found
found_passes : (p q : RouteRow → Bool) (rows : List RouteRow) (r : RouteRow) → list_all q rows ≡ true
    → find p rows ≡ Some r → q r ≡ true
found_passes p q [] r all e = absurd (none-some _ e)
found_passes p q (s ∷ rows) r all e =
    let parts = and_parts (q s) (list_all q rows) all in
    elim (p s) as (λ v. cond v (Some s) (find p rows) ≡ Some r → q r ≡ true) [
      | true ↦ λ is. ap q (sym (same_Some _ _ is)) ∙ parts.0
      | false ↦ λ is. found_passes p q rows r parts.1 is
    ] e

-- a route has the type of what is at its first segment, one of whose rows has its operation
pub record IsRoutedBy (o : Option Mount) (path : Text) (r : Route) : Type 0 where
  pub type : MountType
  pub there : type_at o (cut path).0 ≡ Some type
  pub mount : r.mount ≡ (cut path).0
  pub passes : (q : Operation → Bool) → list_all (λ (x : RouteRow). q x.operation) (route_rows type) ≡ true
      → q r.operation ≡ true

pub routed_by : (o : Option Mount) (v : Verb) (path : Text) (r : Route) → route_at o v path ≡ Ok r → IsRoutedBy o path r
unfolding route_at
routed_by o v path r h =
    let type = ok_step (some_or refusal.NotFound (type_at o (cut path).0)) _ r h in
    let rows = route_rows type.0 in
    let pattern = ok_step (some_or refusal.NotFound (pattern_found rows (cut path).1)) _ r type.2 in
    let operation = ok_step (some_or (refusal.MethodNotAllowed (methods_of rows pattern.0))
    (operation_for rows pattern.0 v)) _ r pattern.2 in
    let row = mapped (λ (x : RouteRow). x.operation) (find (is_row pattern.0 v) rows) operation.0
    (some_ok _ _ operation.0 operation.1) in
    let is = ok_inj operation.2 in
    record {
      type = type.0;
      there = some_ok _ _ type.0 type.1;
      mount = ap (λ (x : Route). x.mount) (sym is);
      passes = λ q all.
          ap (λ (x : Route). q x.operation) (sym is) ∙ ap q row.2
          ∙ found_passes (is_row pattern.0 v) (λ x. q x.operation) rows row.0 all row.1;
    }

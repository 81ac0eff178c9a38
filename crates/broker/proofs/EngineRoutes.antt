-- The routes to operations of engines lead to mounts that are there.
use Rattle.std.proofs.Common.{◌≡◌, if◌then◌else◌, Bool, true, false, not, Option, Some, None, Ok, codes, refl, sym, ◌∙◌}
use Rattle.broker_model.specs.Words.{list_all, ap, false≢true, none-some, same_Some, Broker, Mount, get, is_mount_name}
use Rattle.broker_model.specs.Words.{SoundMounts, Text, same, Verb, or_else, Route, cut, route_of, RouteRow, route_rows}
use Rattle.broker_model.specs.Words.{fixed_type, type_at, MountType, Operation}
use Rattle.mounts.specs.declared.mount_type.MountType.TheVariants as mount
use Rattle.broker_rows.specs.Words.{is_of_engine}
use Rattle.broker.proofs.RoutedBy.{routed_by}

-- whether the mounts of a type are those of an engine
is_engine : MountType → Bool
is_engine mount.Kv = true
is_engine mount.Issued = true
is_engine _ = false

-- only such mounts have operations of engines
elsewhere : (type : MountType) (r : Route) → is_of_engine r.operation ≡ true
    → ((q : Operation → Bool) → list_all (λ (x : RouteRow). q x.operation) (route_rows type) ≡ true
    → q r.operation ≡ true)
    → is_engine type ≡ true
unfolding is_engine
elsewhere mount.Kv r is passes = refl
elsewhere mount.Issued r is passes = refl
elsewhere mount.Token r is passes = absurd (false≢true (sym (ap not is) ∙ passes (λ o. not (is_of_engine o)) refl))
elsewhere mount.System r is passes = absurd (false≢true (sym (ap not is) ∙ passes (λ o. not (is_of_engine o)) refl))
elsewhere mount.Cubbyhole r is passes = absurd (false≢true (sym (ap not is) ∙ passes (λ o. not (is_of_engine o)) refl))

-- and none of them is always there
not_fixed : (a b c : Bool) (type : MountType) → is_engine type ≡ true
    → (if a then Some mount.Token else (if b then Some mount.System else (if c then Some mount.Cubbyhole else None)))
    ≡ Some type → ⊥
unfolding is_engine
not_fixed true b c type engine h = false≢true (ap is_engine (same_Some _ _ h) ∙ engine)
not_fixed false true c type engine h = false≢true (ap is_engine (same_Some _ _ h) ∙ engine)
not_fixed false false true type engine h = false≢true (ap is_engine (same_Some _ _ h) ∙ engine)
not_fixed false false false type engine h = none-some _ h

mount_there : (o : Option Mount) (name : Text) (type : MountType) → is_engine type ≡ true → type_at o name ≡ Some type
    → (m : Mount) × (o ≡ Some m)
mount_there (Some m) name type engine h = (m, refl)
mount_there None name type engine h =
    absurd (not_fixed (same name (codes "auth")) (same name (codes "sys")) (same name (codes "cubbyhole")) type engine
    (bare (fixed_type name) h))
  where
    bare : (o : Option MountType) → or_else o None ≡ Some type → o ≡ Some type
    bare None h = h
    bare (Some t) h = h

-- so their mounts have names of mounts
pub mount_named : (b : Broker) (v : Verb) (path : Text) (r : Route) → SoundMounts b.mounts
    → route_of b.mounts v path ≡ Ok r
    → is_of_engine r.operation ≡ true → is_mount_name r.mount ≡ true
mount_named b v path r sound h is =
    let by = routed_by (get b.mounts (cut path).0) v path r h in
    let m = mount_there (get b.mounts (cut path).0) (cut path).0 by.type (elsewhere by.type r is by.passes) by.there in
    ap is_mount_name by.mount ∙ (sound (cut path).0 m.0 m.1).mount_name

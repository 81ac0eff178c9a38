-- Which mounts the list shows.
use Rattle.std.proofs.Common.{◌≡◌, ◌≢◌, ◌∷◌}
use Rattle.broker_model.specs.Words.{List, [], map, true, false, cond, Some, None, codes, option_map, refl, fold}
use Rattle.broker_model.specs.Words.{lookup, sym, ◌∙◌, ap, subst, inl, inr, All-head, All-tail, none-some, Text, same}
use Rattle.broker_model.specs.Words.{text_cmp, same_true, Map, empty, entries, get, map_values, put, with_values}
use Rattle.broker_model.specs.Words.{entries-map_values, get-lookup, get-map_values, Engine, Mount, issued, kv, mapped}
use Rattle.broker_model.specs.Words.{put_is, put_keeps, put_there, each_entry, listed_types, printed, typed, with_type}
use Rattle.broker_model.specs.Words.{engine_type, type_of, MountType, MountObject, shown_mount, get-empty}
use Rattle.histories.specs.Words.{All, IsMountShown, mount_shown}

-- ---- types put one after another

-- what each of them and each entry passes, all pass
only_of : (P : Text → MountType → Type 0) (ms : List (Text × Mount)) (types : Map MountType)
    → ((q : Text) (t : MountType) → get types q ≡ Some t → P q t)
    → All (λ (m : Text × Mount). P (printed m.0) (type_of m.1)) ms
    → (q : Text) (t : MountType) → get (fold with_type types (map typed ms)) q ≡ Some t → P q t
only_of P [] types had each q t e = had q t e
only_of P (m ∷ ms) types had each q t e =
    let first = All-head (λ (m : Text × Mount). P (printed m.0) (type_of m.1)) m ms each in
    only_of P ms (put types (printed m.0) (type_of m.1))
    (λ r u is. put_is types (printed m.0) (type_of m.1) r u (P r u) is
    (λ here at. subst (λ z. P z u) (sym here) (subst (P (printed m.0)) (sym at) first)) (had r u))
    (All-tail (λ (m : Text × Mount). P (printed m.0) (type_of m.1)) m ms each) q t e

-- none goes
stays : (ms : List (Text × Mount)) (types : Map MountType) (q : Text) → get types q ≢ None
    → get (fold with_type types (map typed ms)) q ≢ None
stays [] types q there = there
stays (m ∷ ms) types q there =
    stays ms (put types (printed m.0) (type_of m.1)) q (put_keeps types (printed m.0) (type_of m.1) q there)

-- and each entry comes
comes : (ms : List (Text × Mount)) (types : Map MountType) (name : Text) (x : Mount) → lookup (same name) ms ≡ Some x
    → get (fold with_type types (map typed ms)) (printed name) ≢ None
comes [] types name x e = absurd (none-some _ e)
comes (m ∷ ms) types name x e =
    let next = put types (printed m.0) (type_of m.1) in
    elim (same name m.0) as (λ v. same name m.0 ≡ v → cond v (Some m.1) (lookup (same name) ms) ≡ Some x
    → get (fold with_type next (map typed ms)) (printed name) ≢ None) [
      | true ↦ λ at _. stays ms next (printed name)
          (subst (λ z. get next (printed z) ≢ None) (sym (same_true name m.0 at))
          (put_there types (printed m.0) (type_of m.1)))
      | false ↦ λ _ rest. comes ms next name x rest
    ] refl e

-- ---- the list

module _ (mounts : Map Mount) where
  abbrev own : Map MountType
  own = fold with_type empty (map typed (entries mounts))

  abbrev with_cubbyhole : Map MountType
  with_cubbyhole = put own (printed (codes "cubbyhole")) MountType.Cubbyhole

  -- the mounts by their printed names
  abbrev pub objects : Map MountObject
  objects = map_values (λ q t. shown_mount (q, t)) (listed_types mounts)

  -- a mount of an engine as it is shown
  of_engine : (name : Text) (engine : Engine) → shown_mount (name, engine_type engine) ≡ mount_shown name engine
  of_engine name kv = refl
  of_engine name issued = refl

  each_shown : (q : Text) (t : MountType) → get (listed_types mounts) q ≡ Some t
      → IsMountShown mounts (shown_mount (q, t))
  each_shown q t e =
      put_is with_cubbyhole (printed (codes "sys")) MountType.System q t (IsMountShown mounts (shown_mount (q, t))) e
      (λ here is. inl (λ i. shown_mount (here i, is i)))
      (λ e. put_is own (printed (codes "cubbyhole")) MountType.Cubbyhole q t (IsMountShown mounts (shown_mount (q, t)))
      e
      (λ here is. inr (inl (λ i. shown_mount (here i, is i))))
      (only_of (λ q t. IsMountShown mounts (shown_mount (q, t))) (entries mounts) empty
      (λ q t e. absurd (none-some _ (sym (get-empty text_cmp q) ∙ e)))
      (each_entry (λ (m : Text × Mount). IsMountShown mounts (shown_mount (printed m.0, type_of m.1))) mounts
      (λ name m there. inr (inr (name, m, there, of_engine (printed name) m.engine)))) q t))

  pub only_shown : (q : Text) (x : MountObject) → get objects q ≡ Some x → (q ≡ x.name) × IsMountShown mounts x
  only_shown q x e =
      let t = mapped (λ t. shown_mount (q, t)) (get (listed_types mounts) q) x
      (sym (get-map_values (λ q t. shown_mount (q, t)) (listed_types mounts) q) ∙ e) in (
        ap (λ (z : MountObject). z.name) (sym t.2),
        subst (IsMountShown mounts) (sym t.2) (each_shown q t.0 t.1),
      )

  -- a name that has a type has an object
  has_object : (q : Text) → get (listed_types mounts) q ≢ None → get objects q ≢ None
  has_object q there none = by (get (listed_types mounts) q) refl
    where
      by : (o : _) → get (listed_types mounts) q ≡ o → ⊥
      by None e = there e
      by (Some t) e = none-some _ (sym none ∙ get-map_values (λ q t. shown_mount (q, t)) (listed_types mounts) q
          ∙ ap (option_map (λ t. shown_mount (q, t))) e)

  pub own_shown : (name : Text) → get mounts name ≢ None → get objects (printed name) ≢ None
  own_shown name there = has_object (printed name) (put_keeps with_cubbyhole (printed (codes "sys")) MountType.System _
      (put_keeps own (printed (codes "cubbyhole")) MountType.Cubbyhole _ (by (get mounts name) refl)))
    where
      by : (o : _) → get mounts name ≡ o → get own (printed name) ≢ None
      by None e = absurd (there e)
      by (Some m) e = comes (entries mounts) empty name m (sym (get-lookup mounts name) ∙ e)

  pub system_shown : get objects (codes "sys/") ≢ None
  system_shown = has_object (codes "sys/") (put_there with_cubbyhole (printed (codes "sys")) MountType.System)

  pub cubbyhole_shown : get objects (codes "cubbyhole/") ≢ None
  cubbyhole_shown = has_object (codes "cubbyhole/")
      (put_keeps with_cubbyhole (printed (codes "sys")) MountType.System (codes "cubbyhole/")
      (put_there own (printed (codes "cubbyhole")) MountType.Cubbyhole))

  flat : (ts : List (Text × MountType))
      → map (λ (e : Text × MountObject). e.1) (with_values (λ q t. shown_mount (q, t)) ts)
      ≡ map shown_mount ts
  flat [] = refl
  flat (t ∷ ts) = ap (λ xs. shown_mount t ∷ xs) (flat ts)

  -- the objects are those of the list
  pub in_order : map (λ (e : Text × MountObject). e.1) (entries objects)
      ≡ map shown_mount (entries (listed_types mounts))
  in_order = ap (map (λ (e : Text × MountObject). e.1))
      (entries-map_values (λ q t. shown_mount (q, t)) (listed_types mounts)) ∙ flat (entries (listed_types mounts))

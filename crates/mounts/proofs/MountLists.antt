-- The list of mounts, from the rows of mounts.
use Rattle.std.proofs.Common.{◌≡◌, ◌<◌, ◌+◌, ◌∷◌, ℕ, List, [], map, length, take, get_or, codes, All, refl, ◌∙◌, ap}
use Rattle.records.specs.Words.{nat_list_cmp_total, fold, arith, get_or-map, length-map, map_more, fold-append, Text}
use Rattle.records.specs.Words.{Map, empty, entries, entries-empty, each_entry, Mount, kv, RowKey, rows_under-listing}
use Rattle.records.specs.Words.{IsMountInRange, mount_row, table_of, Rows, rows_under}
use Rattle.std.specs.FinMap as fin
use Rattle.records.specs.declared.kind.Kind.TheVariants as kind
use Rattle.mounts.specs.Words.{Row, MountType, AreMounts, at_mount, placed, in_places, typed, printed, with_type}
use Rattle.mounts.specs.Words.{listed, plain_mount}
use Rattle.mounts.specs.declared.mount_type.MountType.TheVariants as mount

entries-fold : (types : Map MountType) (ms : List (Text × MountType))
    → entries (fold with_type types ms) ≡ fold placed (entries types) ms
entries-fold types [] = refl
entries-fold types (m ∷ ms) =
    entries-fold (with_type types m) ms ∙ ap (λ es. fold placed es ms)
    (fin.entries-insert nat_list_cmp_total types (printed m.0) m.1)

-- the list is that of the mounts with rows, and two more put in their places
pub listed_is : (mounts : Map Mount) → listed mounts
    ≡ placed (placed (in_places (map typed (entries mounts))) (codes "cubbyhole", mount.Cubbyhole))
    (codes "sys", mount.System)
listed_is mounts =
    let types : Map MountType = fold with_type empty (map typed (entries mounts)) in
    fin.entries-insert nat_list_cmp_total (with_type types (codes "cubbyhole", mount.Cubbyhole))
    (printed (codes "sys")) mount.System
    ∙ ap (λ es. placed es (codes "sys", mount.System))
    (fin.entries-insert nat_list_cmp_total types (printed (codes "cubbyhole")) mount.Cubbyhole
    ∙ ap (λ es. placed es (codes "cubbyhole", mount.Cubbyhole)) (entries-fold empty (map typed (entries mounts))
    ∙ ap (λ es. fold placed es (map typed (entries mounts))) entries-empty))

-- the rows of mounts are those of the entries, in their order
pub rows_are : (rows : Rows) (mounts : Map Mount) → AreMounts (table_of rows) mounts
    → rows_under rows kind.Mount [] ≡ map at_mount (entries mounts)
rows_are rows mounts are = rows_under-listing kind.Mount (λ q. mount_row) rows mounts (λ q. (are q).row)

-- and each mount is in range
pub each_in_range : (rows : Rows) (mounts : Map Mount) → AreMounts (table_of rows) mounts
    → All (λ (m : Text × Mount). IsMountInRange m.1) (entries mounts)
each_in_range rows mounts are = each_entry (λ m. IsMountInRange m.1) mounts (λ t x h. (are t).in_range x h)

-- ---- rows read, one after another

-- a mount, for places past the end
abbrev pub none : Text × Mount
none = ([], plain_mount kv)

module _ (rows : List (RowKey × Row)) (mounts : List (Text × Mount)) (i : ℕ) (eq : rows ≡ map at_mount mounts) where
  as_long : length rows ≡ length mounts
  as_long = ap length eq ∙ length-map mounts at_mount

  pub within_mounts : i < length rows → i < length mounts
  within_mounts h = let e = as_long in omega (arith, e, h)

  pub row_at : (d : RowKey × Row) → i < length rows → get_or rows i d ≡ at_mount (get_or mounts i none)
  row_at d h = ap (λ rs. get_or rs i d) eq ∙ get_or-map at_mount mounts i none d (within_mounts h)

-- one more mount put in its place
pub one_placed : (mounts : List (Text × Mount)) (i : ℕ) → i < length mounts
    → in_places (map typed (take (i + 1) mounts)) ≡ placed (in_places (map typed (take i mounts)))
    (typed (get_or mounts i none))
one_placed mounts i inside =
    ap in_places (map_more typed mounts i none inside)
    ∙ fold-append placed [] (map typed (take i mounts)) (typed (get_or mounts i none) ∷ [])

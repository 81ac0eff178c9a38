-- Laws of cubbyholes, as statements (this project's; Vault's documentation, "Cubbyhole secrets engine").
use Rattle.std.specs.Prelude.{◌≡◌, ◌∷◌, if◌then◌else◌, List, [], length, nat_eq, true, is_some, Option, Some, None}
use Rattle.records.specs.Words.{option_and_then, starts_with, Text, same, Broker, Evolves, Forms, Sound, IsPathText}
use Rattle.records.specs.Words.{IsObjectText, has, of_cubbyholes, Tells, cubby_row, token_len, Table, table_of}
use Rattle.records.specs.Words.{with_row, without_row, without_under, without_owned, Rows}
use Rattle.records.specs.declared.kind.Kind.TheVariants as kind
use Rattle.records.specs.declared.row.Row.{Row}
use Rattle.cubbyhole.specs.Cubbyhole.{object_at, write, delete, drop_owner}
use Rattle.cubbyhole.specs.Objects.{object_key, children_in, IsObjectAt, IsDamagedAt, KeepsOtherOwners, AreFiled}

-- ---- soundness is kept, whoever may have spent its last use

-- a write of an object at a path leaves a sound broker sound
abbrev pub WriteKeepsSoundness : Type 0
WriteKeepsSoundness =
    (forms : Forms) (who : Option Text) (b : Broker) (t path object : Text) → Sound forms who b
    → IsPathText path → IsObjectText forms object → Sound forms who (write b t path object)

-- and so does a deletion
abbrev pub DeleteKeepsSoundness : Type 0
DeleteKeepsSoundness =
    (forms : Forms) (who : Option Text) (b : Broker) (t path : Text) → Sound forms who b
    → Sound forms who (delete b t path)

-- and a cubbyhole that is dropped
abbrev pub DropKeepsSoundness : Type 0
DropKeepsSoundness =
    (forms : Forms) (who : Option Text) (b : Broker) (t : Text) → Sound forms who b → Sound forms who (drop_owner b t)

-- ---- brokers evolve

-- a write lets a broker evolve
abbrev pub WriteEvolves : Type 0
WriteEvolves = (b : Broker) (t path object : Text) → Evolves b (write b t path object)

-- and so does a deletion
abbrev pub DeleteEvolves : Type 0
DeleteEvolves = (b : Broker) (t path : Text) → Evolves b (delete b t path)

-- and a cubbyhole that is dropped
abbrev pub DropEvolves : Type 0
DropEvolves = (b : Broker) (t : Text) → Evolves b (drop_owner b t)

-- ---- tokens that ended

-- the table without the rows of the cubbyholes of tokens
abbrev pub without_cubbyholes : Table → List Text → Table
without_cubbyholes rows [] = rows
without_cubbyholes rows (t ∷ owners) = without_cubbyholes (without_under rows kind.Cubby (object_key t [])) owners

-- If tokens of b have ended in c, and each one's cubbyhole was dropped from the rows of b, the rows are those of c.
abbrev pub EndedLeaveNothing : Type 0
EndedLeaveNothing =
    (b c : Broker) (ended : List Text) (rows : Table)
    → ((t : Text) → has ended t ≡ true → length t ≡ token_len)
    → Tells of_cubbyholes rows b
    → ((t path : Text) → object_at c t path ≡ (if has ended t then None else object_at b t path))
    → Tells of_cubbyholes (without_cubbyholes rows ended) c

-- ---- the rows of one cubbyhole tell its answers

-- the tables have the same rows of cubbyholes at keys that begin with the token and a slash
abbrev pub HaveOneCubbyhole : Text → Table → Table → Type 0
HaveOneCubbyhole t rows others =
    (q : Text) → starts_with nat_eq q (object_key t []) ≡ true → rows kind.Cubby q ≡ others kind.Cubby q

-- then the same object, or none, is found at a path
abbrev pub AreReadAlike : Type 0
AreReadAlike =
    (rows others : Table) (t path : Text) (x y : Option Text) → HaveOneCubbyhole t rows others
    → IsObjectAt rows t path x → IsObjectAt others t path y → x ≡ y

-- a row that is damaged in the one is damaged in the other
abbrev pub AreDamagedAlike : Type 0
AreDamagedAlike =
    (rows others : Table) (t path : Text) → HaveOneCubbyhole t rows others → IsDamagedAt rows t path
    → IsDamagedAt others t path

-- a path where something is in the one is such a path in the other
abbrev pub AreThereAlike : Type 0
AreThereAlike =
    (rows others : Table) (t path : Text) → HaveOneCubbyhole t rows others
    → is_some (rows kind.Cubby (object_key t path)) ≡ is_some (others kind.Cubby (object_key t path))

-- and each folder has the same children
abbrev pub AreListedAlike : Type 0
AreListedAlike =
    (rows others : Rows) (t path : Text) → HaveOneCubbyhole t (table_of rows) (table_of others)
    → children_in rows t path ≡ children_in others t path

-- ---- rows filed under their owners

-- the rows that tell a broker's cubbyholes are filed under their owners
abbrev pub BrokersAreFiled : Type 0
BrokersAreFiled = (rows : Table) (b : Broker) → Tells of_cubbyholes rows b → AreFiled rows

-- a write leaves them filed
abbrev pub WriteKeepsFiled : Type 0
WriteKeepsFiled =
    (rows : Table) (t path object : Text) → AreFiled rows → length t ≡ token_len
    → AreFiled (with_row rows kind.Cubby (object_key t path) (cubby_row t object))

-- and so does a deletion
abbrev pub DeleteKeepsFiled : Type 0
DeleteKeepsFiled =
    (rows : Table) (t path : Text) → AreFiled rows → AreFiled (without_row rows kind.Cubby (object_key t path))

-- and a cubbyhole that is dropped
abbrev pub DropKeepsFiled : Type 0
DropKeepsFiled =
    (rows : Table) (t : Text) → AreFiled rows → AreFiled (without_under rows kind.Cubby (object_key t []))

-- where they are filed, a key begins with a token and a slash if the token owns the row, and only then
abbrev pub KeysTellOwners : Type 0
KeysTellOwners =
    (rows : Table) (t q : Text) (row : Row) → AreFiled rows → length t ≡ token_len → rows kind.Cubby q ≡ Some row
    → starts_with nat_eq q (object_key t []) ≡ same row.owner t

-- the row, if the owner has it
abbrev pub if_owned : Text → Option Row → Option Row
if_owned owner o = option_and_then (λ (r : Row). if same r.owner owner then Some r else None) o

-- so tables with the same rows of an owner have one cubbyhole of it
abbrev pub OwnersHaveOneCubbyhole : Type 0
OwnersHaveOneCubbyhole =
    (rows others : Table) (t : Text) → AreFiled rows → AreFiled others → length t ≡ token_len
    → ((q : Text) → if_owned t (rows kind.Cubby q) ≡ if_owned t (others kind.Cubby q)) → HaveOneCubbyhole t rows others

-- and what keeps the rows below the keys of other tokens keeps the rows of other owners
abbrev pub OtherOwnersKeepTheirs : Type 0
OtherOwnersKeepTheirs =
    (old new : Table) (t : Text) → AreFiled old → AreFiled new → length t ≡ token_len → KeepsOtherOwners t old new
    → without_owned new kind.Cubby t ≡ without_owned old kind.Cubby t

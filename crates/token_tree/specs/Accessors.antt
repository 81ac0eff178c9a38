-- The rows of accessors, whatever they are, and which of them name tokens (this project's definition).
use Rattle.std.specs.Prelude.{◌≡◌, ◌∷◌, ◌++◌, if◌then◌else◌, List, [], Bool, true, false, map, filter, Option, Some}
use Rattle.records.specs.Words.{None, option_map, option_and_then, AllByRecursion, Text, same, RowKey, accessor_row}
use Rattle.records.specs.Words.{Table, Rows, rows_under}
use Rattle.records.specs.declared.holder.Holder.{Holder}
use Rattle.records.specs.declared.holder.Holder.TheVariants as holder
use Rattle.records.specs.declared.kind.Kind.TheVariants as kind
use Rattle.records.specs.declared.row.Row.{Row}

-- ---- one accessor

-- what an accessor names: a text, and whether that is a token
abbrev pub Named : Type 0
Named = Text × Holder

-- whether a token is named
abbrev pub is_of_token : Holder → Bool
is_of_token holder.Token = true
is_of_token holder.WrappingToken = false

-- the row of an accessor
abbrev pub named_row : Named → Row
named_row n = accessor_row n.0 n.1

-- the token that is named
abbrev pub token_of : Named → Option Text
token_of n = if is_of_token n.1 then Some n.0 else None

-- the row of the accessor is that of what it names, or there is none
abbrev pub IsNamedAt : Table → Text → Option Named → Type 0
IsNamedAt rows accessor named = rows kind.Accessor accessor ≡ option_map named_row named

-- by its row the accessor names the token, or none
abbrev pub IsFoundAt : Table → Text → Option Text → Type 0
IsFoundAt rows accessor found =
    (named : Option Named) × IsNamedAt rows accessor named × (found ≡ option_and_then token_of named)

-- the row of the accessor is no row of an accessor
abbrev pub IsDamagedAccessor : Table → Text → Type 0
IsDamagedAccessor rows accessor = (named : Option Named) → IsNamedAt rows accessor named → ⊥

-- ---- all accessors

-- the row of an accessor, which can be read
abbrev pub IsAccessorRow : RowKey × Row → Type 0
IsAccessorRow e = (what : Holder) × (e.1 ≡ accessor_row e.1.owner what)

-- whether the accessor of the row names a token
abbrev pub names_token : Row → Bool
names_token row = same row.body (accessor_row row.owner holder.Token).body

-- the names, and the accessor if it names a token
abbrev pub with_accessor : RowKey × Row → List Text → List Text
with_accessor e names = if names_token e.1 then names ++ e.0.1 ∷ [] else names

-- the names, and the accessors among the entries that name tokens
abbrev pub with_accessors : List (RowKey × Row) → List Text → List Text
with_accessors [] names = names
with_accessors (e ∷ es) names = with_accessors es (with_accessor e names)

-- the keys of the rows of accessors that name tokens, in the order of their bytes
abbrev pub token_accessors : Rows → List Text
token_accessors rows = map (λ e. e.0.1) (filter (λ e. names_token e.1) (rows_under rows kind.Accessor []))

-- each row of an accessor can be read
abbrev pub AreAccessorRows : Rows → Type 0
AreAccessorRows rows = AllByRecursion IsAccessorRow (rows_under rows kind.Accessor [])

-- What the rows of accessors say of wrapping tokens, whatever they are, and what dropping by an accessor makes of them
-- (this project's row format).
use Rattle.std.specs.Prelude.{◌≡◌, ◌⊎◌, Bool, false, ⊤, Option, Some, None}
use Rattle.records.specs.Words.{Text, accessor_row, Table}
use Rattle.records.specs.declared.holder.Holder.TheVariants as holder
use Rattle.records.specs.declared.kind.Kind.TheVariants as kind
use Rattle.wrapping.specs.WaitingRows.{IsReadableWaiting, Drops}

-- by its row the accessor names the wrapping token, or none: there is no row, or it is that of a token's accessor
abbrev pub NamesAt : Table → Text → Option Text → Type 0
NamesAt rows accessor None =
    (rows kind.Accessor accessor ≡ None)
    ⊎ ((t : Text) × (rows kind.Accessor accessor ≡ Some (accessor_row t holder.Token)))
NamesAt rows accessor (Some t) = rows kind.Accessor accessor ≡ Some (accessor_row t holder.WrappingToken)

-- the row of the accessor is no row of an accessor
abbrev pub IsDamagedAccessor : Table → Text → Type 0
IsDamagedAccessor rows accessor = (found : Option Text) → NamesAt rows accessor found → ⊥

-- the row of the wrapping token that is named, if one is, is that of a response, or there is none
abbrev pub IsReadableNamed : Table → Option Text → Type 0
IsReadableNamed rows None = ⊤
IsReadableNamed rows (Some t) = IsReadableWaiting rows t

-- the row of the accessor can be read, and that of the wrapping token that it names
abbrev pub IsReadableName : Table → Text → Type 0
IsReadableName rows accessor = (found : Option Text) × NamesAt rows accessor found × IsReadableNamed rows found

-- one of these rows cannot be read
abbrev pub IsDamagedName : Table → Text → Type 0
IsDamagedName rows accessor = IsReadableName rows accessor → ⊥

-- the response of the wrapping token that is named is dropped; if none is named, nothing has changed
abbrev pub DropsNamed : Option Text → Table → Bool → Table → Type 0
DropsNamed None old dropped new = (dropped ≡ false) × (new ≡ old)
DropsNamed (Some t) old dropped new = Drops t old dropped new

-- the response of the wrapping token that the accessor names is dropped, if it names one
abbrev pub DropsAccessor : Text → Table → Bool → Table → Type 0
DropsAccessor accessor old dropped new =
    (found : Option Text) × NamesAt old accessor found × DropsNamed found old dropped new

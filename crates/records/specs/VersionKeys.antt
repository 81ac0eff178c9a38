-- Laws of the keys of versions, as statements (this project's).
use Rattle.std.specs.Prelude.{◌≡◌, ◌<◌, ◌≤◌, ◌^◌, ◌∷◌, ◌++◌, ℕ, Some}
use Rattle.broker_types.specs.Words.{nat_cmp, Text, text_cmp, greatest_version, IsSecretName}
use Rattle.records.specs.Rows.{padded, version_of_digits}
use Rattle.records.specs.Splits.{line_feed, split_once}

-- twenty digits say which version they are of
abbrev pub DigitsTellTheVersion : Type 0
DigitsTellTheVersion = (n : ℕ) → n ≤ greatest_version → version_of_digits (padded n) ≡ Some n

-- and no other text does
abbrev pub OnlyDigitsTellAVersion : Type 0
OnlyDigitsTellAVersion =
    (digits : Text) (n : ℕ) → version_of_digits digits ≡ Some n → (n ≤ greatest_version) × (digits ≡ padded n)

-- the digits of versions are in the order of the versions
abbrev pub DigitsAreInOrder : Type 0
DigitsAreInOrder = (m n : ℕ) → m < 2 ^ 64 → n < 2 ^ 64 → text_cmp (padded m) (padded n) ≡ nat_cmp m n

-- the name of a secret has no line feed, so a version's key is split after it
abbrev pub NamesAreSplitOff : Type 0
NamesAreSplitOff =
    (q digits : Text) → IsSecretName q → split_once line_feed (q ++ line_feed ∷ digits) ≡ Some (q, digits)

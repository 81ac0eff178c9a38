-- Texts of durations: groups of digits and a unit, or digits alone (Vault's documentation, "Duration format strings",
-- with the units h, m and s).
use Rattle.std.specs.Prelude.{◌≡◌, ◌≢◌, ◌≤◌, ◌⊎◌, ℕ, ◌+◌, ◌-◌, ◌*◌, ◌==◌, ◌&&◌, nat_le, List, [], ◌∷◌, ◌++◌, length}
use Rattle.std.specs.Prelude.{not, if◌then◌else◌, Option, Some, None, option_and_then, unwrap_or, All, sum_by}
use Rattle.std.specs.List.{list_all, flat_map}
use Rattle.std.specs.Char.{is_ascii_digit}
use Rattle.std.specs.Str.Parse.{IsNumeral, digits_value}

-- the seconds of a unit
abbrev pub unit_of : ℕ → Option ℕ
unit_of c = if c == 104 then Some 3600 else if c == 109 then Some 60 else if c == 115 then Some 1 else None

-- the group that a unit ends
abbrev pub group_end : ℕ → Option ℕ → Option ℕ → Option (ℕ × Option ℕ)
group_end sum None unit = None
group_end sum (Some n) None = None
group_end sum (Some n) (Some u) = Some (sum + n * u, None)

-- one byte: the sum of the groups so far, and the digits of the one begun
abbrev pub group_step : ℕ → Option ℕ → ℕ → Option (ℕ × Option ℕ)
group_step sum begun c =
    if is_ascii_digit c then Some (sum, Some (unwrap_or begun 0 * 10 + (c - 48))) else group_end sum begun (unit_of c)

-- only whole groups have a sum
abbrev pub whole_groups : ℕ → Option ℕ → Option ℕ
whole_groups sum None = Some sum
whole_groups sum (Some n) = None

-- the sum of the groups, from the bytes to come
abbrev pub groups : ℕ → Option ℕ → List ℕ → Option ℕ
groups sum begun [] = whole_groups sum begun
groups sum begun (c ∷ cs) = option_and_then (λ p. groups p.0 p.1 cs) (group_step sum begun c)

-- digits alone are seconds
abbrev pub with_unit : List ℕ → List ℕ
with_unit s = if not (length s == 0) && list_all is_ascii_digit s then s ++ 115 ∷ [] else s

-- the longest duration, in seconds: 2^32 - 1 (this project's limit)
abbrev pub longest_duration : ℕ
longest_duration = 4294967295

-- the seconds, unless they are more than that
abbrev pub at_most : Option ℕ → Option ℕ
at_most None = None
at_most (Some n) = if nat_le n longest_duration then Some n else None

-- the seconds of a text
abbrev pub duration_of : List ℕ → Option ℕ
duration_of s = at_most (groups 0 None (with_unit s))

-- ---- the same by its grammar (Vault's documentation, "duration format strings")

-- hours, minutes or seconds
pub data TimeUnit : Type 0 where
  hours minutes seconds : TimeUnit

-- the letter of a unit: `h`, `m` or `s`
abbrev pub unit_byte : TimeUnit → ℕ
unit_byte hours = 104
unit_byte minutes = 109
unit_byte seconds = 115

-- the seconds of a unit
abbrev pub unit_seconds : TimeUnit → ℕ
unit_seconds hours = 3600
unit_seconds minutes = 60
unit_seconds seconds = 1

-- one decimal digit or more, and a unit
pub record Group : Type 0 where
  pub digits : List ℕ
  pub unit : TimeUnit

-- it has one digit or more, all decimal
abbrev pub IsGroup : Group → Type 0
IsGroup g = IsNumeral 10 g.digits

-- the digits and the letter of the unit
abbrev pub group_text : Group → List ℕ
group_text g = g.digits ++ unit_byte g.unit ∷ []

-- the number times the seconds of its unit
abbrev pub group_seconds : Group → ℕ
group_seconds g = digits_value 10 g.digits * unit_seconds g.unit

-- digits alone are seconds
pub record IsCount (text : List ℕ) (n : ℕ) : Type 0 where
  pub numeral : IsNumeral 10 text
  pub value : n ≡ digits_value 10 text

-- one group or more, added up
pub record IsSum (text : List ℕ) (n : ℕ) : Type 0 where
  pub parts : List Group
  pub some : parts ≢ []
  pub each : All IsGroup parts
  pub joined : text ≡ flat_map group_text parts
  pub total : n ≡ sum_by group_seconds parts

-- the empty text is 0 seconds
abbrev pub IsEmptyText : List ℕ → ℕ → Type 0
IsEmptyText text n = (text ≡ []) × (n ≡ 0)

-- the text is a duration of n seconds
pub record IsDuration (text : List ℕ) (n : ℕ) : Type 0 where
  pub form : (IsEmptyText text n ⊎ IsCount text n) ⊎ IsSum text n
  pub fits : n ≤ longest_duration

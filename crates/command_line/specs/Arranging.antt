-- Command lines as people write them, put as `clap` reads them (this project's): the options of the client first.
use Rattle.std.specs.Prelude.{◌≡◌, ◌==◌, ◌&&◌, ◌||◌, ◌∷◌, ◌++◌, if◌then◌else◌, ℕ, nat_le, Bool, true, false, not, List}
use Rattle.std.specs.Prelude.{[]}
use Rattle.std.specs.Prelude.{codes, bytes_eq, fold, slice_get, map, string_bytes}
use Rattle.broker_types.specs.Words.{before_first, option_map_or, Text}
use Rattle.command_line.specs.declared.arranging.Placing.{Placing}

-- ---- words

-- an option that is written with one dash, as `-field`: the dash, a lower-case letter, and something more
abbrev pub is_letter : ℕ → Bool
is_letter b = nat_le 97 b && nat_le b 122

abbrev pub has_one_dash : Text → Bool
has_one_dash (a ∷ b ∷ c ∷ rest) = (a == 45) && is_letter b
has_one_dash word = false

-- the word, with two dashes
abbrev pub dashed : Text → Text
dashed word = if has_one_dash word then 45 ∷ word else word

-- an option of the client that is followed by its value
abbrev pub is_valued : Text → Bool
is_valued word =
    bytes_eq word (codes "--addr") || bytes_eq word (codes "--token") || bytes_eq word (codes "--wrap-ttl")
    || bytes_eq word (codes "--field") || bytes_eq word (codes "--token-file") || bytes_eq word (codes "--wait")
    || bytes_eq word (codes "--timeout")

-- what is before the first `=`
abbrev pub option_name : Text → Text
option_name word = before_first (λ b. b == 61) word

-- an option of the client, alone or with its value after `=`
abbrev pub is_option : Text → Bool
is_option word = is_valued (option_name word) || bytes_eq word (codes "--exit-codes")

-- ---- options first

-- the options of the client with their values, the other words, whether a value is waited for, and whether `--` ended
-- the options
pub record Placed : Type 0 where
  pub options : List Text
  pub others : List Text
  pub waits : Bool
  pub ended : Bool

abbrev pub nothing_placed : Placed
nothing_placed = record { options = []; others = []; waits = false; ended = false }

abbrev pub with_option : Bool → Text → Placed → Placed
with_option waits word p = record p { options = p.options ++ word ∷ []; waits = waits }

abbrev pub with_other : Text → Placed → Placed
with_other word p = record p { others = p.others ++ word ∷ [] }

-- a word that is no value
abbrev pub place_word : Text → Placed → Placed
place_word word p = if is_option word then with_option (is_valued word) word p else with_other word p

abbrev pub place : Placed → Text → Placed
place p word =
    if p.waits then with_option false word p
    else if p.ended then with_other word p
    else if bytes_eq word (codes "--") then with_other word (record p { ended = true })
    else place_word (dashed word) p

-- ---- commands of two words

-- the first word of commands of two words
abbrev pub is_group : Text → Bool
is_group word =
    bytes_eq word (codes "kv") || bytes_eq word (codes "token") || bytes_eq word (codes "policy")
    || bytes_eq word (codes "lease")

abbrev pub is_dash_first : Text → Bool
is_dash_first word = option_map_or (λ b. b == 45) (slice_get word 0) false

-- the words, where a command of two words is one word
abbrev pub paired : List Text → List Text
paired (group ∷ word ∷ rest) =
    if is_group group && not (is_dash_first word) then (group ++ codes " " ++ word) ∷ rest else group ∷ word ∷ rest
paired words = words

-- the same, also after `help`
abbrev pub joined : List Text → List Text
joined (word ∷ rest) = if bytes_eq word (codes "help") then word ∷ paired rest else paired (word ∷ rest)
joined [] = []

-- ---- command lines

-- the words of a line but the options of the client and the name of the program; a command of two words is one
abbrev pub command_words : List Text → List Text
command_words [] = []
command_words (program ∷ words) = joined (fold place nothing_placed words).others

-- the options, and then the other words, but none after an option without its value
abbrev pub line_placed : Placed → List Text
line_placed p = p.options ++ (if p.waits then [] else joined p.others)

-- The words of a line, the first of which is the name of the program: then come the options of the client, wherever
-- they stood before a word `--`, with two dashes; then the other words, of which a command of two words is one. After
-- an option at the end that lacks its value nothing comes, so that no word is taken for it.
unfoldable pub arranged : List Text → List Text
arranged [] = []
arranged (program ∷ words) = program ∷ line_placed (fold place nothing_placed words)

-- the words that the code has placed
abbrev pub placed_of : Placing → Placed
placed_of p = record {
  options = map string_bytes p.options.items;
  others = map string_bytes p.others.items;
  waits = p.waits;
  ended = p.ended;
}

-- Laws of the definitions (this project's). Each is a clause of a function of `src/laws.rt` that does nothing.
use Rattle.std.specs.Prelude.{◌≡◌, ◌&&◌, ◌||◌, ◌∷◌, if◌then◌else◌, Bool, true, false, not, List, [], codes, bytes_eq}
use Rattle.broker_types.specs.Words.{Text}
use Rattle.command_line.specs.Arranging.{arranged, has_one_dash, is_group, is_option, is_valued}

-- words of which none is an option of the client, or has one dash, up to a word `--`
abbrev pub are_others : List Text → Bool
are_others [] = true
are_others (word ∷ words) =
    bytes_eq word (codes "--") || (not (has_one_dash word) && (not (is_option word) && are_others words))

-- a command of one word
abbrev pub is_single : Text → Bool
is_single word = not (bytes_eq word (codes "help")) && not (is_group word)

-- Words as they had to stand before options could stand anywhere: options of the client with two dashes, each followed
-- by its value if it is not in the same word, and then a command of one word with its arguments. The first word may be
-- a value that is waited for.
abbrev pub are_in_order : Bool → List Text → Bool
are_in_order waits [] = not waits
are_in_order true (word ∷ words) = are_in_order false words
are_in_order false (word ∷ words) =
    if is_option word then not (has_one_dash word) && are_in_order (is_valued word) words
    else is_single word && are_others (word ∷ words)

-- A line whose words stand so is left as it is.
abbrev pub OrderIsKept : Type 0
OrderIsKept =
    (program : Text) (words : List Text) → are_in_order false words ≡ true
    → arranged (program ∷ words) ≡ program ∷ words

-- What is printed for a row is one line.
use Rattle.std.proofs.Common.{◌≡◌, ◌<◌, ◌+◌, ◌/◌, ◌%◌, ◌==◌, ◌∷◌, ◌++◌, ◌&&◌, not, cond, if◌then◌else◌, ℕ, zero, suc}
use Rattle.std.proofs.Common.{nat_lt}
use Rattle.std.proofs.Common.{List, [], Bool, true, false, map, refl, sym, ap, subst, arith, get_or, slice_index, drop}
use Rattle.std.proofs.Common.{Option, Some, None, ℤ, pos, negsuc}
use Rattle.std.specs.Char.{digit_char}
use Rattle.std.specs.Fmt.{decimal, digits, digit_glyph, digits_onto, signed_decimal}
use Rattle.std.specs.Prelude.{flat_map, option_and_then}
use Rattle.broker_types.specs.TextLaws.{same_true}
use Rattle.broker_types.specs.Words.{same}
use Rattle.hex.specs.Hex.{encode_lower, encode_with, lower_digits}
use Rattle.json.specs.Print.{escape_byte, escape_letter, quoted}
use Rattle.records.specs.Words.{RowKey, Text, and_parts, eqb-true, lacks, line_feed, list_all, nat_tests, none-some}
use Rattle.records.specs.declared.row.Row.{Row}
use Rattle.api_json.specs.Json.{tree}
use Rattle.row_lines.specs.Lines.{row_in, row_of}
use Rattle.serde_json.specs.Data.{Data, null, boolean, number, string, array, object, Items, no_items, item}
use Rattle.serde_json.specs.Data.{Members, no_members, member, Num, unsigned, negative, float}
use Rattle.serde_json.specs.Find.{as_object}
use Rattle.serde_json.specs.Written.{comma_if, compact_text, items_text, members_text, number_text}
use Rattle.transfer.proofs.LineCuts.{lacks_both}

-- ---- digits

above : (k d : ℕ) → 10 < k → not (k + d == line_feed) ≡ true
above k d lt = let other : (k + d == 10) ≡ false = grind (arith, nat_tests, lt) in ap not other

glyph_one : (d : ℕ) → not (digit_glyph false d == line_feed) ≡ true
glyph_one d = elim (nat_lt d 10) as (λ b. not ((if b then 48 + d else 87 + d) == line_feed) ≡ true) [
  | true ↦ above 48 d (omega arith)
  | false ↦ above 87 d (omega arith)
]

char_one : (d : ℕ) → not (digit_char d == line_feed) ≡ true
char_one d = elim (nat_lt d 10) as (λ b. not (cond b (48 + d) (87 + d) == line_feed) ≡ true) [
  | true ↦ above 48 d (omega arith)
  | false ↦ above 87 d (omega arith)
]

onto_one : (k n : ℕ) (acc : List ℕ) → lacks line_feed acc ≡ true → lacks line_feed (digits_onto k 10 false n acc) ≡ true
onto_one zero n acc h = h
onto_one (suc k) n acc h =
    let glyph : not (digit_glyph false (n % 10) == line_feed) ≡ true = glyph_one (n % 10) in
    let more : lacks line_feed (digit_glyph false (n % 10) ∷ acc) ≡ true = λ i. glyph i && h i in
    elim (n / 10 == 0) as (λ b. lacks line_feed (if b then digit_glyph false (n % 10) ∷ acc
    else digits_onto k 10 false (n / 10) (digit_glyph false (n % 10) ∷ acc)) ≡ true) [
      | true ↦ more
      | false ↦ onto_one k (n / 10) (digit_glyph false (n % 10) ∷ acc) more
    ]

pub decimal_one : (n : ℕ) → lacks line_feed (decimal n) ≡ true
unfolding digits
decimal_one n = onto_one 64 n [] refl

signed_one : (z : ℤ) → lacks line_feed (signed_decimal z) ≡ true
signed_one (pos n) = decimal_one n
signed_one (negsuc n) = decimal_one (suc n)

table_one : (t : List ℕ) (k : ℕ) → lacks line_feed t ≡ true → not (slice_index t k == line_feed) ≡ true
table_one [] k h = refl
table_one (x ∷ t) zero h = (and_parts _ _ h).0
table_one (x ∷ t) (suc k) h = table_one t k (and_parts _ _ h).1

pub hex_one : (bytes : List ℕ) → lacks line_feed (encode_lower bytes) ≡ true
unfolding encode_with
hex_one [] = refl
hex_one (b ∷ bytes) =
    let high = table_one lower_digits (b / 16) refl in
    let low = table_one lower_digits (b % 16) refl in
    λ i. high i && (low i && hex_one bytes i)

-- ---- JSON

pick_one : (a b c d e f : Bool) (x : ℕ) → (x == line_feed) ≡ false
    → not (cond a x (cond b 98 (cond c 102 (cond d 110 (cond e 114 (cond f 116 0))))) == line_feed) ≡ true
pick_one true b c d e f x h = ap not h
pick_one false true c d e f x h = refl
pick_one false false true d e f x h = refl
pick_one false false false true e f x h = refl
pick_one false false false false true f x h = refl
pick_one false false false false false true x h = refl
pick_one false false false false false false x h = refl

byte_one : (x : ℕ) → lacks line_feed (escape_byte x) ≡ true
unfolding escape_byte
byte_one x = elim (x == line_feed) as (λ b. (x == line_feed) ≡ b → lacks line_feed (escape_byte x) ≡ true) [
  | true ↦ λ is. subst (λ y. lacks line_feed (escape_byte y) ≡ true) (sym (eqb-true x line_feed is)) refl
  | false ↦ λ other.
      let letter : not (escape_letter x == line_feed) ≡ true = pick_one _ _ _ _ _ _ x other in
      let plain : lacks line_feed (x ∷ []) ≡ true = ap (λ v. not v && true) other in
      let high = char_one (x / 16) in
      let low = char_one (x % 16) in
      elim (nat_lt 0 (escape_letter x)) as (λ b. lacks line_feed (cond b (92 ∷ escape_letter x ∷ [])
      (cond (nat_lt x 32) (92 ∷ 117 ∷ 48 ∷ 48 ∷ digit_char (x / 16) ∷ digit_char (x % 16) ∷ []) (x ∷ []))) ≡ true) [
        | true ↦ ap (λ v. v && true) letter
        | false ↦ elim (nat_lt x 32) as (λ b. lacks line_feed
            (cond b (92 ∷ 117 ∷ 48 ∷ 48 ∷ digit_char (x / 16) ∷ digit_char (x % 16) ∷ []) (x ∷ [])) ≡ true) [
              | true ↦ λ i. high i && (low i && true)
              | false ↦ plain
            ]
      ]
] refl

escape_one : (s : List ℕ) → lacks line_feed (flat_map escape_byte s) ≡ true
escape_one [] = refl
escape_one (x ∷ s) = lacks_both (escape_byte x) (flat_map escape_byte s) (byte_one x) (escape_one s)

quoted_one : (s : List ℕ) → lacks line_feed (quoted s) ≡ true
quoted_one s = lacks_both (flat_map escape_byte s) (34 ∷ []) (escape_one s) refl

comma_one : (later : Bool) → lacks line_feed (comma_if later) ≡ true
comma_one true = refl
comma_one false = refl

number_one : (n : Num) → lacks line_feed (number_text n) ≡ true
number_one (unsigned n) = decimal_one n
number_one (negative z) = signed_one z
number_one (float x) = refl

mutual
  compact_one : (d : Data) → lacks line_feed (compact_text d) ≡ true
  compact_one null = refl
  compact_one (boolean true) = refl
  compact_one (boolean false) = refl
  compact_one (number n) = number_one n
  compact_one (string s) = quoted_one s
  compact_one (array ds) = items_one false ds
  compact_one (object ms) = members_one false ms

  items_one : (later : Bool) (ds : Items) → lacks line_feed (items_text later ds) ≡ true
  items_one later no_items = refl
  items_one later (item d ds) =
      lacks_both (comma_if later) (compact_text d ++ items_text true ds) (comma_one later)
      (lacks_both (compact_text d) (items_text true ds) (compact_one d) (items_one true ds))

  members_one : (later : Bool) (ms : Members) → lacks line_feed (members_text later ms) ≡ true
  members_one later no_members = refl
  members_one later (member k d ms) =
      let rest = compact_text d ++ members_text true ms in
      lacks_both (comma_if later) (quoted k ++ 58 ∷ rest) (comma_one later)
      (lacks_both (quoted k) (58 ∷ rest) (quoted_one k)
      (lacks_both (compact_text d) (members_text true ms) (compact_one d) (members_one true ms)))

-- ---- rows

pub row_one : (line : Text) (e : RowKey × Row) → row_in line ≡ Some e → lacks line_feed line ≡ true
row_one line e reads = elim (tree line) as (λ o.
    option_and_then (λ d. if same (compact_text d) line then option_and_then row_of (as_object d) else None) o ≡ Some e
    → lacks line_feed line ≡ true) [
      | None ↦ λ h. absurd (none-some e h)
      | Some d ↦ λ h. elim (same (compact_text d) line) as (λ b. same (compact_text d) line ≡ b
          → (if b then option_and_then row_of (as_object d) else None) ≡ Some e → lacks line_feed line ≡ true) [
            | true ↦ λ is _. subst (λ t. lacks line_feed t ≡ true) (same_true (compact_text d) line is) (compact_one d)
            | false ↦ λ _ none. absurd (none-some e none)
          ] refl h
    ] reads

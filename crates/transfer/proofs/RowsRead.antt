-- Rows that were read, line after line.
use Rattle.std.proofs.Common.{◌≡◌, ◌+◌, ◌∷◌, ◌++◌, ℕ, List, [], length, map, true, Option, Some, None, refl, sym, ap}
use Rattle.std.proofs.Common.{◌∙◌, subst}
use Rattle.std.proofs.Common.{Ok, append_assoc, codes, length-append}
use Rattle.std.specs.Prelude.{decimal}
use Rattle.std.proofs.KnownBytes.{Consumes-nil, Consumes-trans}
use Rattle.std.proofs.lemmas.Grind.{flat_map-append}
use Rattle.std.proofs.lemmas.List.{map-append}
use Rattle.records.specs.Words.{RowKey, Rows, Text, Consumes, append-nil, lacks, line_feed}
use Rattle.records.specs.declared.row.Row.{Row}
use Rattle.row_lines.specs.Lines.{row_in}
use Rattle.sha2.specs.Hashers.{Holds256}
use Rattle.transfer.specs.Files.{IsFileOf, IsHead, ended, fed, fed_lines, head, tail}
use Rattle.transfer.specs.Order.{IsAfter}
use Rattle.transfer.specs.Reading.{AreRowsRead, IsHeadRead, IsRead, IsTailRead, left_in}
use Rattle.transfer.specs.declared.lines.Lines.{Lines}
use Rattle.transfer.proofs.LineCuts.{lacks_parts}
use Rattle.transfer.proofs.RowOrder.{IsHighest, highest_more}

-- the version in a first line without a line feed has none
pub head_one_line : (version : Text) (count : ℕ) → lacks line_feed (head version count) ≡ true
    → lacks line_feed version ≡ true
head_one_line version count h =
    let last = version ++ codes "\"}" in
    let later = codes ",\"version\":\"" ++ last in
    let number = lacks_parts (codes "{\"format\":1,\"rows\":") (decimal count ++ later) h in
    let before = lacks_parts (decimal count) later number.1 in
    let after = lacks_parts (codes ",\"version\":\"") last before.1 in
    (lacks_parts version (codes "\"}") after.1).0

module _ {R : Type 0} (left : R → Option (List ℕ)) where
  -- so many rows were read, of which none is after the last
  pub record ReadSoFar (old new : Lines R) (count : ℕ) (last : Option RowKey) : Type 0 where
    pub lines : List Text
    pub rows : List (RowKey × Row)
    pub each : map row_in lines ≡ map Some rows
    pub counted : length lines ≡ count
    pub taken : IsRead left old new (fed_lines lines)
    pub highest : IsHighest rows last

  abbrev pub none_read : (a : Lines R) → ReadSoFar a a 0 None
  none_read a =
      record {
        lines = [];
        rows = [];
        each = refl;
        counted = refl;
        taken = (Consumes-nil (left_in left a), λ m holds. subst (Holds256 a.hasher) (sym (append-nil m)) holds);
        highest = λ k after. refl;
      }

  pub both_read : (a b c : Lines R) (xs ys : List ℕ) → IsRead left a b xs → IsRead left b c ys
      → IsRead left a c (xs ++ ys)
  both_read a b c xs ys first next = (
    Consumes-trans (left_in left a) (left_in left b) (left_in left c) xs ys first.0 next.0,
    λ m holds. subst (Holds256 c.hasher) (append_assoc m xs ys) (next.1 (m ++ xs) (first.1 m holds)),
  )

  abbrev pub row_read : (a b c : Lines R) (count : ℕ) (last : Option RowKey) (line : Text) (e : RowKey × Row)
      (place : RowKey) → place ≡ e.0 → ReadSoFar a b count last → row_in line ≡ Some e
      → IsRead left b c (fed line) → IsAfter last e.0
      → ReadSoFar a c (count + 1) (Some place)
  row_read a b c count last line e place is so reads more after =
      record {
        lines = so.lines ++ line ∷ [];
        rows = so.rows ++ e ∷ [];
        each =
            map-append row_in so.lines (line ∷ []) ∙ (λ i. so.each i ++ reads i ∷ [])
            ∙ sym (map-append (λ x. Some x) so.rows (e ∷ []));
        counted = length-append so.lines (line ∷ []) ∙ ap (λ n. n + 1) so.counted;
        taken =
            subst (IsRead left a c)
            (ap (λ l. fed_lines so.lines ++ l) (sym (append-nil (fed line)))
            ∙ sym (flat_map-append fed so.lines (line ∷ [])))
            (both_read a b c (fed_lines so.lines) (fed line) so.taken more);
        highest =
            subst (λ (k : RowKey). IsHighest (so.rows ++ e ∷ []) (Some k)) (sym is)
            (highest_more so.rows last e so.highest after);
      }

-- a text of which all was taken is the file of the lines
text_read : (a b c : Option (List ℕ)) (text : List ℕ) (first : Text) (lines : List Text) → a ≡ Some text
    → Consumes a b (fed first) → Consumes b c (fed_lines lines)
    → ((k : List ℕ) → c ≡ Some k → k ≡ fed (tail (fed first ++ fed_lines lines)))
    → text ≡ ended (fed first ++ fed_lines lines)
text_read a b c text first lines is one two last =
    let front = fed first ++ fed_lines lines in
    let both = Consumes-trans a b c (fed first) (fed_lines lines) one two in
    all c (subst (λ (o : Option (List ℕ)). Consumes o c front) is both) last
  where
    all : (c : Option (List ℕ)) → Consumes (Some text) c (fed first ++ fed_lines lines)
        → ((k : List ℕ) → c ≡ Some k → k ≡ fed (tail (fed first ++ fed_lines lines)))
        → text ≡ ended (fed first ++ fed_lines lines)
    all None so last = absurd so
    all (Some k) so last = so ∙ ap (λ l. (fed first ++ fed_lines lines) ++ l) (last k refl)

-- the first line, those of rows, and the last: the file of these rows
pub file_read : {R : Type 0} (left : R → Option (List ℕ)) (a b c : Lines R) (count : ℕ) (rows : Rows) (text : List ℕ)
    → left_in left a ≡ Some text → IsHeadRead left a b (Ok count) → AreRowsRead left b c count rows
    → IsTailRead left c None → IsFileOf rows text
file_read left a b c count rows text is begun read ended_so =
    record {
      first = begun.0;
      lines = read.lines;
      is_head = subst (λ (n : ℕ). IsHead n begun.0) (sym read.counted) begun.1;
      each = read.each;
      whole =
          text_read (left_in left a) (left_in left b) (left_in left c) text begun.0 read.lines is begun.2 read.taken.0
          (λ k left_is. ended_so (fed begun.0 ++ fed_lines read.lines) k (read.taken.1 (fed begun.0) begun.3) left_is);
    }

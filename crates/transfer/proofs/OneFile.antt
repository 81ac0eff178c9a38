-- A text is the file of one set of rows.
use Rattle.std.proofs.Common.{◌≡◌, ◌∷◌, ◌++◌, ◌&&◌, ℕ, List, [], length, map, true, Bool, Option, Some, None, refl, sym}
use Rattle.std.proofs.Common.{ap}
use Rattle.std.proofs.Common.{◌∙◌, subst, append_assoc, append-nil, codes}
use Rattle.std.proofs.lemmas.Grind.{flat_map-append}
use Rattle.std.specs.Prelude.{decimal}
use Rattle.hex.specs.Hex.{encode_lower}
use Rattle.records.specs.Words.{RowKey, Rows, Text, entries, same_entries_map, and_parts, list_all, list_all-append}
use Rattle.records.specs.Words.{lacks}
use Rattle.records.specs.Words.{line_feed, none-some, same_Some, split-lacking, split_once}
use Rattle.records.specs.declared.row.Row.{Row}
use Rattle.row_lines.specs.Lines.{row_in}
use Rattle.sha2.specs.Sha256.{sha256}
use Rattle.transfer.specs.Files.{IsFileOf, IsHead, ended, fed, fed_lines, head, tail}
use Rattle.transfer.specs.Laws.{FilesHaveOneMeaning}
use Rattle.transfer.proofs.LineCuts.{lacks_both}
use Rattle.transfer.proofs.OneLine.{decimal_one, hex_one, row_one}

-- ---- lines

-- no line has a line feed
abbrev are_lines : List Text → Bool
are_lines ls = list_all (λ l. lacks line_feed l) ls

cut_one : (l : Text) (rest : List ℕ) → lacks line_feed l ≡ true → split_once line_feed (fed l ++ rest) ≡ Some (l, rest)
cut_one l rest one =
    ap (split_once line_feed) (append_assoc l (line_feed ∷ []) rest) ∙ split-lacking line_feed l rest one

same_lines : (ls ms : List Text) → are_lines ls ≡ true → are_lines ms ≡ true → fed_lines ls ≡ fed_lines ms → ls ≡ ms
same_lines [] [] one other same = refl
same_lines [] (m ∷ ms) one other same =
    let parts = and_parts (lacks line_feed m) (are_lines ms) other in
    absurd (none-some (m, fed_lines ms) (ap (split_once line_feed) same ∙ cut_one m (fed_lines ms) parts.0))
same_lines (l ∷ ls) [] one other same =
    let parts = and_parts (lacks line_feed l) (are_lines ls) one in
    absurd (none-some (l, fed_lines ls) (ap (split_once line_feed) (sym same) ∙ cut_one l (fed_lines ls) parts.0))
same_lines (l ∷ ls) (m ∷ ms) one other same =
    let here = and_parts (lacks line_feed l) (are_lines ls) one in
    let there = and_parts (lacks line_feed m) (are_lines ms) other in
    let a : Text × List ℕ = (l, fed_lines ls) in
    let b : Text × List ℕ = (m, fed_lines ms) in
    let cut : a ≡ b =
    same_Some a b (sym (cut_one l (fed_lines ls) here.0) ∙ ap (split_once line_feed) same
    ∙ cut_one m (fed_lines ms) there.0) in
    let rest : ls ≡ ms = same_lines ls ms here.1 there.1 (ap (λ (p : Text × List ℕ). p.1) cut) in
    λ i. (cut i).0 ∷ rest i

-- ---- lists

abbrev first_of : {X : Type 0} → List X → Option X
first_of [] = None
first_of (x ∷ xs) = Some x

abbrev rest_of : {X : Type 0} → List X → List X
rest_of [] = []
rest_of (x ∷ xs) = xs

not_empty : {X : Type 0} (x : X) (xs : List X) → [] ≡ xs ++ x ∷ [] → ⊥
not_empty x [] e = none-some x (ap first_of e)
not_empty x (y ∷ ys) e = none-some y (ap first_of e)

-- lists that are equal with one item more each
all_but_last : {X : Type 0} (xs ys : List X) (x y : X) → xs ++ x ∷ [] ≡ ys ++ y ∷ [] → xs ≡ ys
all_but_last [] [] x y e = refl
all_but_last [] (z ∷ ys) x y e = absurd (not_empty y ys (ap rest_of e))
all_but_last (z ∷ xs) [] x y e = absurd (not_empty x xs (sym (ap rest_of e)))
all_but_last (z ∷ xs) (w ∷ ys) x y e =
    let here : z ≡ w = same_Some z w (ap first_of e) in
    let rest : xs ≡ ys = all_but_last xs ys x y (ap rest_of e) in
    λ i. here i ∷ rest i

same_all : {X : Type 0} (xs ys : List X) → map (λ x. Some x) xs ≡ map (λ x. Some x) ys → xs ≡ ys
same_all [] [] e = refl
same_all [] (y ∷ ys) e = absurd (none-some (Some y) (ap first_of e))
same_all (x ∷ xs) [] e = absurd (none-some (Some x) (sym (ap first_of e)))
same_all (x ∷ xs) (y ∷ ys) e =
    let here : x ≡ y = same_Some x y (same_Some (Some x) (Some y) (ap first_of e)) in
    let rest : xs ≡ ys = same_all xs ys (ap rest_of e) in
    λ i. here i ∷ rest i

-- ---- files

rows_one : (ls : List Text) (es : List (RowKey × Row)) → map row_in ls ≡ map (λ e. Some e) es → are_lines ls ≡ true
rows_one [] es each = refl
rows_one (l ∷ ls) [] each = absurd (none-some (row_in l) (sym (ap first_of each)))
rows_one (l ∷ ls) (e ∷ es) each =
    let here = row_one l e (same_Some (row_in l) (Some e) (ap first_of each)) in
    let rest = rows_one ls es (ap rest_of each) in
    λ i. here i && rest i

head_one : (count : ℕ) (line : Text) → IsHead count line → lacks line_feed line ≡ true
head_one count line is =
    let rest = codes ",\"version\":\"" ++ (is.0 ++ codes "\"}") in
    ap (lacks line_feed) is.2
    ∙ lacks_both (codes "{\"format\":1,\"rows\":") (decimal count ++ rest) refl
    (lacks_both (decimal count) rest (decimal_one count)
    (lacks_both (codes ",\"version\":\"") (is.0 ++ codes "\"}") refl (lacks_both is.0 (codes "\"}") is.1 refl)))

tail_one : (before : List ℕ) → lacks line_feed (tail before) ≡ true
tail_one before =
    lacks_both (codes "{\"sha256\":\"") (encode_lower (sha256 before) ++ codes "\"}") refl
    (lacks_both (encode_lower (sha256 before)) (codes "\"}") (hex_one (sha256 before)) refl)

-- the lines of a file
module _ (rows : Rows) (text : List ℕ) (f : IsFileOf rows text) where
  abbrev last : Text
  last = tail (fed f.first ++ fed_lines f.lines)

  abbrev all : List Text
  all = f.first ∷ f.lines ++ last ∷ []

  file_lines : text ≡ fed_lines all
  file_lines =
      f.whole
      ∙ append_assoc (fed f.first) (fed_lines f.lines) (fed last)
      ∙ ap (λ l. fed f.first ++ (fed_lines f.lines ++ l)) (sym (append-nil (fed last)))
      ∙ ap (λ l. fed f.first ++ l) (sym (flat_map-append fed f.lines (last ∷ [])))

  all_one : are_lines all ≡ true
  all_one =
      let begins = head_one (length f.lines) f.first f.is_head in
      let each = rows_one f.lines (entries rows) f.each in
      let ends : are_lines (last ∷ []) ≡ true = ap (λ v. v && true) (tail_one (fed f.first ++ fed_lines f.lines)) in
      let rest = list_all-append (λ (l : Text). lacks line_feed l) f.lines (last ∷ []) ∙ (λ i. each i && ends i) in
      λ i. begins i && rest i

pub one_meaning : FilesHaveOneMeaning
one_meaning text rows others f g =
    let lines = same_lines (all rows text f) (all others text g) (all_one rows text f) (all_one others text g)
    (sym (file_lines rows text f) ∙ file_lines others text g) in
    let same : f.lines ≡ g.lines =
    all_but_last f.lines g.lines (last rows text f) (last others text g) (ap rest_of lines) in
    let entries_same : entries rows ≡ entries others =
    same_all (entries rows) (entries others) (sym f.each ∙ ap (map row_in) same ∙ g.each) in
    sym (same_entries_map rows others entries_same)

-- What was pushed, piece after piece.
use Rattle.std.proofs.Common.{◌≡◌, ◌∷◌, ◌++◌, ◌+◌, ◌<◌, ℕ, List, [], length, map, take, get_or, Option, Some, refl, sym}
use Rattle.std.proofs.Common.{ap}
use Rattle.std.proofs.Common.{◌∙◌, append_assoc, subst}
use Rattle.std.proofs.lemmas.Grind.{flat_map-append}
use Rattle.std.proofs.lemmas.List.{map-append}
use Rattle.std.proofs.KnownBytes.{Appends-nil, Appends-trans}
use Rattle.records.specs.Words.{RowKey, Rows, Text, entries, take_more, append-nil, length-map, Appends}
use Rattle.records.specs.declared.row.Row.{Row}
use Rattle.row_lines.specs.Lines.{row_in}
use Rattle.sha2.specs.Hashers.{Holds256}
use Rattle.transfer.specs.Files.{IsHead, ended, fed, fed_lines, tail}
use Rattle.transfer.specs.Writing.{IsBegun, IsMore, IsWritten, Writes}
use Rattle.transfer.specs.declared.summed.Summed.{Summed}

module _ {W : Type 0} (written : W → Option (List ℕ)) where
  -- nothing
  pub no_more : (a : Summed W) → IsMore written a a []
  no_more a = (Appends-nil (written a.sink), λ m holds. subst (Holds256 a.hasher) (sym (append-nil m)) holds)

  -- bytes, and more of them
  pub both_more : (a b c : Summed W) (xs ys : List ℕ) → IsMore written a b xs → IsMore written b c ys
      → IsMore written a c (xs ++ ys)
  both_more a b c xs ys first next = (
    Appends-trans (written a.sink) (written b.sink) (written c.sink) xs ys first.0 next.0,
    λ m holds. subst (Holds256 c.hasher) (append_assoc m xs ys) (next.1 (m ++ xs) (first.1 m holds)),
  )

  -- no rows
  pub writes_none : (a : Summed W) → Writes written a a []
  writes_none a = ([], refl, no_more a)

  -- rows, and more of them
  pub writes_both : (a b c : Summed W) (xs ys : List (RowKey × Row)) → Writes written a b xs → Writes written b c ys
      → Writes written a c (xs ++ ys)
  writes_both a b c xs ys first next = (
    first.0 ++ next.0,
    map-append row_in first.0 next.0 ∙ (λ i. first.1 i ++ next.1 i) ∙ sym (map-append Some xs ys),
    subst (IsMore written a c) (sym (flat_map-append fed first.0 next.0))
        (both_more a b c (fed_lines first.0) (fed_lines next.0) first.2 next.2),
  )

  -- one row
  pub writes_one : (a b : Summed W) (e : RowKey × Row) (line : Text) → row_in line ≡ Some e
      → IsMore written a b (fed line) → Writes written a b (e ∷ [])
  writes_one a b e line reads more =
      (line ∷ [], ap (λ o. o ∷ []) reads, subst (IsMore written a b) (sym (append-nil (fed line))) more)

  -- the rows of a list, and the next of them
  pub writes_next : (a b c : Summed W) (es : List (RowKey × Row)) (i : ℕ) (e : RowKey × Row) (line : Text)
      → i < length es → e ≡ get_or es i e → row_in line ≡ Some e → Writes written a b (take i es)
      → IsMore written b c (fed line) → Writes written a c (take (i + 1) es)
  writes_next a b c es i e line lt is reads first more =
      subst (Writes written a c) (ap (λ x. take i es ++ x ∷ []) is ∙ sym (take_more es i e lt))
      (writes_both a b c (take i es) (e ∷ []) first (writes_one b c e line reads more))

  -- the first line, where nothing was summed
  pub begun : (a b : Summed W) (count : ℕ) (first line : Text) → IsHead count first → line ≡ first
      → Holds256 a.hasher [] → IsMore written a b (fed line) → IsBegun written a b count
  begun a b count first line is_head same none more = (
    first,
    is_head,
    subst (λ (l : Text). Appends (written a.sink) (written b.sink) (fed l)) same more.0,
    subst (λ (l : Text). Holds256 b.hasher (fed l)) same (more.1 [] none),
  )

  -- the first line, those of the rows, and the last are the file
  pub file_written : (a b c d : Summed W) (count : ℕ) (rows : Rows) → count ≡ length (entries rows)
      → IsBegun written a b count → Writes written b c (entries rows)
      → ((before : List ℕ) → Holds256 c.hasher before
      → Appends (written c.sink) (written d.sink) (fed (tail before)))
      → IsWritten written a d rows count
  file_written a b c d count rows counted begun_so writes ends =
      let first = begun_so.0 in
      let lines = writes.0 in
      let front = fed first ++ fed_lines lines in
      let n : count ≡ length lines =
      counted ∙ sym (length-map (entries rows) (λ e. Some e)) ∙ ap length (sym writes.1) ∙ length-map lines row_in in
      record {
        text = ended front;
        is_file = record {
          first = first;
          lines = lines;
          is_head = subst (λ (m : ℕ). IsHead m first) n begun_so.1;
          each = writes.1;
          whole = refl;
        };
        counted = counted;
        appended =
            Appends-trans (written a.sink) (written c.sink) (written d.sink) front (fed (tail front))
            (Appends-trans (written a.sink) (written b.sink) (written c.sink) (fed first) (fed_lines lines)
            begun_so.2 writes.2.0)
            (ends front (writes.2.1 (fed first) begun_so.3));
      }

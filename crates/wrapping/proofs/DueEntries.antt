-- Of the rows that are due, those of wrapping tokens: what a sweep takes out, whatever the rows are.
use Rattle.std.proofs.Common.{◌≡◌, ◌&&◌, ◌||◌, ◌∷◌, if◌then◌else◌, ℕ, List, [], Bool, true, false, cond, Option, Some}
use Rattle.records.specs.Words.{None, map, filter, All, Contains, both_ways, AllByRecursion, list_any, option_map_or}
use Rattle.records.specs.Words.{refl, sym, ◌∙◌, ap, inl, inr, false≢true, All-contains, All-filter, All-from_recursion}
use Rattle.records.specs.Words.{All-weaker, recursion_from_All, Text, same, any_contained, passing, any_mapped}
use Rattle.records.specs.Words.{found_or_not, taken_out_twice, same_self, same_true, accessor_in, is_told, has}
use Rattle.records.specs.Words.{due_each, due_whole, is_due, RowKey, of_waiting, KeepsOthers, Table}
use Rattle.std.specs.FinMap as fin
use Rattle.wrapping.specs.Words.{Kind, Row, is_due_at, AreStillDue, IsWaitingRow, AreReadableDue, without_responses}
use Rattle.wrapping.specs.Words.{Sweeps, is_waiting, AreReadable, without_told, without_each}
use Rattle.records.specs.declared.kind.Kind.TheVariants as kind
use Rattle.wrapping.proofs.Responses.{by_kind, dropped_keeps}

-- ---- one entry after another

-- whether the entry is that of the wrapping token, or tells the accessor
abbrev is_keyed : Text → RowKey × Row → Bool
is_keyed q e = is_waiting e && same q e.0.1

abbrev tells_it : Text → RowKey × Row → Bool
tells_it q e = is_waiting e && same q (accessor_in e.1)

waiting_each : (es : List (RowKey × Row)) (rows : Table) (q : Text)
    → without_each es rows kind.Waiting q ≡ (if list_any (is_keyed q) es then None else rows kind.Waiting q)
waiting_each [] rows q = refl
waiting_each (e ∷ es) rows q =
    waiting_each es (if is_waiting e then without_told rows e else rows) q
    ∙ elim (is_waiting e) as (λ v.
    (if list_any (is_keyed q) es then None else (if v then without_told rows e else rows) kind.Waiting q)
    ≡ (if (v && same q e.0.1 || list_any (is_keyed q) es) then None else rows kind.Waiting q)) [
      | true ↦ taken_out_twice (list_any (is_keyed q) es) (same q e.0.1) (rows kind.Waiting q)
      | false ↦ refl
    ]

accessor_each : (es : List (RowKey × Row)) (rows : Table) (q : Text)
    → without_each es rows kind.Accessor q ≡ (if list_any (tells_it q) es then None else rows kind.Accessor q)
accessor_each [] rows q = refl
accessor_each (e ∷ es) rows q =
    accessor_each es (if is_waiting e then without_told rows e else rows) q
    ∙ elim (is_waiting e) as (λ v.
    (if list_any (tells_it q) es then None else (if v then without_told rows e else rows) kind.Accessor q)
    ≡ (if (v && same q (accessor_in e.1) || list_any (tells_it q) es) then None else rows kind.Accessor q)) [
      | true ↦ taken_out_twice (list_any (tells_it q) es) (same q (accessor_in e.1)) (rows kind.Accessor q)
      | false ↦ refl
    ]

-- rows of other kinds stay
pub each_keeps : (es : List (RowKey × Row)) (rows : Table) → KeepsOthers of_waiting rows (without_each es rows)
each_keeps [] rows k q h = refl
each_keeps (e ∷ es) rows k q h =
    each_keeps es (if is_waiting e then without_told rows e else rows) k q h
    ∙ elim (is_waiting e) as (λ v. (if v then without_told rows e else rows) k q ≡ rows k q) [
      | true ↦ dropped_keeps rows e.0.1 (accessor_in e.1) k q h
      | false ↦ refl
    ]

responses_keep : (tokens : List Text) (rows : Table) → KeepsOthers of_waiting rows (without_responses tokens rows)
responses_keep tokens rows kind.Waiting q h = absurd (false≢true (sym h))
responses_keep tokens rows kind.Accessor q h = absurd (false≢true (sym h))
responses_keep tokens rows _ q h = refl

-- ---- all that are due

module _ (now : ℕ) (es : List (RowKey × Row)) (old : Table) (still : AreStillDue now es old) where
  abbrev entries : List (RowKey × Row)
  entries = filter is_waiting es

  abbrev ended : List Text
  ended = map (λ e. e.0.1) entries

  abbrev IsDueRow : RowKey × Row → Type 0
  IsDueRow e = (old kind.Waiting e.0.1 ≡ Some e.1) × (is_due now e.1.due ≡ true)

  row_due : (e : RowKey × Row)
      → (e.0.0 ≡ kind.Waiting) × (fin.get still.asked e.0 ≡ Some e.1) × (is_due now e.1.due ≡ true) → IsDueRow e
  row_due e is = (still.same e.0.1 ∙ (λ i. fin.get still.asked (sym is.0 i, e.0.1)) ∙ is.1, is.2)

  each_due : All IsDueRow entries
  each_due = All-weaker _ IsDueRow row_due entries (due_each still.asked now es still.due kind.Waiting)

  whole : (t : Text) (row : Row) → old kind.Waiting t ≡ Some row → is_due now row.due ≡ true
      → Contains entries ((kind.Waiting, t), row)
  whole t row is come = due_whole still.asked now es still.due kind.Waiting t row (sym (still.same t) ∙ is) come

  abbrev is_come : Option Row → Bool
  is_come o = option_map_or (λ (row : Row). is_due now row.due) o false

  -- the wrapping tokens that they are of are those that have a row which is due
  exactly : (t : Text) → has ended t ≡ is_due_at now old t
  exactly t = both_ways (has ended t) (is_due_at now old t) onto from
    where
      onto : has ended t ≡ true → is_due_at now old t ≡ true
      onto h =
          let e = passing (λ (e : RowKey × Row). same t e.0.1) entries
          (sym (any_mapped (same t) (λ e. e.0.1) entries) ∙ h) in
          let is = All-contains IsDueRow entries e.0 each_due e.1 in
          ap is_come (ap (old kind.Waiting) (same_true t e.0.0.1 e.2) ∙ is.0) ∙ is.1

      from : is_due_at now old t ≡ true → has ended t ≡ true
      from h = elim (found_or_not (old kind.Waiting t)) [
        | inl none ↦ absurd (false≢true (sym (ap is_come none) ∙ h))
        | inr row ↦ any_mapped (same t) (λ e. e.0.1) entries
            ∙ any_contained (λ (e : RowKey × Row). same t e.0.1) entries ((kind.Waiting, t), row.0)
            (whole t row.0 row.1 (sym (ap is_come row.1) ∙ h)) (same_self t)
      ]

  keyed : (q : Text) (fs : List (RowKey × Row)) → list_any (is_keyed q) fs
      ≡ has (map (λ e. e.0.1) (filter is_waiting fs)) q
  keyed q [] = refl
  keyed q (e ∷ fs) =
      elim (is_waiting e) as (λ v. (v && same q e.0.1 || list_any (is_keyed q) fs)
      ≡ has (map (λ e. e.0.1) (cond v (e ∷ filter is_waiting fs) (filter is_waiting fs))) q) [
        | true ↦ ap (λ v. same q e.0.1 || v) (keyed q fs)
        | false ↦ keyed q fs
      ]

  abbrev tells : Text → Option Row → Bool
  tells q o = option_map_or (λ row. same q (accessor_in row)) o false

  told : (q : Text) (fs : List (RowKey × Row)) → AllByRecursion IsDueRow (filter is_waiting fs)
      → list_any (tells_it q) fs ≡ is_told kind.Waiting (map (λ e. e.0.1) (filter is_waiting fs)) old q
  told q [] a = refl
  told q (e ∷ fs) a =
      elim (is_waiting e) as (λ v. AllByRecursion IsDueRow (cond v (e ∷ filter is_waiting fs) (filter is_waiting fs))
      → (v && same q (accessor_in e.1) || list_any (tells_it q) fs)
      ≡ is_told kind.Waiting (map (λ e. e.0.1) (cond v (e ∷ filter is_waiting fs) (filter is_waiting fs))) old q) [
        | true ↦ λ b. λ i. sym (ap (tells q) b.0.0) i || told q fs b.1 i
        | false ↦ λ b. told q fs b
      ] a

  -- to take out one entry after another is to take out all that are due
  all_left : without_each es old ≡ without_responses ended old
  all_left = λ i k q. at k q i
    where
      at : (k : Kind) (q : Text) → without_each es old k q ≡ without_responses ended old k q
      at k q =
          elim (of_waiting k) as (λ v. of_waiting k ≡ v → without_each es old k q ≡ without_responses ended old k q) [
            | true ↦ λ inside. by_kind (λ k. without_each es old k q ≡ without_responses ended old k q)
                (waiting_each es old q ∙ ap (λ v. if v then None else old kind.Waiting q) (keyed q es))
                (accessor_each es old q ∙ ap (λ v. if v then None else old kind.Accessor q)
                (told q es (recursion_from_All IsDueRow entries each_due))) k inside
            | false ↦ λ outside. each_keeps es old k q outside ∙ sym (responses_keep ended old k q outside)
          ] refl

  read : AreReadable es → AreReadableDue now old
  read all t row is come =
      All-contains (λ e. is_waiting e ≡ true → IsWaitingRow e.1) entries ((kind.Waiting, t), row)
      (All-filter is_waiting (λ e. is_waiting e ≡ true → IsWaitingRow e.1) es
      (All-from_recursion (λ e. is_waiting e ≡ true → IsWaitingRow e.1) es all)) (whole t row is come) refl

  -- if each row that is due can be read, so can the entries
  pub due_read : AreReadableDue now old → AreReadable es
  due_read all = walk es (recursion_from_All IsDueRow entries each_due)
    where
      walk : (fs : List (RowKey × Row)) → AllByRecursion IsDueRow (filter is_waiting fs) → AreReadable fs
      walk [] a = tt
      walk (e ∷ fs) a =
          elim (is_waiting e) as (λ v.
          AllByRecursion IsDueRow (cond v (e ∷ filter is_waiting fs) (filter is_waiting fs))
          → (v ≡ true → IsWaitingRow e.1) × AreReadable fs) [
            | true ↦ λ b. ((λ _. all e.0.1 e.1 b.0.0 b.0.1), walk fs b.1)
            | false ↦ λ b. ((λ h. absurd (false≢true h)), walk fs b)
          ] a

  -- what is left is what a sweep leaves
  pub swept : (new : Table) → AreReadable es → new ≡ without_each es old → Sweeps now old new
  swept new all is = record { ended = ended; each = exactly; readable = read all; rows = is ∙ all_left }

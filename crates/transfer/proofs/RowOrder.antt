-- Rows that are put one above another.
use Rattle.std.proofs.Common.{◌≡◌, ◌+◌, ◌∷◌, ◌++◌, ◌&&◌, ℕ, List, [], length, map, Bool, true, false, Option, Some}
use Rattle.std.proofs.Common.{None}
use Rattle.std.proofs.Common.{refl, sym, ap, ◌∙◌, subst}
use Rattle.records.specs.Words.{RowKey, Rows, key_cmp, key_cmp_total, entries, entries-insert, insert, is_gt, Text}
use Rattle.records.specs.Words.{Ordering, Less, Equal, Greater, ordering_reverse, and_parts, list_all, list_all-append}
use Rattle.records.specs.Words.{false≢true, nil_from_length, len-entries, len-empty, empty}
use Rattle.records.specs.declared.row.Row.{Row}
use Rattle.std.specs.FinMap.{put}
use Rattle.transfer.specs.Order.{IsAfter}

-- the key is above those of all rows
abbrev pub is_above_all : RowKey → List (RowKey × Row) → Bool
is_above_all k es = list_all (λ e. is_gt (key_cmp k e.0)) es

-- each key after the last is above those of all rows
abbrev pub IsHighest : List (RowKey × Row) → Option RowKey → Type 0
IsHighest es last = (k : RowKey) → IsAfter last k → is_above_all k es ≡ true

still_after : (last : Option RowKey) (j k : RowKey) → IsAfter last j → key_cmp j k ≡ Less → IsAfter last k
still_after None j k first next = tt
still_after (Some l) j k first next = key_cmp_total.trans l j k first next

-- the last row of all
pub highest_more : (es : List (RowKey × Row)) (last : Option RowKey) (e : RowKey × Row) → IsHighest es last
    → IsAfter last e.0 → IsHighest (es ++ e ∷ []) (Some e.0)
highest_more es last e high after k above =
    let before : is_above_all k es ≡ true = high k (still_after last e.0 k after above) in
    let here : is_above_all k (e ∷ []) ≡ true =
    ap (λ o. is_gt o && true) (key_cmp_total.antisymm k e.0 ∙ ap ordering_reverse above) in
    list_all-append (λ (x : RowKey × Row). is_gt (key_cmp k x.0)) es (e ∷ []) ∙ (λ i. before i && here i)

greatest : (o : Ordering) → is_gt o ≡ true → o ≡ Greater
greatest Less h = absurd (false≢true h)
greatest Equal h = absurd (false≢true h)
greatest Greater h = refl

put_last : (k : RowKey) (v : Row) (es : List (RowKey × Row)) → is_above_all k es ≡ true
    → put key_cmp k v es ≡ es ++ (k, v) ∷ []
put_last k v [] h = refl
put_last k v (e ∷ es) h =
    let parts = and_parts (is_gt (key_cmp k e.0)) (is_above_all k es) h in
    let greater : key_cmp k e.0 ≡ Greater = greatest (key_cmp k e.0) parts.0 in
    rw greater (ap (λ fs. e ∷ fs) (put_last k v es parts.1))

-- a row that is put after the last is the last of the entries
pub entries_more : (rows : Rows) (last : Option RowKey) (e : RowKey × Row) → IsHighest (entries rows) last
    → IsAfter last e.0 → entries (insert rows e.0 e.1) ≡ entries rows ++ e ∷ []
entries_more rows last e high after =
    entries-insert key_cmp_total rows e.0 e.1 ∙ put_last e.0 e.1 (entries rows) (high e.0 after)

-- no rows, no entries
pub no_entries : entries (empty {X = Row} {R = key_cmp}) ≡ []
no_entries = nil_from_length (entries (empty {X = Row} {R = key_cmp})) (sym (len-entries empty) ∙ len-empty key_cmp Row)

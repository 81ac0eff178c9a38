-- Rows that are looked for kind by kind.
use Rattle.std.proofs.Common.{◌≡◌, ◌+◌, ◌-◌, ◌≤◌, ◌∷◌, ◌&&◌, ◌∙◌, ℕ, List, [], false, true, refl, sym, ap, subst, arith}
use Rattle.broker_model.specs.Words.{cond, nat_eq, slice_index_or, filter, nat_le, starts_with, entries, entries_sorted}
use Rattle.broker_model.specs.Words.{empty, get-empty, get-entries, same_entries_map, same_entries, nat_tests, Kind}
use Rattle.broker_model.specs.Words.{Row, goes_further, honest_before, key_cmp_total, key_cmp_exact, RowKey, key_cmp}
use Rattle.broker_model.specs.Words.{kind_number, is_of_kind, Rows, Seen, GoesOn, IsHonest, rows_under, eqb_self}
use Rattle.records.specs.declared.kind.Kind.TheVariants as k

-- the kinds in their order
abbrev pub kinds : List Kind
kinds =
    k.Clock ∷ k.Used ∷ k.Token ∷ k.Accessor ∷ k.Cubby ∷ k.Lease ∷ k.Credential ∷ k.KvKey ∷ k.KvVersion
    ∷ k.Waiting ∷ k.Mount ∷ k.Policy ∷ k.Role ∷ []

-- each stands at its number, counted from 1
at_number : (kind : Kind) → slice_index_or kinds (kind_number kind - 1) k.Clock ≡ kind
at_number k.Clock = refl
at_number k.Used = refl
at_number k.Token = refl
at_number k.Accessor = refl
at_number k.Cubby = refl
at_number k.Lease = refl
at_number k.Credential = refl
at_number k.KvKey = refl
at_number k.KvVersion = refl
at_number k.Waiting = refl
at_number k.Mount = refl
at_number k.Policy = refl
at_number k.Role = refl

number_within : (kind : Kind) → kind_number kind ≤ 13
number_within k.Clock = omega arith
number_within k.Used = omega arith
number_within k.Token = omega arith
number_within k.Accessor = omega arith
number_within k.Cubby = omega arith
number_within k.Lease = omega arith
number_within k.Credential = omega arith
number_within k.KvKey = omega arith
number_within k.KvVersion = omega arith
number_within k.Waiting = omega arith
number_within k.Mount = omega arith
number_within k.Policy = omega arith
number_within k.Role = omega arith

-- the rows are as before, and none is of a kind up to this number
pub record LookedSoFar (old now : Seen) (count : ℕ) : Type 0 where
  pub same : IsHonest now → now.rows ≡ old.rows
  pub goes_on : GoesOn old now false
  pub none : IsHonest now → (kind : Kind) → kind_number kind ≤ count → rows_under old.rows kind [] ≡ []

-- and of the next kind there is none
pub looked_further : (old now new : Seen) (i : ℕ) → LookedSoFar old now i → (IsHonest new → new.rows ≡ now.rows)
    → GoesOn now new false
    → (IsHonest new → rows_under now.rows (slice_index_or kinds i k.Clock) [] ≡ []) → LookedSoFar old new (i + 1)
looked_further old now new i so_far same on next =
    record {
      same = λ honest. same honest ∙ so_far.same (before honest);
      goes_on = goes_further old now new false so_far.goes_on on;
      none = λ honest kind within. elim (nat_le (kind_number kind) i) as
          (λ b. nat_le (kind_number kind) i ≡ b → rows_under old.rows kind [] ≡ []) [
            | true ↦ λ is. so_far.none (before honest) kind (grind (arith, nat_tests))
            | false ↦ λ is.
                let last : kind_number kind - 1 ≡ i = grind (arith, nat_tests) in
                let this : slice_index_or kinds i k.Clock ≡ kind =
                subst (λ n. slice_index_or kinds n k.Clock ≡ kind) last (at_number kind) in
                subst (λ l. rows_under old.rows l [] ≡ []) this
                (subst (λ rows. rows_under rows (slice_index_or kinds i k.Clock) [] ≡ []) (so_far.same (before honest))
                (next honest))
          ] refl;
    }
  where
    before : IsHonest new → IsHonest now
    before = honest_before now new false on

-- an entry is among the rows of its kind
none_first : (es : List (RowKey × Row))
    → ((kind : Kind) → filter (λ e. is_of_kind kind e.0 && starts_with nat_eq e.0.1 []) es ≡ []) → es ≡ []
none_first [] none = refl
none_first (e ∷ es) none =
    let rest = filter (λ d. is_of_kind e.0.0 d.0 && starts_with nat_eq d.0.1 []) es in
    let no : (e ∷ rest) ≡ [] = subst (λ b. cond (b && starts_with nat_eq e.0.1 []) (e ∷ rest) rest ≡ [])
    (eqb_self (kind_number e.0.0)) (none e.0.0) in
    absurd cc

entries-empty : entries (empty {K = RowKey} {X = Row} {R = key_cmp}) ≡ []
entries-empty =
    same_entries key_cmp key_cmp_total key_cmp_exact (entries empty) [] (entries_sorted empty) tt
    (λ q. sym (get-entries empty q) ∙ get-empty key_cmp q)

-- there is none at all
pub no_rows : (old now : Seen) → LookedSoFar old now 13 → IsHonest now → old.rows ≡ empty
no_rows old now so_far honest =
    same_entries_map old.rows empty
    (none_first (entries old.rows) (λ kind. so_far.none honest kind (number_within kind)) ∙ sym entries-empty)

-- without rows there is none of a kind
pub none_in_empty : (rows : Rows) (kind : Kind) → rows ≡ empty → rows_under rows kind [] ≡ []
none_in_empty rows kind is =
    ap (filter (λ e. is_of_kind kind e.0 && starts_with nat_eq e.0.1 []))
    (ap (λ (r : Rows). entries r) is ∙ entries-empty)

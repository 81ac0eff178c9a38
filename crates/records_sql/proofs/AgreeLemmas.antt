-- What is remembered is true of rows that changed.
use Rattle.std.proofs.Common.{◌≡◌, ◌≢◌, ◌⊎◌, ◌+◌, ◌<◌, ◌≤◌, ◌==◌, ◌∷◌, ◌∙◌, ℕ, Bool, true, false, cond, List, []}
use Rattle.std.proofs.Common.{length, ap, ap₂, inl, inr, bytes_eq, string_bytes, string_eq, String, Global}
use Rattle.std.proofs.lemmas.Cmp.{nat_list_eq_equiv}
use Rattle.std.proofs.lemmas.List.Elements.{All-contains, All-contains_itself, All-from_recursion}
use Rattle.std.proofs.lemmas.Map.{lookup-remove_entry, none_passes_from_lookup}
use Rattle.std.specs.Map.{keys_of, remove_entry, lookup}
use Rattle.std.specs.String.{string_eq_equiv}
use Rattle.lru.specs.LruCache.{lru_cache, put_entries}
use Rattle.lru.proofs.CallerLemmas.{Contains-lookup, Contains-put_entries, Contains-remove_entry}
use Rattle.records.specs.KeyLaws.{kind_of, kind_of-number, key_cmp_exact}
use Rattle.records.specs.Words.{refl, sym, subst, arith, Option, None, Some, nat_le, All, Contains, IsPermutation}
use Rattle.records.specs.Words.{slice_index_or, Ordering, eq_by_cmp, is_eq, IsDistinct}
use Rattle.records.specs.Words.{tied_itself, get, insert, remove, get-insert, get-remove, bytes_eq-Decides}
use Rattle.records.specs.Words.{eqb-true, false≢true, nat_tests, All-head, false_from_ne_true}
use Rattle.records.specs.Words.{IsPermutation-refl, length_permutation, none-some, same_Some}
use Rattle.records.specs.Words.{is_equal, AreDue, is_due, rows_due, passing_each, passing_whole, RowKey}
use Rattle.records.specs.Words.{key_cmp, kind_number, key_cmp_total, Rows, Text}
use Rattle.records_sql.specs.Words.{Row, Kind, Agrees, AreBounded, AreFound, AreOthers, Entry, IsDueFrom, IsCalmUntil}
use Rattle.records_sql.specs.Words.{IsFound, IsSmall, Memory}
use Rattle.records_sql.specs.Memory.{Cache, entries_of, row_size, greatest_size}

-- ---- what is cached

-- keys of other texts do not compare alike
apart : (a b : RowKey) → a.1 ≢ b.1 → eq_by_cmp key_cmp a b ≡ false
apart a b differ =
    false_from_ne_true (eq_by_cmp key_cmp a b)
    (λ e. differ (ap (λ (k : RowKey). k.1) (key_cmp_exact a b (is_equal (key_cmp a b) e))))

-- whether it is the text of a key
abbrev is_key : Text → String Global → Bool
is_key key k = bytes_eq key (string_bytes k)

module _ (rows : Rows) (entries : List Entry) (found : AreFound entries rows) where
  -- what is cached at a key is the row of its kind
  pub found_at : (kind : Kind) (key : Text) (v : Kind × Option Row) → Some v ≡ lookup (is_key key) entries
      → kind_number v.0 ≡ kind_number kind → v.1 ≡ get rows (kind, key)
  found_at kind key v at kinds =
      let there = Contains-lookup (is_key key) entries v (sym at) in
      let text : key ≡ string_bytes there.0 = (bytes_eq-Decides key (string_bytes there.0)).0 there.2 in
      let same : v.0 ≡ kind = sym (kind_of-number v.0) ∙ ap kind_of kinds ∙ kind_of-number kind in
      sym (All-contains (IsFound rows) entries (there.0, v) found there.1)
      ∙ ap₂ (λ (k : Kind) (t : Text). get rows (k, t)) same (sym text)

  -- what is cached at other keys stays true where a row is put
  pub found_put : (q : RowKey) (row : Row) (others : List Entry) → AreOthers q.1 entries others
      → AreFound others (insert rows q row)
  found_put q row others are k d below =
      let e = slice_index_or others k d in
      let p : RowKey = (e.1.0, string_bytes e.0) in
      get-insert key_cmp_total rows q row p
      ∙ ap (λ b. cond b (Some row) (get rows p)) (apart p q (are k d below).1)
      ∙ All-contains (IsFound rows) entries e found (are k d below).0

  -- and where one is removed
  pub found_removed : (q : RowKey) (others : List Entry) → AreOthers q.1 entries others
      → AreFound others (remove rows q)
  found_removed q others are k d below =
      let e = slice_index_or others k d in
      let p : RowKey = (e.1.0, string_bytes e.0) in
      get-remove key_cmp_total rows q p
      ∙ ap (λ b. cond b None (get rows p)) (apart p q (are k d below).1)
      ∙ All-contains (IsFound rows) entries e found (are k d below).0

-- what a memory recalls is the row
pub recalled_row : (memory : Memory) (rows : Rows) → Agrees memory rows
    → (cached : Option Cache) → entries_of cached ≡ memory.entries
    → (cache : Cache) → Some cache ≡ cached
    → (kind : Kind) (key : Text) (v : Kind × Option Row) → Some v ≡ lookup (is_key key) cache.entries
    → kind_number v.0 ≡ kind_number kind → v.1 ≡ get rows (kind, key)
recalled_row memory rows agrees cached entries cache is kind key v at kinds =
    found_at rows cache.entries
    (subst (λ es. AreFound es rows) (sym (ap entries_of is ∙ entries)) agrees.entries) kind key v at kinds

module _ (key : Text) (entries : List Entry) (distinct : IsDistinct string_eq (keys_of entries)) where
  abbrev rest : List Entry
  rest = remove_entry (is_key key) entries

  left : (e : Entry) → Contains rest e → string_bytes e.0 ≢ key
  left e there same =
      let passes : is_key key e.0 ≡ true = (bytes_eq-Decides key (string_bytes e.0)).1 (sym same) in
      let none : lookup (string_eq e.0) rest ≡ None =
      lookup-remove_entry string_eq_equiv (is_key key)
      (λ x y. nat_list_eq_equiv.congr key (string_bytes x) (string_bytes y)) e.0 entries distinct
      ∙ ap (λ b. cond b None (lookup (string_eq e.0) entries)) passes in
      let IsMissed : Entry → Type 0 = λ f. string_eq e.0 f.0 ≡ false in
      let never : IsMissed e =
      All-contains IsMissed rest e
      (All-from_recursion IsMissed rest (none_passes_from_lookup (string_eq e.0) rest none)) there in
      false≢true (sym never ∙ string_eq_equiv.refl e.0)

  -- without the entry at a key, the others are left
  pub others_left : AreOthers key entries rest
  others_left k d below =
      let there = All-contains_itself rest k d below in
      let e = slice_index_or rest k d in (Contains-remove_entry (is_key key) entries e there, left e there)

-- each entry of a cache after an entry is put was there, or has the key and what was put
module _ (cache : Cache) (key : String Global) (v : Kind × Option Row) where
  abbrev after : List Entry
  after = put_entries string_eq cache key v

  put_all : (P : Text → Kind × Option Row → Type 0) → All (λ e. P (string_bytes e.0) e.1) cache.entries
      → P (string_bytes key) v → All (λ e. P (string_bytes e.0) e.1) after
  put_all P all is k d below =
      let e = slice_index_or after k d in
      elim (Contains-put_entries string_eq cache key v e (All-contains_itself after k d below)) [
        | inl there ↦ All-contains (λ f. P (string_bytes f.0) f.1) cache.entries e all there
        | inr put ↦ elim put.1 [
          | inl same ↦ subst (λ w. P (string_bytes e.0) w) (sym put.0)
              (subst (λ s. P (string_bytes s) v) (sym same) is)
          | inr alike ↦ subst (λ w. P (string_bytes e.0) w) (sym put.0)
              (subst (λ t. P t v) ((bytes_eq-Decides (string_bytes key) (string_bytes e.0)).0 alike.2) is)
        ]
      ]

  pub found_kept : (rows : Rows) → AreFound cache.entries rows → get rows (v.0, string_bytes key) ≡ v.1
      → AreFound after rows
  found_kept rows = put_all (λ t w. get rows (w.0, t) ≡ w.1)

  pub small_kept : All IsSmall cache.entries → length (string_bytes key) + row_size v.1 ≤ greatest_size
      → All IsSmall after
  small_kept = put_all (λ t w. length t + row_size w.1 ≤ greatest_size)

  -- and it is bounded, where the key and what was put are small, or nothing was put
  pub still_bounded : (new : Cache)
      → (new ≡ lru_cache after cache.cap) ⊎ (new ≡ cache) → AreBounded (Some cache) → IsSmall (key, v)
      → AreBounded (Some new)
  still_bounded new (inl put) held small =
      subst (λ m. AreBounded (Some m)) (sym put) (held.0, small_kept held.1 small)
  still_bounded new (inr same) held small = subst (λ m. AreBounded (Some m)) (sym same) held

  pub still_found : (new : Cache) (rows : Rows)
      → (new ≡ lru_cache after cache.cap) ⊎ (new ≡ cache) → AreFound cache.entries rows → IsFound rows (key, v)
      → AreFound new.entries rows
  still_found new rows (inl put) found is = subst (λ m. AreFound m.entries rows) (sym put) (found_kept rows found is)
  still_found new rows (inr same) found is = subst (λ m. AreFound m.entries rows) (sym same) found

-- what is left of small entries is small
pub small_others : (key : Text) (old new : List Entry) → AreOthers key old new → All IsSmall old → All IsSmall new
small_others key old new are small k d below =
    All-contains IsSmall old (slice_index_or new k d) small (are k d below).0

-- ---- rows that change

-- a row that was put is found
pub got_put : (rows : Rows) (key : RowKey) (row : Row) → get (insert rows key row) key ≡ Some row
got_put rows key row =
    get-insert key_cmp_total rows key row key
    ∙ ap (λ (o : Ordering). cond (is_eq o) (Some row) (get rows key)) (tied_itself key_cmp_total key)

module _ (rows : Rows) (key : RowKey) (moment : ℕ) (calm : IsCalmUntil moment rows) where
  put_cases : (row : Row) (sooner : ℕ) → sooner ≤ moment → IsDueFrom sooner row → (q : RowKey) (r : Row) (b : Bool)
      → cond b (Some row) (get rows q) ≡ Some r → IsDueFrom sooner r
  put_cases row sooner le due q r true is d at = due d (ap (λ (x : Row). x.due) (same_Some _ _ is) ∙ at)
  put_cases row sooner le due q r false is d at = let later : moment ≤ d = calm q r is d at in omega (arith, le, later)

  -- a row that is put is due at the sooner moment or later, as all others are
  pub calm_put : (row : Row) (sooner : ℕ) → sooner ≤ moment → IsDueFrom sooner row
      → IsCalmUntil sooner (insert rows key row)
  calm_put row sooner le due q r is =
      put_cases row sooner le due q r (eq_by_cmp key_cmp q key) (sym (get-insert key_cmp_total rows key row q) ∙ is)

  removed_cases : (q : RowKey) (r : Row) (b : Bool) → cond b None (get rows q) ≡ Some r → IsDueFrom moment r
  removed_cases q r true is = absurd (none-some r is)
  removed_cases q r false is = calm q r is

  pub calm_removed : IsCalmUntil moment (remove rows key)
  calm_removed q r is = removed_cases q r (eq_by_cmp key_cmp q key) (sym (get-remove key_cmp_total rows key q) ∙ is)

-- ---- rows that are due

module _ (rows : Rows) (moment : ℕ) where
  abbrev is_ended : RowKey × Row → Bool
  is_ended e = is_due moment e.1.due

  not_due : (calm : ℕ) (due : Option ℕ) → ((d : ℕ) → due ≡ Some d → calm ≤ d) → moment < calm
      → is_due moment due ≡ false
  not_due calm None later before = refl
  not_due calm (Some d) later before = let at : calm ≤ d = later d refl in grind (arith, nat_tests)

  none_of : (list : List (RowKey × Row)) → All (λ e. is_ended e ≡ false) list → All (λ e. is_ended e ≡ true) list
      → list ≡ []
  none_of [] unended ended = refl
  none_of (e ∷ es) unended ended =
      let never : is_ended e ≡ false = All-head (λ d. is_ended d ≡ false) e es unended in
      absurd (false≢true (sym never ∙ All-head (λ d. is_ended d ≡ true) e es ended))

  -- before the moment no row is due
  pub none_due : (calm : ℕ) → IsCalmUntil calm rows → moment < calm → rows_due rows moment ≡ []
  none_due calm known before =
      none_of (rows_due rows moment)
      (λ k d below. let e = slice_index_or (rows_due rows moment) k d in
      not_due calm e.1.due (known e.0 e.1 (passing_each rows is_ended k d below).0) before)
      (λ k d below. (passing_each rows is_ended k d below).1)

  later : (d : ℕ) → (nat_le d moment ≡ true → ⊥) → moment + 1 ≤ d
  later d never =
      elim (nat_le d moment) as (λ b. nat_le d moment ≡ b → moment + 1 ≤ d) [
        | true ↦ λ is. absurd (never is)
        | false ↦ λ is. grind (arith, nat_tests)
      ] refl

  -- and if none is due at a moment, each is due later
  pub calm_after : rows_due rows moment ≡ [] → IsCalmUntil (moment + 1) rows
  calm_after none q r is d at =
      later d
      (λ (passes : nat_le d moment ≡ true).
      let there = passing_whole rows is_ended q r is (ap (is_due moment) at ∙ passes) in
      let short = subst (λ l. Contains l (q, r)) none there in absurd (omega (arith, short.1)))

-- a list of none says that none is due
no_entries : (list : List (RowKey × Row)) → length list ≡ 0 → list ≡ []
no_entries [] short = refl
no_entries (e ∷ es) short = absurd (omega (arith, short))

pub none_listed : (rows : Rows) (moment : ℕ) (list : List (RowKey × Row)) → AreDue rows moment list
    → (length list == 0) ≡ true
    → rows_due rows moment ≡ []
none_listed rows moment list due short =
    let same : length list ≡ length (rows_due rows moment) = length_permutation (rows_due rows moment) list due.whole in
    no_entries (rows_due rows moment) (sym same ∙ eqb-true (length list) 0 short)

-- and the empty list has all where none is due
pub due_of_none : (rows : Rows) (moment : ℕ) → rows_due rows moment ≡ [] → AreDue rows moment []
due_of_none rows moment none =
    record {
      whole = subst (λ l. IsPermutation l []) (sym none) (IsPermutation-refl []);
      sorted = λ k d low high. absurd (omega (arith, high));
    }

-- All rows, kind by kind.
use Rattle.std.proofs.Common.{◌≡◌, ◌<◌, ◌≤◌, ◌+◌, ◌==◌, ◌&&◌, ◌∷◌, ◌++◌, ℕ, List, [], length, filter, true, false, Bool}
use Rattle.std.proofs.Common.{cond, ap, refl, sym, ◌∙◌, append-nil, append_assoc, arith, suc, nat_lt, nat_eq, flat_map}
use Rattle.std.specs.Prelude.{⊤}
use Rattle.records.specs.Words.{is_sorted, below_all, is_lt, nat_cmp, entries, entries_sorted, starts_with, and_parts}
use Rattle.records.specs.Words.{flat_map_more, get_or, subst, take, take_more, T_true, Ordering, Less, Equal, Greater}
use Rattle.records.specs.Words.{nat_tests, text_cmp, ordering_then}
use Rattle.records.specs.Words.{RowKey, Rows, rows_under, key_cmp, kind_number, is_of_kind, Text}
use Rattle.records.specs.declared.kind.Kind.{Kind}
use Rattle.records.specs.declared.kind.Kind.TheVariants as kind
use Rattle.records.specs.declared.row.Row.{Row}

-- the entries of later kinds
abbrev later : ℕ → List (RowKey × Row) → List (RowKey × Row)
later n es = filter (λ e. nat_lt n (kind_number e.0.0)) es

-- the entries of a kind
abbrev of_kind : Kind → List (RowKey × Row) → List (RowKey × Row)
of_kind k es = filter (λ e. is_of_kind k e.0 && starts_with nat_eq e.0.1 []) es

no_later : (m n : ℕ) (q t : Text) → is_lt (ordering_then (nat_cmp m n) (text_cmp q t)) ≡ true → m ≤ n
no_later m n q t h = elim (nat_cmp m n) as
    (λ o. nat_cmp m n ≡ o → is_lt (ordering_then o (text_cmp q t)) ≡ true → m ≤ n) [
      | Less ↦ λ is _. grind (arith, is)
      | Equal ↦ λ is _. grind (arith, is)
      | Greater ↦ λ _ low. absurd (cc)
    ] refl h

-- none is of a kind before the first
none_of : (k : Kind) (x : RowKey) (es : List (RowKey × Row)) → kind_number k < kind_number x.0
    → below_all key_cmp x es ≡ true → of_kind k es ≡ []
none_of k x [] low h = refl
none_of k x (e ∷ es) low h =
    let parts = and_parts _ _ h in
    let most : kind_number x.0 ≤ kind_number e.0.0 =
    no_later (kind_number x.0) (kind_number e.0.0) x.1 e.0.1 parts.0 in
    let other : (kind_number e.0.0 == kind_number k) ≡ false = grind (arith, nat_tests, low, most) in
    rw other (none_of k x es low parts.1)

-- how a number compares with a kind's
record Tests (n m k : ℕ) (after same beyond : Bool) : Type 0 where
  after_is : nat_lt n m ≡ after
  same_is : (m == k) ≡ same
  beyond_is : nat_lt (suc n) m ≡ beyond

less_tests : (n m k : ℕ) → k ≡ suc n → nat_cmp m k ≡ Less → Tests n m k false false false
less_tests n m k is o =
    let low : m < k = grind (arith, o) in
    record {
      after_is = grind (arith, nat_tests, low, is);
      same_is = grind (arith, nat_tests, low);
      beyond_is = grind (arith, nat_tests, low, is);
    }

equal_tests : (n m k : ℕ) → k ≡ suc n → nat_cmp m k ≡ Equal → Tests n m k true true false
equal_tests n m k is o =
    let same : m ≡ k = grind (arith, o) in
    record {
      after_is = grind (arith, nat_tests, same, is);
      same_is = grind (arith, nat_tests, same);
      beyond_is = grind (arith, nat_tests, same, is);
    }

greater_tests : (n m k : ℕ) → k ≡ suc n → nat_cmp m k ≡ Greater → (k < m) × Tests n m k true false true
greater_tests n m k is o =
    let high : k < m = grind (arith, o) in (
      high,
      record {
        after_is = grind (arith, nat_tests, high, is);
        same_is = grind (arith, nat_tests, high);
        beyond_is = grind (arith, nat_tests, high, is);
      },
    )

-- entries in order begin with those of the next kind
next_kind : (k : Kind) (n : ℕ) (es : List (RowKey × Row)) → kind_number k ≡ suc n → is_sorted key_cmp es ≡ true
    → later n es ≡ of_kind k es ++ later (suc n) es
next_kind k n [] is h = refl
next_kind k n (e ∷ es) is h =
    let parts = and_parts (below_all key_cmp e.0 es) (is_sorted key_cmp es) h in
    let m = kind_number e.0.0 in
    let rest : later n es ≡ of_kind k es ++ later (suc n) es = next_kind k n es is parts.1 in
    elim (nat_cmp m (kind_number k)) as (λ o. nat_cmp m (kind_number k) ≡ o
    → cond (nat_lt n m) (e ∷ later n es) (later n es)
    ≡ cond ((m == kind_number k) && true) (e ∷ of_kind k es) (of_kind k es)
    ++ cond (nat_lt (suc n) m) (e ∷ later (suc n) es) (later (suc n) es)) [
      | Less ↦ λ o.
          let t = less_tests n m (kind_number k) is o in
          rw (t.after_is, t.same_is, t.beyond_is) rest
      | Equal ↦ λ o.
          let t = equal_tests n m (kind_number k) is o in
          rw (t.after_is, t.same_is, t.beyond_is) (ap (λ fs. e ∷ fs) rest)
      | Greater ↦ λ o.
          let t = greater_tests n m (kind_number k) is o in
          let none : of_kind k es ≡ [] = none_of k e.0 es t.0 parts.0 in
          rw (t.1.after_is, t.1.same_is, t.1.beyond_is, none)
          (ap (λ fs. e ∷ fs) (rest ∙ ap (λ fs. fs ++ later (suc n) es) none))
    ] refl

-- kinds whose numbers count up
abbrev pub CountUp : ℕ → List Kind → Type 0
CountUp n [] = ⊤
CountUp n (k ∷ ks) = (kind_number k ≡ suc n) × CountUp (suc n) ks

next_kinds : (ks : List Kind) (n : ℕ) (es : List (RowKey × Row)) → CountUp n ks → is_sorted key_cmp es ≡ true
    → later n es ≡ flat_map (λ k. of_kind k es) ks ++ later (length ks + n) es
next_kinds [] n es count h = let none : n ≡ length {A = Kind} [] + n = omega arith in ap (λ m. later m es) none
next_kinds (k ∷ ks) n es count h =
    let on : length ks + suc n ≡ suc (length ks) + n = omega arith in
    next_kind k n es count.0 h
    ∙ ap (λ fs. of_kind k es ++ fs) (next_kinds ks (suc n) es count.1 h)
    ∙ sym (append_assoc (of_kind k es) (flat_map (λ k. of_kind k es) ks) (later (length ks + suc n) es))
    ∙ ap (λ m. (of_kind k es ++ flat_map (λ k. of_kind k es) ks) ++ later m es) on

some_number : (k : Kind) → nat_lt 0 (kind_number k) ≡ true
some_number kind.Clock = refl
some_number kind.Used = refl
some_number kind.Token = refl
some_number kind.Accessor = refl
some_number kind.Cubby = refl
some_number kind.Lease = refl
some_number kind.Credential = refl
some_number kind.KvKey = refl
some_number kind.KvVersion = refl
some_number kind.Waiting = refl
some_number kind.Mount = refl
some_number kind.Policy = refl
some_number kind.Role = refl

last_number : (k : Kind) → nat_lt 13 (kind_number k) ≡ false
last_number kind.Clock = refl
last_number kind.Used = refl
last_number kind.Token = refl
last_number kind.Accessor = refl
last_number kind.Cubby = refl
last_number kind.Lease = refl
last_number kind.Credential = refl
last_number kind.KvKey = refl
last_number kind.KvVersion = refl
last_number kind.Waiting = refl
last_number kind.Mount = refl
last_number kind.Policy = refl
last_number kind.Role = refl

all_later : (es : List (RowKey × Row)) → later 0 es ≡ es
all_later [] = refl
all_later (e ∷ es) = rw (some_number e.0.0, all_later es) refl

none_later : (es : List (RowKey × Row)) → later 13 es ≡ []
none_later [] = refl
none_later (e ∷ es) = rw (last_number e.0.0) (none_later es)

-- thirteen kinds that count up have all rows
pub all_kinds : (rows : Rows) (ks : List Kind) → CountUp 0 ks → length ks ≡ 13
    → flat_map (λ k. rows_under rows k []) ks ≡ entries rows
all_kinds rows ks count long =
    let sorted = T_true _ (entries_sorted rows) in
    let split = next_kinds ks 0 (entries rows) count sorted in
    let end : length ks + 0 ≡ 13 = omega (arith, long) in
    let none : later (length ks + 0) (entries rows) ≡ [] =
    ap (λ m. later m (entries rows)) end ∙ none_later (entries rows) in
    sym (append-nil (flat_map (λ k. of_kind k (entries rows)) ks))
    ∙ ap (λ fs. flat_map (λ k. of_kind k (entries rows)) ks ++ fs) (sym none) ∙ sym split ∙ all_later (entries rows)

-- the rows of kinds, and those of the next
pub kinds_more : (P : List (RowKey × Row) → Type 0) (all now : Rows) → now ≡ all → (rows : List (RowKey × Row))
    (ks : List Kind) (i : ℕ) (d : Kind) → i < length ks
    → P ((rows ++ flat_map (λ k. rows_under all k []) (take i ks)) ++ rows_under now (get_or ks i d) [])
    → P (rows ++ flat_map (λ k. rows_under all k []) (take (i + 1) ks))
kinds_more P all now same rows ks i d lt has =
    let of : Kind → List (RowKey × Row) = λ k. rows_under all k [] in
    let k = get_or ks i d in
    subst P (flat_map_more of rows (take i ks) k ∙ ap (λ l. rows ++ flat_map of l) (sym (take_more ks i d lt)))
    (subst (λ (r : Rows). P ((rows ++ flat_map of (take i ks)) ++ rows_under r k [])) same has)

-- the kinds, in the order of their numbers
abbrev pub kinds : List Kind
kinds =
    kind.Clock ∷ kind.Used ∷ kind.Token ∷ kind.Accessor ∷ kind.Cubby ∷ kind.Lease ∷ kind.Credential ∷ kind.KvKey
    ∷ kind.KvVersion ∷ kind.Waiting ∷ kind.Mount ∷ kind.Policy ∷ kind.Role ∷ []

pub count_up : CountUp 0 kinds
count_up =
    (refl, (refl, (refl, (refl, (refl, (refl, (refl, (refl, (refl, (refl, (refl, (refl, (refl, tt)))))))))))))

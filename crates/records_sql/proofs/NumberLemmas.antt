-- What the rows of a table are that was there before: sqlite's rules for the table, and what the rows show.
use Rattle.std.proofs.Common.{◌≡◌, ◌+◌, ◌<◌, ◌≤◌, ◌&&◌, ◌||◌, ◌∷◌, ℕ, ℤ, pos, Bool, true, false, not, List, [], map, ap}
use Rattle.records.specs.Words.{length, get_or, drop, Option, None, Some, refl, sym, subst, ◌∙◌, arith, nat_tests}
use Rattle.records.specs.Words.{drop_more, filter, IsPermutation, list_all, list_any, AllByRecursion, IsDistinct}
use Rattle.records.specs.Words.{Ordering, Less, Equal, Greater, is_eq, is_ne, int_cmp, eq_by_cmp, eq_by_cmp_equiv}
use Rattle.records.specs.Words.{int_cmp_total, IsPermutation-map, IsPermutation-sym, All-permutation}
use Rattle.records.specs.Words.{All-from_recursion, recursion_from_All, IsDistinct-IsPermutation, key_cmp, kind_number}
use Rattle.records.specs.Words.{kind_of, key_cmp_total}
use Rattle.sqlite.specs.declared.types.Value.{Value}
use Rattle.sqlite.specs.declared.types.Value.TheVariants.{Null, Int, Real, Text as Words, Blob as Bytes}
use Rattle.sqlite.specs.Order.{Row}
use Rattle.sqlite.specs.Query.{Output}
use Rattle.sqlite.specs.Ops.{binary, is_null}
use Rattle.sqlite_schema.specs.declared.schema.Kind.TheVariants as kinds
use Rattle.sqlite_value.specs.Order.{column, bytes, value_cmp}
use Rattle.sqlite_value.specs.Keys.{plain, first_key}
use Rattle.sqlite_value.proofs.OrderLemmas.{value_cmp-Int}
use Rattle.sqlite_schema.specs.Rules.{agree, differ, are_typed, are_present, is_of, Obeys, passes as passes_rule}
use Rattle.sqlite_schema.specs.declared.schema.Constraint.TheVariants.{Datatype, NotNull, Unique}
use Rattle.sqlite.specs.Tree.{Trees}
use Rattle.records_sql.specs.Words.{Kind, Kept, stored, kept, table, broker_schema, int_in, size_of, due_in, due_value}
use Rattle.records_sql.specs.Words.{is_apart, are_apart, IsListed, IsOver, AreNumbered, number_of}
use Rattle.records_sql.proofs.Texts.{numbers_project, by_number}
use Rattle.records_sql.proofs.QueryLemmas.{IsFound, shown_of, map_map}
use Rattle.records_sql.proofs.KeptLemmas.{and_left, and_right, and_both}
use Rattle.records_sql.proofs.ReadLemmas.{key_tests, is_true_is}
use Rattle.records_sql.proofs.DueLemmas.{pos_cmp}

-- ---- what is shown of the rows

-- a row by its number, its kind and when it is due
abbrev pub shown : Row → Row
shown r = column r 0 ∷ column r 1 ∷ column r 4 ∷ []

all_pass : {X : Type 0} (xs : List X) → filter (λ _. true) xs ≡ xs
all_pass [] = refl
all_pass (x ∷ xs) = ap (λ t. x ∷ t) (all_pass xs)

pub each_shown : (rows answer : List Row) → IsFound [] numbers_project by_number [] rows answer
    → IsPermutation (map shown rows) answer
each_shown rows answer f =
    let show = shown_of [] numbers_project by_number [] in
    let moved = IsPermutation-map (λ (o : Output). o.1) _ f.ordered f.same in
    subst (IsPermutation (map shown rows)) (sym f.shown)
    (subst (λ l. IsPermutation l (map (λ (o : Output). o.1) f.ordered))
    (map_map (λ (o : Output). o.1) show _ ∙ ap (map shown) (all_pass rows)) moved)

-- ---- numbers that rise

-- a row that is listed and over the last one stands before those that are over it
pub next_numbered : (last : Option ℕ) (rows : List Row) (i : ℕ) (r : Row) (n : ℕ) (kind : Kind) → i < length rows
    → r ≡ get_or rows i r
    → column r 0 ≡ Int (pos n) → kind ≡ kind_of (size_of (int_in (column r 1)))
    → column r 1 ≡ Int (pos (kind_number kind)) → column r 2 ≡ due_value (due_in (column r 2))
    → IsOver last n → AreNumbered (Some n) (drop (i + 1) rows) → AreNumbered last (drop i rows)
next_numbered last rows i r n kind lt is number named numbered due over rest =
    let same : number_of r ≡ n = ap (λ v. size_of (int_in v)) number in
    let it : IsListed r = record {
      number = number ∙ ap (λ m. Int (pos m)) (sym same);
      kind = numbered ∙ ap (λ k. Int (pos (kind_number k))) named;
      due = due;
    } in
    subst (AreNumbered last) (ap (λ x. x ∷ drop (i + 1) rows) is ∙ sym (drop_more rows i r lt))
    (it, subst (IsOver last) (sym same) over, subst (λ m. AreNumbered (Some m) (drop (i + 1) rows)) (sym same) rest)

pub all_listed : (last : Option ℕ) (rs : List Row) → AreNumbered last rs → AllByRecursion IsListed rs
all_listed last [] h = tt
all_listed last (r ∷ rs) h = (h.0, all_listed _ rs h.2)

abbrev pub id_of : Row → ℤ
id_of r = int_in (column r 0)

below : (a r : Row) → IsListed a → IsListed r → number_of a < number_of r
    → eq_by_cmp int_cmp (id_of a) (id_of r) ≡ false
below a r first second low =
    ap (λ v. eq_by_cmp int_cmp (int_in v) (id_of r)) first.number
    ∙ ap (λ v. eq_by_cmp int_cmp (pos (number_of a)) (int_in v)) second.number
    ∙ ap is_eq (pos_cmp (number_of a) (number_of r)) ∙ grind (arith, nat_tests, low)

all_above : (a : Row) (m : ℕ) (rs : List Row) → IsListed a → number_of a ≤ m → AreNumbered (Some m) rs
    → AllByRecursion (λ k. eq_by_cmp int_cmp (id_of a) k ≡ false) (map id_of rs)
all_above a m [] it low h = tt
all_above a m (r ∷ rs) it low h =
    (below a r it h.0 (omega (arith, low, h.1)), all_above a (number_of r) rs it (omega (arith, low, h.1)) h.2)

pub once_each : (last : Option ℕ) (rs : List Row) → AreNumbered last rs → IsDistinct (eq_by_cmp int_cmp) (map id_of rs)
unfolding IsDistinct
once_each last [] h = tt
once_each last (r ∷ rs) h = (all_above r (number_of r) rs h.0 (omega arith) h.2, once_each _ rs h.2)

-- ---- a row that meets the rules of its columns is the one that stands for its entry

is_text : (v : Value) → not (is_null v) ≡ true → is_of kinds.Text v ≡ true → v ≡ Words (bytes v)
is_text Null h k = absurd cc
is_text (Int n) h k = absurd cc
is_text (Real x) h k = absurd cc
is_text (Words t) h k = refl
is_text (Bytes b) h k = absurd cc

is_blob : (v : Value) → not (is_null v) ≡ true → is_of kinds.Blob v ≡ true → v ≡ Bytes (bytes v)
is_blob Null h k = absurd cc
is_blob (Int n) h k = absurd cc
is_blob (Real x) h k = absurd cc
is_blob (Words t) h k = absurd cc
is_blob (Bytes b) h k = refl

abbrev Six : Bool → Bool → Bool → Bool → Bool → Bool → Type 0
Six p q r s t u = (p ≡ true) × (q ≡ true) × (r ≡ true) × (s ≡ true) × (t ≡ true) × (u ≡ true)

six : (p q r s t u : Bool) → (p && (q && (r && (s && (t && u))))) ≡ true → Six p q r s t u
six p q r s t u h =
    let one = and_right p (q && (r && (s && (t && u)))) h in
    let two = and_right q (r && (s && (t && u))) one in
    let three = and_right r (s && (t && u)) two in
    let four = and_right s (t && u) three in
    (and_left p _ h, and_left q _ one, and_left r _ two, and_left s _ three, and_left t u four, and_right t u four)

-- what the rules ask of the values that a row begins with
present_of : (a b c d e f : Value) (more : List Value)
    → are_present None 0 table.columns (a ∷ b ∷ c ∷ d ∷ e ∷ f ∷ more) ≡ true
    → Six (not (is_null b)) (not (is_null c)) (not (is_null d)) true (not (is_null f)) true
present_of a b c d e f more h = six (not (is_null b)) (not (is_null c)) (not (is_null d)) true (not (is_null f)) true h

typed_of : (a b c d e f : Value) (more : List Value) → are_typed None 0 table.columns (b ∷ c ∷ d ∷ e ∷ f ∷ more) ≡ true
    → Six (is_of kinds.Integer b) (is_of kinds.Text c) (is_of kinds.Text d) (is_of kinds.Integer e) (is_of kinds.Blob f)
    (are_typed None 5 [] more)
typed_of a b c d e f more h =
    six (is_of kinds.Integer b) (is_of kinds.Text c) (is_of kinds.Text d) (is_of kinds.Integer e) (is_of kinds.Blob f)
    (are_typed None 5 [] more) h

-- a row that has fewer values lacks a body
pub stands : (r : Row) → are_typed None 0 table.columns (drop 1 r) ≡ true → are_present None 0 table.columns r ≡ true
    → IsListed (shown r) → stored (kept r) ≡ r
stands [] typed present it = absurd cc
stands (a ∷ []) typed present it = absurd cc
stands (a ∷ b ∷ []) typed present it =
    absurd (let no : false ≡ true = (six (not (is_null b)) false false true false true present).1 in cc)
stands (a ∷ b ∷ c ∷ []) typed present it =
    absurd (let no : false ≡ true = (six (not (is_null b)) (not (is_null c)) false true false true present).2 in cc)
stands (a ∷ b ∷ c ∷ d ∷ []) typed present it = absurd (let no : false ≡ true =
    (six (not (is_null b)) (not (is_null c)) (not (is_null d)) true false true present).4 in cc)
stands (a ∷ b ∷ c ∷ d ∷ e ∷ []) typed present it = absurd (let no : false ≡ true =
    (six (not (is_null b)) (not (is_null c)) (not (is_null d)) true false true present).4 in cc)
stands (a ∷ b ∷ c ∷ d ∷ e ∷ f ∷ []) typed present it =
    let there = present_of a b c d e f [] present in
    let fits = typed_of a b c d e f [] typed in
    let number : a ≡ Int (int_in a) = it.number ∙ ap (λ v. Int (int_in v)) (sym it.number) in
    let key = is_text c there.1 fits.1 in
    let owner = is_text d there.2 fits.2 in
    let body = is_blob f there.4 fits.4 in
    λ i. sym number i ∷ sym it.kind i ∷ sym key i ∷ sym owner i ∷ sym it.due i ∷ sym body i ∷ []
stands (a ∷ b ∷ c ∷ d ∷ e ∷ f ∷ g ∷ more) typed present it =
    absurd (let no : false ≡ true = (typed_of a b c d e f (g ∷ more) typed).5 in cc)

-- ---- keys apart

-- a row of the table clashes with no other
abbrev pub clash : Row → Row → Bool
clash other row = agree plain (1 ∷ 2 ∷ []) other (1 ∷ 2 ∷ []) row && differ (column other 0) (column row 0)

none_true : {X : Type 0} (p : X → Bool) (xs : List X) → list_any p xs ≡ false → AllByRecursion (λ x. p x ≡ false) xs
none_true p [] h = tt
none_true p (x ∷ xs) h = (or_first _ _ h, none_true p xs (or_second _ _ h))
  where
    or_first : (a b : Bool) → (a || b) ≡ false → a ≡ false
    or_first true b h = absurd cc
    or_first false b h = refl

    or_second : (a b : Bool) → (a || b) ≡ false → b ≡ false
    or_second true b h = absurd cc
    or_second false b h = h

each : {X : Type 0} {P Q : X → Type 0} → ((x : X) → P x → Q x) → (xs : List X) → AllByRecursion P xs
    → AllByRecursion Q xs
each f [] h = tt
each f (x ∷ xs) h = (f x h.0, each f xs h.1)

differs : (a b : ℤ) → eq_by_cmp int_cmp a b ≡ false → differ (Int a) (Int b) ≡ true
unfolding binary
differs a b h = is_true_is (is_ne (value_cmp (Int a) (Int b))) ∙ ap is_ne (value_cmp-Int a b) ∙ unequal (int_cmp a b) h
  where
    unequal : (o : Ordering) → is_eq o ≡ false → is_ne o ≡ true
    unequal Less e = refl
    unequal Equal e = absurd cc
    unequal Greater e = refl

agrees : (e f : Kept) → agree plain (1 ∷ 2 ∷ []) (stored e) (1 ∷ 2 ∷ []) (stored f) ≡ eq_by_cmp key_cmp f.1.0 e.1.0
unfolding first_key
agrees e f = key_tests f.1.0 e

both_false : (a b : Bool) → (a && b) ≡ false → b ≡ true → a ≡ false
both_false true b h k = absurd (let e = sym k ∙ h in cc)
both_false false b h k = refl

apart_pair : (e f : Kept) → eq_by_cmp int_cmp e.0 f.0 ≡ false → clash (stored e) (stored f) ≡ false
    → is_apart e f ≡ true
apart_pair e f ids free =
    let keys : eq_by_cmp key_cmp f.1.0 e.1.0 ≡ false = sym (agrees e f) ∙ both_false _ _ free (differs e.0 f.0 ids) in
    and_both _ _ (ap not ((eq_by_cmp_equiv int_cmp_total).symm f.0 e.0 ∙ ids))
    (ap not ((eq_by_cmp_equiv key_cmp_total).symm e.1.0 f.1.0 ∙ keys))

apart_from : (e : Kept) (es : List Kept)
    → AllByRecursion (λ n. eq_by_cmp int_cmp e.0 n ≡ false) (map (λ (f : Kept). f.0) es)
    → AllByRecursion (λ (f : Kept). clash (stored e) (stored f) ≡ false) es → list_all (is_apart e) es ≡ true
apart_from e [] ids free = refl
apart_from e (f ∷ fs) ids free = and_both _ _ (apart_pair e f ids.0 free.0) (apart_from e fs ids.1 free.1)

abbrev FreeEach : List Kept → List Kept → Type 0
FreeEach all es = AllByRecursion (λ (f : Kept). AllByRecursion (λ (e : Kept). clash (stored e) (stored f) ≡ false) all)
    es

each_stored : (f : Kept) (all : List Kept) → AllByRecursion (λ other. clash other (stored f) ≡ false) (map stored all)
    → AllByRecursion (λ (e : Kept). clash (stored e) (stored f) ≡ false) all
each_stored f [] h = tt
each_stored f (e ∷ es) h = (h.0, each_stored f es h.1)

of_stored : (all es : List Kept) → AllByRecursion
    (λ row. AllByRecursion (λ other. clash other row ≡ false) (map stored all)) (map stored es) → FreeEach all es
of_stored all [] h = tt
of_stored all (f ∷ fs) h = (each_stored f all h.0, of_stored all fs h.1)

not_true : (b : Bool) → not b ≡ true → b ≡ false
not_true true h = absurd cc
not_true false h = refl

pub apart_all : (es : List Kept) → IsDistinct (eq_by_cmp int_cmp) (map (λ (e : Kept). e.0) es) → FreeEach es es
    → are_apart es ≡ true
unfolding IsDistinct
apart_all [] ids free = refl
apart_all (e ∷ es) ids free =
    and_both _ _ (apart_from e es ids.0 (each (λ f all. all.0) es free.1))
    (apart_all es ids.1 (each (λ f all. all.1) es free.1))

-- ---- so the table is one of this crate's

module _ (db : Trees) (obeys : Obeys broker_schema db) (answer : List Row)
    (found : IsFound [] numbers_project by_number [] (db 0) answer) (numbered : AreNumbered None answer) where
  listed : AllByRecursion (λ r. IsListed (shown r)) (db 0)
  listed =
      let back = IsPermutation-sym _ answer (each_shown (db 0) answer found) in
      of_map (db 0) (recursion_from_All IsListed _ (All-permutation IsListed answer (map shown (db 0)) back
      (All-from_recursion IsListed answer (all_listed None answer numbered))))
    where
      of_map : (rs : List Row) → AllByRecursion IsListed (map shown rs) → AllByRecursion (λ r. IsListed (shown r)) rs
      of_map [] h = tt
      of_map (r ∷ rs) h = (h.0, of_map rs h.1)

  ids : IsDistinct (eq_by_cmp int_cmp) (map (λ (e : Kept). e.0) (map kept (db 0)))
  ids =
      let e = eq_by_cmp int_cmp in
      let moved = IsPermutation-map id_of answer _ (IsPermutation-sym _ answer (each_shown (db 0) answer found)) in
      subst (IsDistinct e) (map_map id_of shown (db 0) ∙ sym (map_map (λ (k : Kept). k.0) kept (db 0)))
      (IsDistinct-IsPermutation e (eq_by_cmp_equiv int_cmp_total).symm _ _ moved (once_each None answer numbered))

  shaped : (rs : List Row) → AllByRecursion (λ r. IsListed (shown r)) rs
      → AllByRecursion (λ r. passes_rule Datatype broker_schema db table r ≡ true) rs
      → AllByRecursion (λ r. passes_rule NotNull broker_schema db table r ≡ true) rs → map stored (map kept rs) ≡ rs
  shaped [] a b c = refl
  shaped (r ∷ rs) a b c =
      let one = stands r (and_left (are_typed None 0 table.columns (drop 1 r)) true b.0) c.0 a.0 in
      λ i. one i ∷ shaped rs a.1 b.1 c.1 i

  is_stored : map stored (map kept (db 0)) ≡ db 0
  is_stored = shaped (db 0) listed (obeys.rules Datatype).0 (obeys.rules NotNull).0

  free : (rs : List Row) → AllByRecursion (λ r. passes_rule Unique broker_schema db table r ≡ true) rs
      → AllByRecursion (λ row. AllByRecursion (λ other. clash other row ≡ false) (db 0)) rs
  free [] h = tt
  free (r ∷ rs) h = (
    none_true (λ other. clash other r) (db 0)
        (not_true _ (and_left (not (list_any (λ other. clash other r) (db 0))) true h.0)),
    free rs h.1,
  )

  free_each : AllByRecursion (λ row. AllByRecursion (λ other. clash other row ≡ false) (map stored (map kept (db 0))))
      (map stored (map kept (db 0)))
  free_each = subst (λ rs. AllByRecursion (λ row. AllByRecursion (λ other. clash other row ≡ false) rs) rs)
      (sym is_stored) (free (db 0) (obeys.rules Unique).0)

  pub stored_rows : (map stored (map kept (db 0)) ≡ db 0) × (are_apart (map kept (db 0)) ≡ true)
  stored_rows = (is_stored, apart_all (map kept (db 0)) ids (of_stored (map kept (db 0)) (map kept (db 0)) free_each))

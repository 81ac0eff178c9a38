-- What a query in a transaction shows of the rows.
use Rattle.std.specs.Prelude.{◌≡◌, ◌∷◌, ℕ, true, IsTrue, List, [], map, slice_get, take, Option, Some, None, option_map}
use Rattle.records.specs.Words.{inl, inr, refl, sym, ap, subst, ◌∙◌, arith, filter, nat_eq, starts_with, get, find}
use Rattle.records.specs.Words.{get-from_entries, RowKey as Key, key_cmp, rows_under, rows_from, rows_upto, rows_owned}
use Rattle.records.specs.Words.{key_cmp_total, AreDue}
use Rattle.sqlite.specs.Order.{Row}
use Rattle.sqlite.specs.Term.{Term, col}
use Rattle.sqlite.specs.Tree.{Trees}
use Rattle.sqlite.specs.Effect.{Database}
use Rattle.sqlite_schema.specs.declared.command.Returning.{Returning}
use Rattle.sqlite.specs.Listing.{understood}
use Rattle.sqlite.specs.Clock.{timed}
use Rattle.sqlite.specs.State.{State, HasCleanDisk, Survives, Shown, ShowsRows, IsUnchanged}
use Rattle.sqlite.proofs.Callers.{IsPlain, reads_as}
use Rattle.records_sql.specs.Words.{Row as Fields, Agrees, Kept, stored, kept, due_value, broker_schema, IsStore}
use Rattle.records_sql.specs.Words.{IsSoundAt, IsActive, IsUsable, rows_of, entries_of, are_apart, due_in, read_row}
use Rattle.records_sql.specs.Words.{entry_in, whole_entry, Read, Asked, get_text, under_text, from_text, upto_text}
use Rattle.records_sql.specs.Words.{owner_text, due_text, key_params, under_params, from_params, upto_params}
use Rattle.records_sql.specs.Words.{due_params, IsAbove, IsLater}
use Rattle.records_sql.proofs.PageLemmas.{from_found, upto_found}
use Rattle.records_sql.proofs.UnderLemmas.{under_found, owner_found}
use Rattle.records_sql.proofs.DueLemmas.{due_found}
use Rattle.records_sql.proofs.Texts.{at_key, get_is, get_plain, get_unlisted, under_is, under_plain, under_unlisted}
use Rattle.records_sql.proofs.Texts.{from_is, from_plain, from_unlisted, upto_is, upto_plain, upto_unlisted, owner_is}
use Rattle.records_sql.proofs.Texts.{owner_plain, owner_unlisted, due_is, due_plain, due_unlisted, under_tests}
use Rattle.records_sql.proofs.Texts.{upto_tests, owner_tests, due_tests, entry_project, whole_project, by_key, by_due}
use Rattle.records_sql.proofs.QueryLemmas.{is_found, is_page, IsFound}
use Rattle.records_sql.proofs.StateLemmas.{usable_clean, clean_usable}
use Rattle.records_sql.proofs.KeptLemmas.{due_back, at_most_one, find_first}
use Rattle.records_sql.proofs.ReadLemmas.{none_answered, one_answered}

pub shown_same : (sql : List ℕ) (params : Row) (old new : State) (rows : List Row)
    → IsPlain (understood old.now.schema sql) → Shown sql params old new rows → IsUnchanged old new
unfolding Shown
shown_same sql params old new rows plain h =
    let none = (subst IsPlain h.1.is plain).0 in
    (subst (ShowsRows old new sql h.0 (timed params h.0.formats h.1.now) rows) none h.2).3

abbrev get_project : List Term
get_project = col 1 3 ∷ col 1 4 ∷ col 1 5 ∷ []

fields_back : (v : Fields) → record v { due = due_in (due_value v.due) } ≡ v
fields_back v = ap (λ d. record v { due = d }) (due_back v.due)

-- the first row that is shown is what the map has
got : (q : Key) (db : Database) (es : List Kept) (rows : List Row) → IsStore db → es ≡ map kept (db.trees 0)
    → IsFound at_key get_project [] (key_params q) (db.trees 0) rows
    → option_map read_row (slice_get rows 0) ≡ get (rows_of db.trees) q
got q db es rows store is found =
    let shape : db.trees 0 ≡ map stored es = sym store.shape ∙ ap (map stored) (sym is) in
    let apart : are_apart es ≡ true = ap are_apart is ∙ store.apart in
    let has : get (rows_of db.trees) q ≡ find key_cmp q (entries_of es) = get-from_entries key_cmp_total
    (entries_of (map kept (db.trees 0))) q ∙ ap (λ fs. find key_cmp q (entries_of fs)) (sym is) in
    elim (at_most_one q es apart) [
      | inl none ↦ ap (λ rs. option_map read_row (slice_get rs 0))
          (none_answered q get_project es (db.trees 0) rows shape none found) ∙ sym (has ∙ find_first q es [] none)
      | inr one ↦ ap (λ rs. option_map read_row (slice_get rs 0))
          (one_answered q get_project es (db.trees 0) rows one.0 shape one.1 found) ∙ ap Some (fields_back one.0.1.1)
          ∙ sym (has ∙ find_first q es (one.0 ∷ []) one.1)
    ]

module _ (old new : State) (P : Trees → Type 0) (s : Survives old new P) (was : IsSoundAt old)
    (begun : IsActive old) where
  usable_before : HasCleanDisk new → IsUsable old
  usable_before clean = let before : HasCleanDisk old = omega (arith, s.clean) in
      clean_usable old before (begun before).0

  pub reads : (sql : List ℕ) (params : Row) (rows : List Row) (Q : Type 0)
      → (HasCleanDisk new → Shown sql params old new rows) → IsPlain (understood broker_schema sql)
      → (HasCleanDisk new → IsStore old.now → Q) → Read old new Q
  reads sql params rows Q shown plain step = record {
    stays = record {
      mismatches = s.clean;
      closes = λ now. usable_before (usable_clean new now).0;
      before = λ now. ap (λ (d : Database). rows_of d.trees) (unchanged (usable_clean new now).0).0.committed_is;
      sound = λ _ now.
          let clean = (usable_clean new now).0 in (
            subst IsStore (sym (unchanged clean).0.now_is) (was (usable_before clean)).0,
            subst IsStore (sym (unchanged clean).0.committed_is) (was (usable_before clean)).1,
          );
    };
    active = λ clean. (
      (unchanged clean).0.is_open,
      subst IsTrue (sym (unchanged clean).0.mode) (begun (omega (arith, s.clean))).1,
    );
    rows = λ clean. step clean (was (usable_before clean)).0;
    was_clean = λ clean. omega (arith, s.clean);
    agrees = λ memory known clean.
        subst (Agrees memory) (sym (ap (λ (d : Database). rows_of d.trees) (unchanged clean).0.now_is))
        (known (omega (arith, s.clean)));
    same = λ clean. ap (λ (d : Database). rows_of d.trees) (unchanged clean).0.now_is;
  }
    where
      unchanged : HasCleanDisk new → IsUnchanged old new
      unchanged clean = shown_same sql params old new rows
          (subst (λ sc. IsPlain (understood sc sql)) (sym (was (usable_before clean)).0.schema) plain) (shown clean)

  pub get_reads : (q : Key) (rows : List Row) → (HasCleanDisk new → Shown get_text (key_params q) old new rows)
      → Read old new (option_map read_row (slice_get rows 0) ≡ get (rows_of old.now.trees) q)
  get_reads q rows shown = reads get_text (key_params q) rows _ shown get_plain (λ clean store.
      let read = reads_as get_text (key_params q) old new broker_schema store.schema _ get_is get_plain get_unlisted
      rows (shown clean) in
      got q old.now (map kept (old.now.trees 0)) rows store refl
      (is_found at_key get_project [] (key_params q) old.now.trees rows read.answer))

  pub under_reads : (q : Key) (bound : Option (List ℕ)) → IsAbove q.1 bound → (rows : List Row)
      → (HasCleanDisk new → Shown under_text (under_params q bound) old new rows)
      → Read old new (filter (λ e. starts_with nat_eq e.0.1 q.1) (map (entry_in q.0) rows)
      ≡ rows_under (rows_of old.now.trees) q.0 q.1)
  under_reads q bound above rows shown = reads under_text (under_params q bound) rows _ shown under_plain
      (λ clean store.
      let read = reads_as under_text (under_params q bound) old new broker_schema store.schema _ under_is under_plain
      under_unlisted rows (shown clean) in
      under_found q bound above (map kept (old.now.trees 0)) (old.now.trees 0) rows (sym store.shape) store.apart
      (is_found under_tests entry_project by_key (under_params q bound) old.now.trees rows read.answer))

  pub from_reads : (q : Key) (from first : List ℕ) (bound : Option (List ℕ)) (count : ℕ)
      → IsAbove q.1 bound → IsLater q.1 from first → (rows : List Row)
      → (HasCleanDisk new → Shown from_text (from_params (q.0, first) bound count) old new rows)
      → Read old new (filter (λ e. starts_with nat_eq e.0.1 q.1) (map (entry_in q.0) rows)
      ≡ take count (rows_from (rows_of old.now.trees) q.0 q.1 from))
  from_reads q from first bound count above later rows shown =
      reads from_text (from_params (q.0, first) bound count) rows _ shown from_plain (λ clean store.
      let read = reads_as from_text (from_params (q.0, first) bound count) old new broker_schema store.schema _ from_is
      from_plain from_unlisted rows (shown clean) in
      let page = is_page under_tests entry_project by_key (from_params (q.0, first) bound count)
      (col 0 3) count refl old.now.trees rows read.answer in
      from_found q from first later bound above count (map kept (old.now.trees 0)) (old.now.trees 0) page.whole rows
      (sym store.shape) store.apart page.found page.taken)

  pub upto_reads : (q : Key) (last : List ℕ) (rows : List Row)
      → (HasCleanDisk new → Shown upto_text (upto_params q last) old new rows)
      → Read old new (filter (λ e. starts_with nat_eq e.0.1 q.1) (map (entry_in q.0) rows)
      ≡ rows_upto (rows_of old.now.trees) q.0 q.1 last)
  upto_reads q last rows shown = reads upto_text (upto_params q last) rows _ shown upto_plain (λ clean store.
      let read = reads_as upto_text (upto_params q last) old new broker_schema store.schema _ upto_is upto_plain
      upto_unlisted rows (shown clean) in
      upto_found q last (map kept (old.now.trees 0)) (old.now.trees 0) rows (sym store.shape) store.apart
      (is_found upto_tests entry_project by_key (upto_params q last) old.now.trees rows read.answer))

  pub owner_reads : (q : Key) (rows : List Row) → (HasCleanDisk new → Shown owner_text (key_params q) old new rows)
      → Read old new (map (entry_in q.0) rows ≡ rows_owned (rows_of old.now.trees) q.0 q.1)
  owner_reads q rows shown = reads owner_text (key_params q) rows _ shown owner_plain (λ clean store.
      let read = reads_as owner_text (key_params q) old new broker_schema store.schema _ owner_is owner_plain
      owner_unlisted rows (shown clean) in
      owner_found q (map kept (old.now.trees 0)) (old.now.trees 0) rows (sym store.shape) store.apart
      (is_found owner_tests entry_project by_key (key_params q) old.now.trees rows read.answer))

  pub due_reads : (moment : ℕ) (rows : List Row) → (HasCleanDisk new → Shown due_text (due_params moment) old new rows)
      → Read old new (AreDue (rows_of old.now.trees) moment (map whole_entry rows))
  due_reads moment rows shown = reads due_text (due_params moment) rows _ shown due_plain (λ clean store.
      let read = reads_as due_text (due_params moment) old new broker_schema store.schema _ due_is due_plain
      due_unlisted rows (shown clean) in
      due_found moment (map kept (old.now.trees 0)) (old.now.trees 0) rows (sym store.shape) store.apart
      (is_found due_tests whole_project by_due (due_params moment) old.now.trees rows read.answer))

-- ---- a query outside of a transaction

shown_open : (sql : List ℕ) (params : Row) (old new : State) (rows : List Row) → Shown sql params old new rows
    → IsTrue old.is_open × IsTrue new.is_open
unfolding Shown
shown_open sql params old new rows h = go h.0.returning h.2
  where
    go : (r : Option Returning) → ShowsRows old new sql h.0 (timed params h.0.formats h.1.now) rows r
        → IsTrue old.is_open × IsTrue new.is_open
    go None s = (s.3.0.was_open, s.3.0.is_open)
    go (Some what) s = (s.1.shown.was_open, s.1.shown.is_open)

module _ (old new : State) (P : Trees → Type 0) (s : Survives old new P) (was : IsSoundAt old) where
  pub asks : (q : Key) (rows : List Row) → (HasCleanDisk new → Shown get_text (key_params q) old new rows)
      → Asked old new
  asks q rows shown = record {
    stays = record {
      mismatches = s.clean;
      closes = λ now. before (usable_clean new now).0;
      before = λ now. ap (λ (d : Database). rows_of d.trees) (unchanged (usable_clean new now).0).0.committed_is;
      sound = λ _ now.
          let clean = (usable_clean new now).0 in (
            subst IsStore (sym (unchanged clean).0.now_is) (was (before clean)).0,
            subst IsStore (sym (unchanged clean).0.committed_is) (was (before clean)).1,
          );
    };
    usable = λ clean. clean_usable new clean (shown_open get_text (key_params q) old new rows (shown clean)).1;
  }
    where
      before : HasCleanDisk new → IsUsable old
      before clean = let late : HasCleanDisk old = omega (arith, s.clean) in
          clean_usable old late (shown_open get_text (key_params q) old new rows (shown clean)).0

      unchanged : HasCleanDisk new → IsUnchanged old new
      unchanged clean = shown_same get_text (key_params q) old new rows
          (subst (λ sc. IsPlain (understood sc get_text)) (sym (was (before clean)).0.schema) get_plain) (shown clean)

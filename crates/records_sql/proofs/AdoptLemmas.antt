-- What a database that was there before has.
use Rattle.std.proofs.Common.{◌≡◌, inl, inr, None, IsTrue, Ok, Err, Result, List, [], map, refl, sym, ap, subst, ◌∙◌}
use Rattle.records.specs.Words.{empty, from_entries, IfOk, Rows}
use Rattle.sqlite.specs.Order.{Row}
use Rattle.sqlite.specs.Effect.{Database}
use Rattle.sqlite.specs.Listing.{understood}
use Rattle.sqlite.specs.Start.{FindsIn}
use Rattle.sqlite.specs.Recovery.{Image}
use Rattle.sqlite.specs.State.{State, IsLive, IsUnchanged, Opens, Shown}
use Rattle.sqlite.proofs.Callers.{IsPlain, reads_as}
use Rattle.sqlite_schema.specs.Rules.{Obeys}
use Rattle.records_sql.specs.Words.{IsStore, broker_schema, no_schema, entries_of, kept, rows_of, numbers_text}
use Rattle.records_sql.specs.Words.{AreNumbered, HasRows, IsSettled, IsAdopted, IsKeptIn, IsNewTable}
use Rattle.records_sql.proofs.Texts.{numbers_is, numbers_plain, numbers_unlisted, numbers_project, by_number}
use Rattle.records_sql.proofs.QueryLemmas.{is_found}
use Rattle.records_sql.proofs.GetLemmas.{shown_same}
use Rattle.records_sql.proofs.NumberLemmas.{stored_rows}
use Rattle.records_sql.proofs.KeptLemmas.{map_of, is_store}

-- ---- a table that was there before

pub unchanged : (old new : State) (rows : List Row) → old.now.schema ≡ broker_schema
    → Shown numbers_text [] old new rows → IsUnchanged old new
unchanged old new rows has shown =
    shown_same numbers_text [] old new rows (subst (λ s. IsPlain (understood s numbers_text)) (sym has) numbers_plain)
    shown

pub adopted : (old new : State) (rows : List Row) → old.now.schema ≡ broker_schema → IsLive old
    → Shown numbers_text [] old new rows → AreNumbered None rows → IsStore old.now
adopted old new rows has live shown numbered =
    let is_open = (unchanged old new rows has shown).0.was_open in
    let obeys : Obeys broker_schema old.now.trees = subst (λ s. Obeys s old.now.trees) has (live is_open).0.obeys in
    let read = reads_as numbers_text [] old new broker_schema has _ numbers_is numbers_plain numbers_unlisted rows
    shown in
    let found = is_found [] numbers_project by_number [] old.now.trees rows read.answer in
    let both = stored_rows old.now.trees obeys rows found numbered in
    record { schema = has; shape = both.0; apart = both.1 }

pub kept_as_found : (old new : State) → IsSettled old → IsUnchanged old new → IsStore old.now → IsAdopted old new
kept_as_found old new settled same store =
    let committed = sym (settled same.0.was_open) in
    let there : IsStore old.committed = subst IsStore (sym committed) store in
    record {
      has = inr (there, ap (λ (db : Database). rows_of db.trees) same.0.committed_is);
      now = subst IsStore (sym same.0.now_is) store;
      committed = subst IsStore (sym same.0.committed_is) there;
      is_open = same.0.is_open;
    }

-- ---- a table that has just been made

pub made_new : (old new : State) → IsSettled old → old.now.schema ≡ no_schema → IsTrue old.is_open → IsNewTable new
    → IsAdopted old new
made_new old new settled has was_open made =
    let store : IsStore new.now = is_store new.now [] made.schema made.empty refl in
    record {
      has = inl (
        ap (λ (db : Database). db.schema) (sym (settled was_open)) ∙ has,
        ap (λ rs. map_of (map kept rs)) (ap (λ (db : Database). db.trees 0) made.committed ∙ made.empty),
      );
      now = store;
      committed = subst IsStore (sym made.committed) store;
      is_open = made.is_open;
    }

-- a database that has no table keeps no row
pub none_found : (db : Database) (rows : Rows) → db.trees 0 ≡ [] → HasRows db rows → rows ≡ empty
none_found db rows none (inl blank) = blank.1
none_found db rows none (inr store) = store.1 ∙ ap (λ (list : List Row). from_entries (entries_of (map kept list))) none

-- ---- files that were there before

pub kept_in : (image : Image) (old new : State) → FindsIn image old → Opens old × IsLive old
    → HasRows old.committed (rows_of new.committed.trees) → IsKeptIn image (rows_of new.committed.trees)
kept_in image old new finds opened has = record {
  db = old.committed;
  held = finds.holds;
  found = finds.reads;
  sound = (opened.1 opened.0.is_open).1;
  has = has;
}

pub if_both : {T E : Type 0} {P Q R : T → Type 0} (r : Result T E) → ((x : T) → P x → Q x → R x) → IfOk r P → IfOk r Q
    → IfOk r R
if_both (Ok x) f p q = f x p q
if_both (Err e) f p q = tt

use Rattle.records.specs.Words.{map, List, sym, ap, subst, ◌∙◌, AreDue}
use Rattle.sqlite.specs.Order.{Row}
use Rattle.records_sql.specs.Words.{Agrees, whole_entry, rows_of}
use Rattle.sqlite.specs.Held.{state}
use Rattle.records_sql.proofs.EndLemmas.{both_modes}
use Rattle.records_sql.proofs.sql_records.SqlRecords.due_until.Goals as goal

pub returns-in-Some-clause-entries : goal.returns-in-Some-clause-entries
returns-in-Some-clause-entries g c clean =
    c.in-Some.ensures (rows_of (state g.S.Store c.args.self.now.conn).now.trees) (c.args.self.now.remembered clean)

pub invariant_of-self-in-Err : goal.invariant_of-self-in-Err
invariant_of-self-in-Err g c = record {
  sound = c.in-Err.ensures.stays.sound c.args.self.now.sound;
  active = λ t. absurd (both_modes _ t c.lost.ensures.inactive);
  remembered = λ _. c.lost.ensures.forgets _;
}

pub invariant_of-self-in-Ok-whole_entries : goal.invariant_of-self-in-Ok-whole_entries
invariant_of-self-in-Ok-whole_entries g c =
    let it = c.in-Ok.ensures.reads c.args.self.now.sound (c.args.self.now.active c.if-not-self.false) in
    record {
      sound = it.stays.sound c.args.self.now.sound;
      active = λ _. it.active;
      remembered = λ clean.
          let rows = rows_of (state g.S.Store c.args.self.now.conn).now.trees in
          subst (Agrees c.keep_due.new.self) (sym (it.same clean))
          (c.keep_due.ensures rows (c.args.self.now.remembered (it.was_clean clean))
          (subst (AreDue rows c.args.moment)
          (sym (c.deref-in-Ok-whole_entries.ensures.value ∙ c.in-Ok-whole_entries.ensures.entries
          ∙ ap (λ (rs : List Row). map whole_entry rs) c.deref.ensures.value)) (it.rows clean)));
    }

pub returns-in-Ok-whole_entries-clause-entries : goal.returns-in-Ok-whole_entries-clause-entries
returns-in-Ok-whole_entries-clause-entries g c clean =
    let it = c.in-Ok.ensures.reads c.args.self.now.sound (c.args.self.now.active c.if-not-self.false) in
    subst (AreDue (rows_of (state g.S.Store c.args.self.now.conn).now.trees) c.args.moment)
    (sym (c.in-Ok-whole_entries.ensures.entries ∙ ap (λ (rs : List Row). map whole_entry rs) c.deref.ensures.value))
    (it.rows clean)

pub returns-in-Ok-whole_entries-clause-same : goal.returns-in-Ok-whole_entries-clause-same
returns-in-Ok-whole_entries-clause-same g c =
    (c.in-Ok.ensures.reads c.args.self.now.sound (c.args.self.now.active c.if-not-self.false)).same

pub returns-in-Ok-whole_entries-clause-stays : goal.returns-in-Ok-whole_entries-clause-stays
returns-in-Ok-whole_entries-clause-stays g c =
    (c.in-Ok.ensures.reads c.args.self.now.sound (c.args.self.now.active c.if-not-self.false)).stays

pub invariant_of-self-in-Err-Memory : goal.invariant_of-self-in-Err-Memory
invariant_of-self-in-Err-Memory g c =
    let it = c.in-Ok.ensures.reads c.args.self.now.sound (c.args.self.now.active c.if-not-self.false) in
    record {
      sound = it.stays.sound c.args.self.now.sound;
      active = λ _. it.active;
      remembered = it.agrees _ c.args.self.now.remembered;
    }

pub returns-in-Err-Memory-clause-stays : goal.returns-in-Err-Memory-clause-stays
returns-in-Err-Memory-clause-stays g c =
    (c.in-Ok.ensures.reads c.args.self.now.sound (c.args.self.now.active c.if-not-self.false)).stays

pub invariant_of-self-in-Err-whole_entries : goal.invariant_of-self-in-Err-whole_entries
invariant_of-self-in-Err-whole_entries g c =
    let it = c.in-Ok.ensures.reads c.args.self.now.sound (c.args.self.now.active c.if-not-self.false) in
    record {
      sound = it.stays.sound c.args.self.now.sound;
      active = λ t. absurd (both_modes _ t c.lost-in-Err-whole_entries.ensures.inactive);
      remembered = λ _. c.lost-in-Err-whole_entries.ensures.forgets _;
    }

pub returns-clause-stays : goal.returns-clause-stays
returns-clause-stays g c =
    (c.in-Ok.ensures.reads c.args.self.now.sound (c.args.self.now.active c.if-not-self.false)).stays

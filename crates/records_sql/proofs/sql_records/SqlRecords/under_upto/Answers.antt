use Rattle.records.specs.Words.{map, filter, nat_eq, List, ap, ◌∙◌, starts_with, RowKey as Key}
use Rattle.sqlite.specs.Order.{Row}
use Rattle.records_sql.specs.Words.{Row as Fields, entry_in}
use Rattle.records_sql.proofs.EndLemmas.{both_modes}
use Rattle.records_sql.proofs.sql_records.SqlRecords.under_upto.Goals as goal

pub invariant_of-self-in-Err : goal.invariant_of-self-in-Err
invariant_of-self-in-Err g c = record {
  sound = c.in-Err.ensures.stays.sound c.args.self.now.sound;
  active = λ t. absurd (both_modes _ t c.lost.ensures.inactive);
  remembered = λ _. c.lost.ensures.forgets _;
}

pub invariant_of-self-in-Ok-entries_under : goal.invariant_of-self-in-Ok-entries_under
invariant_of-self-in-Ok-entries_under g c =
    let it = c.in-Ok.ensures.reads c.args.self.now.sound (c.args.self.now.active c.if-not-self.false) in
    record {
      sound = it.stays.sound c.args.self.now.sound;
      active = λ _. it.active;
      remembered = it.agrees _ c.args.self.now.remembered;
    }

pub returns-in-Ok-entries_under-clause-entries : goal.returns-in-Ok-entries_under-clause-entries
returns-in-Ok-entries_under-clause-entries g c clean =
    let it = c.in-Ok.ensures.reads c.args.self.now.sound (c.args.self.now.active c.if-not-self.false) in
    c.in-Ok-entries_under.ensures.entries
    ∙ ap (λ (rs : List Row). filter (λ (e : Key × Fields). starts_with nat_eq e.0.1 c.args.prefix.now)
    (map (entry_in c.args.kind) rs)) c.deref.ensures.value ∙ it.rows clean

pub returns-in-Ok-entries_under-clause-same : goal.returns-in-Ok-entries_under-clause-same
returns-in-Ok-entries_under-clause-same g c =
    (c.in-Ok.ensures.reads c.args.self.now.sound (c.args.self.now.active c.if-not-self.false)).same

pub returns-in-Ok-entries_under-clause-stays : goal.returns-in-Ok-entries_under-clause-stays
returns-in-Ok-entries_under-clause-stays g c =
    (c.in-Ok.ensures.reads c.args.self.now.sound (c.args.self.now.active c.if-not-self.false)).stays

pub invariant_of-self-in-Err-Memory : goal.invariant_of-self-in-Err-Memory
invariant_of-self-in-Err-Memory g c =
    let it = c.in-Ok.ensures.reads c.args.self.now.sound (c.args.self.now.active c.if-not-self.false) in
    record {
      sound = it.stays.sound c.args.self.now.sound;
      active = λ _. it.active;
      remembered = it.agrees _ c.args.self.now.remembered;
    }

pub returns-in-Err-Memory-clause-stays : goal.returns-in-Err-Memory-clause-stays
returns-in-Err-Memory-clause-stays g c =
    (c.in-Ok.ensures.reads c.args.self.now.sound (c.args.self.now.active c.if-not-self.false)).stays

pub invariant_of-self-in-Err-entries_under : goal.invariant_of-self-in-Err-entries_under
invariant_of-self-in-Err-entries_under g c =
    let it = c.in-Ok.ensures.reads c.args.self.now.sound (c.args.self.now.active c.if-not-self.false) in
    record {
      sound = it.stays.sound c.args.self.now.sound;
      active = λ t. absurd (both_modes _ t c.lost-in-Err-entries_under.ensures.inactive);
      remembered = λ _. c.lost-in-Err-entries_under.ensures.forgets _;
    }

pub returns-clause-stays : goal.returns-clause-stays
returns-clause-stays g c =
    (c.in-Ok.ensures.reads c.args.self.now.sound (c.args.self.now.active c.if-not-self.false)).stays

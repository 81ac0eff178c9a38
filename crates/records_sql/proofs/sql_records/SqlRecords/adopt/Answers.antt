use Rattle.records.specs.Words.{refl}
use Rattle.sqlite.specs.Held.{state}
use Rattle.records_sql.proofs.StateLemmas.{usable_clean, clean_usable}
use Rattle.records_sql.proofs.sql_records.SqlRecords.adopt.Goals as goal

pub invariant_of-result : goal.invariant_of-result
invariant_of-result g c = record {
  sound = λ usable.
      let clean = (usable_clean (state g.S.Store c.find_table.new.conn) usable).0 in
      let it = c.in_ok-numbers.ensures.found clean (c.if-not-is_autocommit.ensures.settled refl) in
      (it.now, it.committed);
  active = λ t. absurd (let e = t in cc);
  remembered = λ _. c.new.ensures.agrees _;
}

pub returns-clause-found : goal.returns-clause-found
returns-clause-found g c clean =
    (c.in_ok-numbers.ensures.found clean (c.if-not-is_autocommit.ensures.settled refl)).has

pub returns-clause-usable : goal.returns-clause-usable
returns-clause-usable g c clean =
    clean_usable (state g.S.Store c.find_table.new.conn) clean
    (c.in_ok-numbers.ensures.found clean (c.if-not-is_autocommit.ensures.settled refl)).is_open

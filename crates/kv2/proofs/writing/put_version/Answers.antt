use Rattle.records.specs.Words.{ap, ◌∙◌, on_ok_weaker, honest_before, goes_further, KeyEntry, version_row, IsHonest}
use Rattle.kv2.specs.Words.{new_version}
use Rattle.kv2.proofs.PutCalls.{put_by_calls}
use Rattle.kv2.proofs.writing.put_version.Goals as goal

pub returns-clause-rows : goal.returns-clause-rows
returns-clause-rows g c honest =
    let seen = g.T.RecordsTx.seen in
    let second : IsHonest (seen c.put-2.new.self) = honest_before _ _ _ c.prune.ensures.call.goes_on honest in
    let first : IsHonest (seen c.put.new.self) = honest_before _ _ _ c.put-2.ensures.call.goes_on second in
    on_ok_weaker c.prune.result
    (put_by_calls (seen c.args.tx.now).rows (seen c.put.new.self).rows (seen c.put-2.new.self).rows _ c.args.name.now
    c.as_str.result.now c.args.object.now c.args.key.now c.args.limit _ c.in_ok-version_row.version_row
    c.in_ok-key_row.key_row (c.in_ok-put.ensures.rows first) (c.in_ok-put-2.ensures.rows second)
    (ap (λ (e : KeyEntry). e.current) c.key.view_is) (c.as_str.ensures.value ∙ c.in_ok-place.ensures)
    (c.in_ok-version_row.ensures
    ∙ ap (λ (e : KeyEntry). version_row (new_version e.updated c.args.object.now)) c.key.view_is)
    c.in_ok-key_row.ensures)
    (c.prune.ensures.rows honest)

pub returns-clause-call : goal.returns-clause-call
returns-clause-call g c = record {
  faults = c.prune.ensures.call.faults;
  goes_on = goes_further _ _ _ _
      (goes_further _ _ _ _ c.in_ok-put.ensures.call.goes_on c.in_ok-put-2.ensures.call.goes_on)
      c.prune.ensures.call.goes_on;
}

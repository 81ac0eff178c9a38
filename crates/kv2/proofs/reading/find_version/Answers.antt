use Rattle.records.specs.Words.{ap, sym, subst, ◌∙◌, is_ok, Some, false≢true, IsVersionInRange, version_row}
use Rattle.records.specs.Words.{version_key, table_of}
use Rattle.records.specs.declared.kind.Kind.TheVariants as kind
use Rattle.kv2.specs.Words.{HasVersion}
use Rattle.kv2.proofs.Found.{some_is, some_read}
use Rattle.kv2.proofs.reading.find_version.Goals as goal

pub returns-clause-exact : goal.returns-clause-exact
returns-clause-exact g c honest =
    let old = table_of (g.T.RecordsTx.seen c.args.tx.now).rows in
    let name = c.args.name.now in
    let number = c.args.number in
    let at = ap (old kind.KvVersion) (sym (c.as_str.ensures.value ∙ c.in_ok-key.ensures))
    ∙ sym (c.in_ok-kept.ensures.found honest) ∙ c.in-Some.is in
    let read = c.in_ok-found.ensures.exact in
    subst (λ v. HasVersion old name number (Some v)) (sym c.in_ok-version.ensures)
    (some_read IsVersionInRange version_row (old kind.KvVersion (version_key name number)) c.in-Some.kept
    c.in_ok-found.found at read.0 read.1)

pub returns-in_err-found-clause-faults : goal.returns-in_err-found-clause-faults
returns-in_err-found-clause-faults g c honest v has =
    let old = table_of (g.T.RecordsTx.seen c.args.tx.now).rows in
    let at = ap (old kind.KvVersion) (sym (c.as_str.ensures.value ∙ c.in_ok-key.ensures))
    ∙ sym (c.in_ok-kept.ensures.found honest) ∙ c.in-Some.is in
    let x = some_is IsVersionInRange version_row (old kind.KvVersion (version_key c.args.name.now c.args.number))
    c.in-Some.kept at v has in
    absurd (false≢true (ap is_ok (c.in_err-found.ensures.again x.0 x.2 x.3)))

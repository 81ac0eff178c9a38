use Rattle.records.specs.Words.{sym, ◌∙◌}
use Rattle.kv2.proofs.EntryLists.{destroyed_is}
use Rattle.kv2.proofs.describing.version_in.Goals as goal

pub returns-clause-exact : goal.returns-clause-exact
returns-clause-exact c =
    let number = c.in_ok-number.ensures.exact in
    let version = c.in_ok-version.ensures.exact in
    let is = c.version.view_is in
    let gone = destroyed_is (λ s. s.now) c.version.inside.secret c.in_ok-version.version.secret c.is_none.result
    c.is_none.ensures (λ i. (is i).secret) in (
      (c.in_ok-number.number, c.in_ok-version.version),
      record { number = number.0; in_range = version.0 },
      record {
        key = (λ i. (sym c.entry.view_is i).0.1) ∙ sym c.as_str.ensures ∙ number.1;
        row = (λ i. (sym c.entry.view_is i).1) ∙ version.1;
      },
      (λ i. record {
        number = c.in_ok-number.number;
        created = (is i).created;
        deleted = (is i).deleted;
        destroyed = gone i;
      }),
    )

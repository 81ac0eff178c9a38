use Rattle.records.specs.Words.{ap, sym, ◌∙◌, List, map, RowKey}
use Rattle.policies.specs.Words.{Row, all_names}
use Rattle.policies.proofs.PoliciesListed.{rows_named, listed_is}
use Rattle.policies.proofs.listing.list.Goals as goal

pub returns-clause-told : goal.returns-clause-told
returns-clause-told g c honest policies are =
    let rows = (g.T.RecordsTx.seen c.args.tx.now).rows in
    c.in_ok-names_of.ensures
    ∙ ap (λ (es : List (RowKey × Row)). all_names (map (λ (e : RowKey × Row). e.0.1) es))
    (c.deref.ensures.value ∙ c.in_ok-rows.ensures.entries honest)
    ∙ ap all_names (rows_named rows policies are) ∙ sym (listed_is policies)

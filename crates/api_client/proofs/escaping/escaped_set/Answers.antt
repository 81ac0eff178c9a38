use Rattle.api_client.specs.Words.{NON_ALPHANUMERIC, contains}
use Rattle.api_client.proofs.EscapingLemmas.{without, escaped_at}
use Rattle.api_client.proofs.escaping.escaped_set.Goals as goal

pub returns : goal.returns
returns c =
    λ b small.
    let e1 = without (contains NON_ALPHANUMERIC)
    (contains c.remove.result) 45 c.remove.ensures.removed c.remove.ensures.others b small in
    let e2 = without (contains c.remove.result)
    (contains c.remove-2.result) 46 c.remove-2.ensures.removed c.remove-2.ensures.others b small in
    let e3 = without (contains c.remove-2.result)
    (contains c.remove-3.result) 95 c.remove-3.ensures.removed c.remove-3.ensures.others b small in
    let e4 = without (contains c.remove-3.result)
    (contains c.remove-4.result) 126 c.remove-4.ensures.removed c.remove-4.ensures.others b small in
    let e5 = without (contains c.remove-4.result)
    (contains c.remove-5.result) 47 c.remove-5.ensures.removed c.remove-5.ensures.others b small in
    rw (e5, e4, e3, e2, e1) (escaped_at b small)

use Rattle.histories.proofs.Refused.{refused_change_nothing, wrap_needs_ttl}
use Rattle.histories.proofs.laws.refused_requests_change_nothing.Goals as goal

pub returns-clause-nothing : goal.returns-clause-nothing
returns-clause-nothing c = refused_change_nothing c.operations_do_as_told.ensures

pub returns-clause-wraps : goal.returns-clause-wraps
returns-clause-wraps c = wrap_needs_ttl

use Rattle.broker_types.specs.Words.{ℕ, List, Vec, Global, sym, subst, IfOk-weaker}
use Rattle.api_client.specs.Asking.{Asks}
use Rattle.api_client.proofs.requesting.request_of.Goals as goal

pub returns-clause-asks : goal.returns-clause-asks
returns-clause-asks c =
    IfOk-weaker c.bytes_of.result _ _
    (λ (v : Vec ℕ Global) is. subst (λ (bytes : List ℕ). Asks bytes c.args.command.now)
    (sym is) c.is_read_as_meant.ensures) c.bytes_of.ensures.ok

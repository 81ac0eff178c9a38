use Rattle.std.proofs.Common.{◌≡◌, ◌∷◌, ◌||◌, refl, ap, ◌∙◌, List, [], Bool, rules, tests}
use Rattle.records.specs.Words.{list_any, YieldsList-from_slice, any_from_yields_List}
use Rattle.mounts.specs.Words.{RouteRow, shown, rows_in, asks_sudo, row_asks_sudo, cut, fixed_rows}
use Rattle.mounts.specs.declared.table.RouteRow as code
use Rattle.mounts.proofs.routing.asks_sudo.Goals as goal

-- some row, as the code has it
any_shown : (test : RouteRow → Bool) (rows : List code.RouteRow)
    → list_any (λ r. test (shown r)) rows ≡ list_any test (rows_in rows)
any_shown test [] = refl
any_shown test (r ∷ rows) = ap (λ v. test (shown r) || v) (any_shown test rows)

pub returns : goal.returns
unfolding asks_sudo
returns c =
    let rest = c.cut.result.1.now in
    let rows = c.fixed_rows.result.now in
    any_from_yields_List (λ (r : code.RouteRow). row_asks_sudo rest (shown r)) _ _ c.any.result c.any.ensures.ran
    (YieldsList-from_slice rows cc) (λ x b q k. search (rules, tests))
    ∙ any_shown (row_asks_sudo rest) rows
    ∙ (λ i. list_any (row_asks_sudo (c.cut.ensures.rest i)) (c.fixed_rows.ensures i))
    ∙ ap (λ name. list_any (row_asks_sudo (cut c.args.path.now).1) (fixed_rows name)) c.cut.ensures.name

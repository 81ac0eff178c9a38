use Rattle.histories.proofs.Routes.{opened_are_routes, rewraps, unwraps, changes_no_token, means_its_own}
use Rattle.histories.proofs.Routes.{these_are_open}
use Rattle.histories.proofs.laws.open_requests_mean_their_own.Goals as goal

pub returns-clause-means : goal.returns-clause-means
returns-clause-means c mounts a command open_ means =
    let found = c.patterns_are_found_by_form.ensures.found in
    let none = c.patterns_are_found_by_form.ensures.none in
    let ordered = c.tables_are_in_order.ensures in
    means_its_own c.wrapping_commands_are_proper.ensures.own (opened_are_routes found none ordered) mounts a command
    means open_

pub returns-clause-leaves : goal.returns-clause-leaves
returns-clause-leaves c = changes_no_token c.operations_do_as_told.ensures

pub returns-clause-these : goal.returns-clause-these
returns-clause-these c =
    let found = c.patterns_are_found_by_form.ensures.found in
    let none = c.patterns_are_found_by_form.ensures.none in
    let ordered = c.tables_are_in_order.ensures in
    these_are_open (rewraps found none ordered) (unwraps found none ordered)

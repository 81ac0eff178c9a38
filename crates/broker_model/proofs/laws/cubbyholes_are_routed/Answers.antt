use Rattle.broker_model.specs.Words.{refl, same}
use Rattle.broker_types.specs.declared.ask.Verb.TheVariants as verb
use Rattle.mounts.specs.declared.operation.CubbyholeOperation.TheVariants as operations
use Rattle.broker_model.proofs.CubbyholeRoutes.{means_there, lists_whole, lists_alone, always_there}
use Rattle.broker_model.proofs.laws.cubbyholes_are_routed.Goals as goal

pub returns-clause-read : goal.returns-clause-read
unfolding same
returns-clause-read c =
    let by = c.patterns_are_found_by_form.ensures in
    means_there by.found by.none c.tables_are_in_order.ensures verb.Get operations.Read refl

pub returns-clause-list : goal.returns-clause-list
unfolding same
returns-clause-list c =
    let by = c.patterns_are_found_by_form.ensures in
    means_there by.found by.none c.tables_are_in_order.ensures verb.List operations.List refl

pub returns-clause-write : goal.returns-clause-write
unfolding same
returns-clause-write c =
    let by = c.patterns_are_found_by_form.ensures in
    means_there by.found by.none c.tables_are_in_order.ensures verb.Write operations.Write refl

pub returns-clause-delete : goal.returns-clause-delete
unfolding same
returns-clause-delete c =
    let by = c.patterns_are_found_by_form.ensures in
    means_there by.found by.none c.tables_are_in_order.ensures verb.Delete operations.Delete refl

pub returns-clause-list_whole : goal.returns-clause-list_whole
returns-clause-list_whole c =
    let by = c.patterns_are_found_by_form.ensures in
    lists_whole by.found by.none c.tables_are_in_order.ensures

pub returns-clause-list_alone : goal.returns-clause-list_alone
returns-clause-list_alone c =
    let by = c.patterns_are_found_by_form.ensures in
    lists_alone by.found by.none c.tables_are_in_order.ensures

pub returns-clause-known : goal.returns-clause-known
returns-clause-known c rows o path = always_there rows o path

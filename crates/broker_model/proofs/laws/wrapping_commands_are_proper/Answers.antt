use Rattle.broker_model.proofs.WrappingProper.{acts, leave, moves, takes_out, wraps_alone, looks_up, own_meant}
use Rattle.broker_model.proofs.laws.wrapping_commands_are_proper.Goals as goal

pub returns-clause-proper : goal.returns-clause-proper
returns-clause-proper c = acts

pub returns-clause-sound : goal.returns-clause-sound
returns-clause-sound c forms who b names command d sound good new e = leave forms who b sound names command d good new e

pub returns-clause-moved : goal.returns-clause-moved
returns-clause-moved c = moves

pub returns-clause-taken_out : goal.returns-clause-taken_out
returns-clause-taken_out c = takes_out

pub returns-clause-wrapped : goal.returns-clause-wrapped
returns-clause-wrapped c = wraps_alone

pub returns-clause-shown : goal.returns-clause-shown
returns-clause-shown c = looks_up

pub returns-clause-own : goal.returns-clause-own
returns-clause-own c = own_meant

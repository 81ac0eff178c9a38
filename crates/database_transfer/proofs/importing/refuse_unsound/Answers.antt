use Rattle.broker_types.specs.OptionLaws.{of_none}
use Rattle.database_transfer.proofs.importing.refuse_unsound.Goals as goal

pub returns-in-None-clause-sound : goal.returns-in-None-clause-sound
returns-in-None-clause-sound g c honest =
    (c.new.ensures.items, of_none c.in_ok-check.field-0 c.in-None.is (c.in_ok-check.ensures.sound honest))

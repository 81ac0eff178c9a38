-- What `clap` finds in the words of a command line.
use Rattle.std.specs.Prelude.{List, Option}
use Rattle.broker_types.specs.Words.{Text}
use Rattle.clap.specs.Words.{Row}

-- for the client, and for its command, with the name
abbrev pub Found : Type 0
Found = List Row × Option (Text × List Row)

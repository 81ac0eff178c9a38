-- What a line of the log shows (this project's definition).
use Rattle.records.specs.Words.{Text}
use Rattle.server.specs.declared.hiding.Line.{Line}

-- its bytes
abbrev pub bytes_of : Line → Text
bytes_of line = line.bytes.items

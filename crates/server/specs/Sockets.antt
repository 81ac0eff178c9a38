-- What sockets as the ends of connections show (this project's definition).
use Rattle.std.specs.Prelude.{Bool}
use Rattle.server.specs.declared.sockets.SocketReader.{SocketReader}
use Rattle.server.specs.declared.sockets.SocketWriter.{SocketWriter}

-- whether a read failed
abbrev pub read_failed : SocketReader → Bool
read_failed reader = reader.has_failed

-- whether a write failed
abbrev pub write_failed : SocketWriter → Bool
write_failed writer = writer.has_failed

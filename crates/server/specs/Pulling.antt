-- What a source that counts shows (this project's definition).
use Rattle.server.specs.declared.pulling.Pulling.{Pulling}

-- the source below
abbrev pub source_of : {R : Type 0} → Pulling R → R
source_of pulling = pulling.source

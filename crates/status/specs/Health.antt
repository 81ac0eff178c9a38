-- What `/health` shows: the members that Vault's documentation has ("/sys/health"), of which those that say what a
-- broker like this cannot be are always the same, and this project's own.
use Rattle.std.specs.Prelude.{◌-◌, ◌∷◌, ℕ, List, [], codes, true, false}
use Rattle.status.specs.declared.figures.Figures.{Figures}
use Rattle.status.specs.declared.figures.State.{State}
use Rattle.status.specs.declared.figures.State.TheVariants.{Opening, Serving, Stopping}
use Rattle.status.specs.declared.figures.Storage.{Storage}
use Rattle.status.specs.declared.figures.Storage.TheVariants.{Memory, File}
use Rattle.status.specs.declared.member.Member.TheVariants as member
use Rattle.status.specs.Members.{◌⟼◌}
use Rattle.status.specs.Objects.{bool_text, number_or_null, object_line, quoted, time, whole_number}
use Rattle.status.specs.Samples.{Text}

abbrev pub state_text : State → Text
state_text Opening = codes "opening"
state_text Serving = codes "serving"
state_text Stopping = codes "stopping"

abbrev pub storage_text : Storage → Text
storage_text Memory = codes "memory"
storage_text File = codes "file"

-- how many seconds there are between the start and the moment
abbrev pub uptime : Figures → ℕ
uptime f = f.now - f.started

-- the members whose names come after those of the following definition
unfoldable pub later_members : Figures → List (Text × Text)
later_members f =
    member.Sealed ⟼ bool_text false
    ∷ member.ServerTimeUtc ⟼ whole_number f.now
    ∷ member.Since ⟼ time f.started
    ∷ member.Standby ⟼ bool_text false
    ∷ member.State ⟼ quoted (state_text f.state)
    ∷ member.Store ⟼ quoted (storage_text f.storage)
    ∷ member.Uptime ⟼ whole_number (uptime f)
    ∷ member.Version ⟼ quoted f.version.now
    ∷ []

-- the members, in the order of the bytes of their names
unfoldable pub health_text : Figures → Text
health_text f =
    object_line (
    member.ClusterId ⟼ quoted (codes "00000000-0000-0000-0000-000000000000")
    ∷ member.ClusterName ⟼ quoted (codes "dehluvima")
    ∷ member.Connections ⟼ whole_number f.connections
    ∷ member.Initialized ⟼ bool_text true
    ∷ member.LastFault ⟼ number_or_null f.last_fault
    ∷ member.PerformanceStandby ⟼ bool_text false
    ∷ member.ReplicationDrMode ⟼ quoted (codes "disabled")
    ∷ member.ReplicationPerformanceMode ⟼ quoted (codes "disabled")
    ∷ later_members f)

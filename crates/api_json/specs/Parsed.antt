-- What contracts see of values that were read (this project's definition).
use Rattle.serde_json.specs.Data.{Data, Members}
use Rattle.serde_json.specs.View.{view, members_view}
use Rattle.api_json.specs.declared.parsed.Tree.{Tree}
use Rattle.api_json.specs.declared.parsed.Body.{Body}

-- the value of a tree
abbrev pub data_of : Tree → Data
data_of t = view t.value

-- the members of a body
abbrev pub members_of : Body → Members
members_of b = members_view b.members.entries

-- What lines call the rows of a kind (this project's export format).
use Rattle.std.specs.Prelude.{if◌then◌else◌, codes, Option, Some, None}
use Rattle.broker_types.specs.Words.{Text, same}
use Rattle.records.specs.declared.kind.Kind.{Kind}
use Rattle.records.specs.declared.kind.Kind.TheVariants as kind

-- the word of a kind
abbrev pub kind_word : Kind → Text
kind_word kind.Clock = codes "clock"
kind_word kind.Used = codes "identifier"
kind_word kind.Token = codes "token"
kind_word kind.Accessor = codes "accessor"
kind_word kind.Cubby = codes "object"
kind_word kind.Lease = codes "lease"
kind_word kind.Credential = codes "credential"
kind_word kind.KvKey = codes "secret"
kind_word kind.KvVersion = codes "version"
kind_word kind.Waiting = codes "response"
kind_word kind.Mount = codes "mount"
kind_word kind.Policy = codes "policy"
kind_word kind.Role = codes "role"

-- the kind of these words
abbrev pub later_kind_of : Text → Option Kind
later_kind_of t =
    if same t (codes "secret") then Some kind.KvKey
    else if same t (codes "version") then Some kind.KvVersion
    else if same t (codes "response") then Some kind.Waiting
    else if same t (codes "mount") then Some kind.Mount
    else if same t (codes "policy") then Some kind.Policy
    else if same t (codes "role") then Some kind.Role
    else None

-- the kind of a word
abbrev pub kind_of : Text → Option Kind
kind_of t =
    if same t (codes "clock") then Some kind.Clock
    else if same t (codes "identifier") then Some kind.Used
    else if same t (codes "token") then Some kind.Token
    else if same t (codes "accessor") then Some kind.Accessor
    else if same t (codes "object") then Some kind.Cubby
    else if same t (codes "lease") then Some kind.Lease
    else if same t (codes "credential") then Some kind.Credential
    else later_kind_of t

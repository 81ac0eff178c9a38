-- What permission, look-ups and lists are to be by the documentation, in its words, as statements (Vault's
-- documentation, "Policies", root policy, capabilities, root-protected API endpoints; "Token auth method (API)", look
-- up by accessor; "KV secrets engine - version 2 (API)" and "Cubbyhole secrets engine (API)", list secrets).
use Rattle.std.specs.Prelude.{◌≡◌, ◌⊎◌, ◌++◌, ◌∷◌}
use Rattle.broker_model.specs.Words.{lookup, empty, Done, is_ascending, key_at, Route, route_of, Cubbyholes, Secrets}
use Rattle.broker_model.specs.Words.{pattern_of, word_named, Capability, Word, Deny, Grant, Patch, Exact, Prefix}
use Rattle.broker_model.specs.Words.{find_accessor, permits, act_on_tokens, CubbyholeOperation}
use Rattle.histories.specs.Common.{ℕ, List, [], Contains, true, codes, Some, None, Ok, Text, same, Map, get, Broker}
use Rattle.histories.specs.Common.{Names, Token, Verb, children, has, lacks, slash, object_at, asks_sudo, grants}
use Rattle.histories.specs.Common.{asked, SecretOperation, TokenCommand}

-- ---- root

-- Where there are no policies, who may do anything has the policy `root`; and who has it, may do everything, whatever
-- the policies are.
pub record RootAlone : Type 0 where
  pub only : (names : List Text) (v : Verb) (path : Text) (c : Capability) → grants empty names v path c ≡ true
      → Contains names (codes "root")
  pub everything : (policies : Map Text) (names : List Text) (v : Verb) (path : Text) (c : Capability)
      → Contains names (codes "root") → grants policies names v path c ≡ true

-- ---- capabilities

-- The path leads to a write of an object of a cubbyhole that is not there, by the caller c, or of a secret that is not.
abbrev pub MakesAnew : Broker → Text → Text → Type 0
MakesAnew b c path =
    ((r : Route) × (route_of b.mounts Verb.Write path ≡ Ok r) × (r.operation ≡ Cubbyholes CubbyholeOperation.Write)
    × (object_at b c r.parameter ≡ None))
    ⊎ ((r : Route) × (route_of b.mounts Verb.Write path ≡ Ok r) × (r.operation ≡ Secrets SecretOperation.Write)
    × (key_at b r.mount r.parameter ≡ None))

-- What a caller asks for: GET for `read`, LIST for `list`, DELETE for `delete`; POST and PUT for `create` exactly where
-- they make anew an object of a cubbyhole or a secret, and else for `update`.
pub record AsksByVerb (b : Broker) (c path : Text) : Type 0 where
  pub get : asked b c Verb.Get path ≡ Capability.Read
  pub list : asked b c Verb.List path ≡ Capability.List
  pub delete : asked b c Verb.Delete path ≡ Capability.Delete
  pub write : (asked b c Verb.Write path ≡ Capability.Update) ⊎ (asked b c Verb.Write path ≡ Capability.Create)
  pub anew : asked b c Verb.Write path ≡ Capability.Create → MakesAnew b c path
  pub create : MakesAnew b c path → asked b c Verb.Write path ≡ Capability.Create

-- ---- sudo

-- The root-protected paths, and no other: the list of accessors, the revocation of a token alone, and that of the
-- leases under a prefix.
pub record SudoAlone : Type 0 where
  pub only : (path : Text) → asks_sudo path ≡ true
      → (path ≡ codes "auth/token/accessors") ⊎ ((path ≡ codes "auth/token/revoke-orphan")
      ⊎ ((b : ℕ) × (rest : Text) × (path ≡ codes "sys/leases/revoke-prefix/" ++ b ∷ rest)))
  pub accessors : asks_sudo (codes "auth/token/accessors") ≡ true
  pub revoke_orphan : asks_sudo (codes "auth/token/revoke-orphan") ≡ true
  pub revoke_prefix : (b : ℕ) (rest : Text) → asks_sudo (codes "sys/leases/revoke-prefix/" ++ b ∷ rest) ≡ true

-- and where `sudo` is asked for, a caller needs it beside the capability of its verb
abbrev pub SudoIsNeeded : Type 0
SudoIsNeeded =
    (b : Broker) (c : Text) (v : Verb) (path : Text) → permits b (Some c) v path ≡ true → asks_sudo path ≡ true
    → (x : Token) × (get b.tokens c ≡ Some x) × (grants b.policies x.policies v path Capability.Sudo ≡ true)

-- ---- words and patterns

-- what the texts in a policy's list of capabilities mean
abbrev pub capability_words : List (Text × Word)
capability_words =
    (codes "deny", Deny) ∷ (codes "patch", Patch)
    ∷ (codes "create", Grant Capability.Create) ∷ (codes "read", Grant Capability.Read)
    ∷ (codes "update", Grant Capability.Update) ∷ (codes "delete", Grant Capability.Delete)
    ∷ (codes "list", Grant Capability.List) ∷ (codes "sudo", Grant Capability.Sudo) ∷ []

-- These texts mean these words, and no other text is one. A path that ends in `*` is a prefix, and any other is itself.
pub record PoliciesAreRead : Type 0 where
  pub words : (s : Text) → word_named s ≡ lookup (same s) capability_words
  pub prefix : (s : Text) → pattern_of (s ++ codes "*") ≡ Prefix s
  pub exact : (s t : Text) → pattern_of s ≡ Exact t → t ≡ s

-- ---- look-ups by accessor

-- What is answered to a look-up by accessor does not depend on the text of the token: at two brokers with the same
-- clock at which the accessor is that of the same token, under whatever texts, it is the same.
abbrev pub AccessorsHideTokens : Type 0
AccessorsHideTokens =
    (b d : Broker) (caller other : Text) (names : Names) (accessor t u : Text) (x : Token) (done next : Done)
    → b.clock ≡ d.clock → find_accessor b accessor ≡ Some t → find_accessor d accessor ≡ Some u
    → get b.tokens t ≡ Some x → get d.tokens u ≡ Some x
    → act_on_tokens b caller names (TokenCommand.LookUpAccessor accessor) ≡ Ok done
    → act_on_tokens d other names (TokenCommand.LookUpAccessor accessor) ≡ Ok next → done.answered ≡ next.answered

-- ---- lists

-- The name is the path, which has no slash; or it is what is before the first slash of the path, with that slash.
abbrev pub IsFirstPart : Text → Text → Type 0
IsFirstPart path name =
    ((lacks slash path ≡ true) × (name ≡ path))
    ⊎ ((segment : Text) × (more : Text) × (lacks slash segment ≡ true) × (path ≡ segment ++ slash ∷ more)
    × (name ≡ segment ++ slash ∷ []))

-- The names are the first parts of what follows the prefix, in the paths that begin with it: each once, in the order of
-- their bytes.
pub record ListsFolder (prefix : Text) (paths names : List Text) : Type 0 where
  pub once : is_ascending names ≡ true
  pub only : (name : Text) → has names name ≡ true
      → (path : Text) × (has paths (prefix ++ path) ≡ true) × IsFirstPart path name
  pub all : (path name : Text) → has paths (prefix ++ path) ≡ true → IsFirstPart path name → has names name ≡ true

pub record AreAsDocumented : Type 0 where
  pub root : RootAlone
  pub capabilities : (b : Broker) (c path : Text) → AsksByVerb b c path
  pub policies : PoliciesAreRead
  pub sudo : SudoAlone
  pub sudo_needed : SudoIsNeeded
  pub accessors : AccessorsHideTokens
  pub folders : (prefix : Text) (paths : List Text) → ListsFolder prefix paths (children prefix paths)

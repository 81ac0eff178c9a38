-- What a command is, beside what it does: which identifiers it needs, whether its reply is wrapped, which rows it may
-- change, and what becomes of tokens (this project's definition).
use Rattle.std.specs.Prelude.{◌∷◌, ℕ, List, [], Bool, true, false, Option, Some, None}
use Rattle.records.specs.Words.{option_map_or, Text, Broker, Names, Part}
use Rattle.records.specs.declared.kind.Kind.{Kind}
use Rattle.token_tree.specs.Tokens as tree
use Rattle.wrapping.specs.Wrapping as wrapping
use Rattle.api_json.specs.declared.token_bodies.TokenCreation.{TokenCreation}
use Rattle.broker_model.specs.declared.commands.Needs.{Needs}
use Rattle.broker_model.specs.declared.commands.Needs.TheVariants as needs
use Rattle.broker_model.specs.declared.making.Making.{Making}

-- ---- identifiers

-- those of a new token and of its accessor
abbrev pub token_names : Names → List Text
token_names names = names.token ∷ names.accessor ∷ []

-- those of a new lease: that which its id ends with, and its credential
abbrev pub lease_names : Names → List Text
lease_names names = names.lease ∷ names.credential ∷ []

-- those of a new wrapping token and of its accessor
abbrev pub wrapping_names : Names → List Text
wrapping_names names = names.wrapping_token ∷ names.wrapping_accessor ∷ []

-- those that are needed
abbrev pub names_needed : Needs → Names → List Text
names_needed needs.Nothing names = []
names_needed needs.Token names = token_names names
names_needed needs.Lease names = lease_names names
names_needed needs.WrappingToken names = wrapping_names names

-- ---- rows

-- whether rows of a kind may change; without a part none may
abbrev pub may_change : Option Part → Kind → Bool
may_change None k = false
may_change (Some part) k = part k

-- ---- tokens

-- the token, or the wrapping token, that a command names: by its text, by its accessor, or as the caller
pub data Named : Type 0 where
  by_text : Text → Named
  by_accessor : Text → Named
  itself : Named

-- the text that the caller c names; an accessor is that of a token, else of a wrapping token
abbrev pub text_named : Broker → Text → Named → Option Text
text_named b c (by_text t) = Some t
text_named b c (by_accessor accessor) =
    option_map_or Some (tree.find_accessor b accessor) (wrapping.find_accessor b accessor)
text_named b c itself = Some c

-- What becomes of tokens: they stay, but for a cubbyhole or leases; one is made; one gets another end; one ends with
-- all under it; or one ends alone, by its text (Vault's documentation, "Tokens").
pub data Fate : Type 0 where
  stay : Fate
  make : Making → TokenCreation → Fate
  renew : Named → ℕ → Fate
  revoke : Named → Fate
  orphan : Text → Fate

-- ---- the traits

pub record Traits : Type 0 where
  -- the operation's own identifiers
  pub own : Names → List Text
  -- whether its reply is wrapped if a wrap TTL asks for it, and whether it must have one
  pub may_wrap : Bool
  pub must_wrap : Bool
  -- the rows that it may change; None for no row at all
  pub changes : Option Part
  -- what becomes of tokens
  pub fate : Fate

-- those of most commands: a look-up that needs no identifier, and whose reply may be wrapped, but need not be
abbrev pub plain : Traits
plain = record { own = λ names. []; may_wrap = true; must_wrap = false; changes = None; fate = stay }

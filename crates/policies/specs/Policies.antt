-- Policies, set, deleted, read and listed (Vault's documentation, "/sys/policies"; the texts of refusals and their
-- order are this project's).
use Rattle.std.specs.Prelude.{◌||◌, if◌then◌else◌, List, [], Bool, not, Option, Some, Result, Ok, codes, ⊤}
use Rattle.records.specs.Words.{Map, get, put, without, keys, is_name, ◌>>=◌, unless, Text, same, Refusal}
use Rattle.broker_types.specs.declared.refusal.Refusal.TheVariants as refusal
use Rattle.broker_types.specs.declared.refusal.Reason.TheVariants as reason
use Rattle.policies.specs.PolicyTexts.{policy_read}

-- the name of the policy that allows everything
abbrev pub root : Text
root = codes "root"

-- the name of the policy that each token has unless it is made without it
abbrev pub default : Text
default = codes "default"

-- whether a name is that of the policy that allows everything
abbrev pub is_root : Text → Bool
is_root name = same name root

-- whether a policy is never deleted
abbrev pub is_fixed : Text → Bool
is_fixed name = is_root name || same name default

-- 400 `policy cannot be changed`
abbrev pub fixed : Refusal
fixed = refusal.BadRequest reason.PolicyFixed

-- a policy may be set unless it is refused, in this order: its name is none, it is `root`, its text is no policy
abbrev pub may_set : Text → Text → Result ⊤ Refusal
may_set name text = do
  named ← unless (is_name name) (refusal.BadRequest reason.InvalidName)
  free ← unless (not (is_root name)) fixed
  rules ← policy_read text
  Ok tt

-- the policies with a text under a name, as it was handed in
abbrev pub set : Map Text → Text → Text → Result (Map Text) Refusal
set policies name text = do
  may ← may_set name text
  Ok (put policies name text)

-- a policy may be deleted unless it is never deleted
abbrev pub may_delete : Text → Result ⊤ Refusal
may_delete name = unless (not (is_fixed name)) fixed

-- the policies without one; nothing changes if it is not there
abbrev pub deleted : Map Text → Text → Result (Map Text) Refusal
deleted policies name = do
  may ← may_delete name
  Ok (without policies name)

-- the text of a policy, as it was handed in; that of `root` is empty
abbrev pub text_of : Map Text → Text → Option Text
text_of policies name = if is_root name then Some [] else get policies name

-- the names of all policies in the order of their bytes; `default` and `root` are always there
abbrev pub listed : Map Text → List Text
listed policies = keys (put (put policies default []) root [])

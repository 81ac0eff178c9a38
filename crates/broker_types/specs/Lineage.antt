-- The tree of tokens: what is above a token, expiry, revocation and orphans (Vault's documentation, "Tokens", token
-- hierarchies and orphan tokens; "Lease, renew, and revoke").
use Rattle.std.specs.Prelude.{◌≡◌, ◌≢◌, ℕ, zero, suc, List, [], ◌∷◌, Bool, true, false, not, nat_lt, if◌then◌else◌}
use Rattle.std.specs.Prelude.{Option, Some, None, option_and_then, is_none}
use Rattle.std.specs.List.{list_any, list_all}
use Rattle.std.specs.Option.{option_map_or}
use Rattle.broker_types.specs.Text.{Text, same}
use Rattle.broker_types.specs.Map.{get, len, keep, without, map_values}
use Rattle.broker_types.specs.Token.{Token, Tokens, Lease}

-- t, its parent, its parent's parent and so on, as far as they are tokens, and at most n of them
abbrev pub climb : ℕ → Tokens → Text → List Text
climb zero ts t = []
climb (suc n) ts t = option_map_or (λ (x : Token). t ∷ option_map_or (climb n ts) x.parent []) (get ts t) []

-- the token and all above it, itself first: at most as many as there are tokens
abbrev pub lineage : Tokens → Text → List Text
lineage ts t = climb (len ts) ts t

-- whether the token t is under a: it is a, or its parent is under a
abbrev pub is_under : Tokens → Text → Text → Bool
is_under ts t a = list_any (same a) (lineage ts t)

-- ---- chains of parents

-- a token's parent is a token
abbrev pub ParentsExist : Tokens → Type 0
ParentsExist ts = (t p : Text) (x : Token) → get ts t ≡ Some x → x.parent ≡ Some p → get ts p ≢ None

-- whether the chain of parents from t ends within n tokens
abbrev pub ends_within : ℕ → Tokens → Text → Bool
ends_within zero ts t = is_none (get ts t)
ends_within (suc n) ts t = option_map_or (λ (x : Token). option_map_or (ends_within n ts) x.parent true) (get ts t) true

-- every chain of parents ends: none comes back to its beginning
abbrev pub ChainsEnd : Tokens → Type 0
ChainsEnd ts = (t : Text) → ends_within (len ts) ts t ≡ true

-- ---- expiry

-- no end, or one that is later than now
abbrev pub outlasts : ℕ → Option ℕ → Bool
outlasts now ends = option_map_or (nat_lt now) ends true

-- whether the token and all above it have no end, or one later than now
abbrev pub is_alive : ℕ → Tokens → Text → Bool
is_alive now ts t = list_all (λ a. outlasts now (option_and_then (λ (x : Token). x.ends) (get ts a))) (lineage ts t)

-- the token, with its leases that end later than now
abbrev pub with_live_leases : ℕ → Token → Token
with_live_leases now x =
    record x { leases = keep (λ id. option_map_or (λ (l : Lease). nat_lt now l.ends) (get x.leases id) false) x.leases }

-- the tokens that are alive, each with its leases that end later
abbrev pub alive_at : ℕ → Tokens → Tokens
alive_at now ts = map_values (λ t. with_live_leases now) (keep (is_alive now ts) ts)

-- ---- revocation

-- the tokens that are not under t
abbrev pub without_descendants : Tokens → Text → Tokens
without_descendants ts t = keep (λ q. not (is_under ts q t)) ts

-- the token, without its parent if that is t
abbrev pub orphaned_by : Text → Token → Token
orphaned_by t x = record x { parent = option_and_then (λ p. if same p t then None else Some p) x.parent }

-- the tokens but t; those whose parent was t have none
abbrev pub without_parent : Tokens → Text → Tokens
without_parent ts t = map_values (λ q. orphaned_by t) (without ts t)

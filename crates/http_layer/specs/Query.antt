-- The query of a target (RFC 3986, section 3.4), and what it asks for.
use Rattle.std.specs.Prelude.{◌==◌, ℕ, Bool, List, [], take, drop, codes, bytes_eq}
use Rattle.broker_types.specs.Words.{list_any, slice_split, before_first, after_first, option_map_or}
use Rattle.std.specs.List.{find}

-- whether the byte is `?`, the first of which ends the path and begins the query
abbrev pub is_query_mark : ℕ → Bool
is_query_mark b = b == 63

-- the target up to its first `?`
abbrev pub target_path : List ℕ → List ℕ
target_path target = before_first is_query_mark target

-- what follows the first `?` of the target; nothing if there is none
abbrev pub target_query : List ℕ → List ℕ
target_query target = after_first is_query_mark target

-- the parts of the query, between its `&`s
abbrev pub query_parts : List ℕ → List (List ℕ)
query_parts query = slice_split (λ b. b == 38) query

-- whether the part makes a GET a LIST (Vault's documentation, "HTTP API", on LIST)
abbrev pub is_list_part : List ℕ → Bool
is_list_part part = bytes_eq part (codes "list=true")

-- whether a part of the query makes a GET a LIST
abbrev pub lists : List ℕ → Bool
lists query = list_any is_list_part (query_parts query)

-- whether the part says which version is asked for (Vault's documentation, "KV secrets engine version 2", read secret
-- version)
abbrev pub is_version_part : List ℕ → Bool
is_version_part part = bytes_eq (take 8 part) (codes "version=")

-- The version asked for, as it is written: what follows `version=` in the first part that begins so. Nothing if there
-- is none.
abbrev pub version_asked : List ℕ → List ℕ
version_asked query = option_map_or (drop 8) (find is_version_part (query_parts query)) []

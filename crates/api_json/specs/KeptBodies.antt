-- What is kept of bodies: objects, as compact texts (RFC 8259, section 4), and the metadata of tokens and of secrets.
use Rattle.std.specs.Prelude.{◌≡◌, ◌<◌, ◌≤◌, ◌^◌, ◌+◌, List, Bool, true, false, length, map, Some, option_and_then, All}
use Rattle.broker_types.specs.Words.{option_map_or, most_custom_metadata, is_ascending, IsCustomPair, Text, same}
use Rattle.serde_json.specs.Data.{object}
use Rattle.serde_json.specs.Read.{read}
use Rattle.serde_json.specs.Written.{compact_text}
use Rattle.api_json.specs.Json.{without_floats, members_in}
use Rattle.api_json.specs.declared.secret_bodies.KeySettings.{KeySettings}
use Rattle.api_json.specs.declared.token_bodies.TokenCreation.{TokenCreation}

-- the compact text of an object without floats: it is read as the object that it is printed from
unfoldable pub is_object : Text → Bool
is_object t =
    option_map_or (λ ms. same (compact_text (object ms)) t)
    (option_and_then members_in (option_and_then without_floats (read t))) false

-- a text that is kept as an object
pub record IsKept (t : Text) : Type 0 where
  pub object : is_object t ≡ true
  pub short : length t < 2 ^ 32

-- names and values of metadata that can be kept: four bytes hold each length, and the names ascend by bytes, each once
pub record IsKeptMeta (es : List (Text × Text)) : Type 0 where
  pub few : length es < 2 ^ 32
  pub short : All (λ e. (length e.0 < 2 ^ 32) × (length e.1 < 2 ^ 32)) es
  pub ascend : is_ascending (map (λ e. e.0) es) ≡ true

-- what a body asks of a new token can be kept, with one policy more
pub record IsKeptCreation (c : TokenCreation) : Type 0 where
  pub few_policies : length c.policies + 1 < 2 ^ 32
  pub meta : IsKeptMeta c.meta

-- custom metadata that can be kept: few, each name and value in its limits, and the names ascend by bytes, each once
pub record IsKeptCustom (es : List (Text × Text)) : Type 0 where
  pub few : length es ≤ most_custom_metadata
  pub each : All (λ e. IsCustomPair e.0 e.1) es
  pub ascend : is_ascending (map (λ e. e.0) es) ≡ true

-- what a body asks of one secret can be kept
pub record IsKeptSettings (asked : KeySettings) : Type 0 where
  pub custom_metadata : (es : List (Text × Text)) → asked.custom_metadata ≡ Some es → IsKeptCustom es

-- The value and the object that bytes are.
use Rattle.std.proofs.Common.{◌≡◌, ◌≤◌, if◌then◌else◌, ℕ, List, Bool, true, false, Option, Some, None, option_and_then}
use Rattle.broker_types.specs.Words.{is_utf8, refl, sym, subst, same_Some, IsUtf8-from_is_utf8}
use Rattle.std.specs.Str.{IsUtf8}
use Rattle.serde_json.specs.Data.{Data, depth}
use Rattle.serde_json.specs.Read.{read, max_depth}
use Rattle.serde_json.proofs.Nesting.{depth-read}
use Rattle.serde_json.specs.Written.{has_float}
use Rattle.api_json.specs.Words.{json_value, tree, without_floats}

pub refused_value : (bytes : List ℕ) → (IsUtf8 bytes → read bytes ≡ None) → None ≡ json_value bytes
refused_value bytes h =
    elim (is_utf8 bytes) as (λ b. is_utf8 bytes ≡ b → None ≡ (if b then read bytes else None)) [
      | true ↦ λ is. sym (h (IsUtf8-from_is_utf8 bytes is))
      | false ↦ λ _. refl
    ] refl

if_utf8 : (b : Bool) (o : Option Data) (d : Data) → option_and_then without_floats (if b then o else None) ≡ Some d
    → (o ≡ Some d) × (has_float d ≡ false)
if_utf8 false o d e = cc
if_utf8 true None d e = cc
if_utf8 true (Some x) d e = by (has_float x) refl e
  where
    by : (v : Bool) → has_float x ≡ v → (if v then None else Some x) ≡ Some d → (Some x ≡ Some d)
        × (has_float d ≡ false)
    by true is f = cc
    by false is f = (f, subst (λ y. has_float y ≡ false) (same_Some _ _ f) is)

-- a value without floats is read, and has none
pub tree_read : (bytes : List ℕ) (d : Data) → tree bytes ≡ Some d → (read bytes ≡ Some d) × (has_float d ≡ false)
tree_read bytes d e = if_utf8 (is_utf8 bytes) (read bytes) d e

-- a value that is read has no more levels than the reader takes
pub value_shallow : (bytes : List ℕ) (d : Data) → json_value bytes ≡ Some d → depth d ≤ max_depth
value_shallow bytes d e = by (is_utf8 bytes) e
  where
    by : (b : Bool) → (if b then read bytes else None) ≡ Some d → depth d ≤ max_depth
    by true is = depth-read bytes d is
    by false is = cc

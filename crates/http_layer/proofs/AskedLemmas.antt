-- What the value of a field asks, and which path bytes are, case by case.
use Rattle.std.specs.Prelude.{◌≡◌, ◌≢◌, ◌∷◌, ◌&&◌, ℕ, Bool, true, false, List, [], drop, Some, Ok, Err, cond, IsUtf8}
use Rattle.broker_types.specs.Words.{ap, ◌∙◌, is_utf8, false_from_ne_true, IsUtf8-from_is_utf8, is_utf8-from_IsUtf8}
use Rattle.broker_types.specs.Words.{All-drop, is_path, without_slash}
use Rattle.percent_encoding.specs.Percent.{percent_sign}
use Rattle.broker_types.specs.declared.refusal.Reason.TheVariants as reason
use Rattle.http_layer.specs.Words.{value_asked, HasNoEscape, path_read, bad_request}

no_text : (v : List ℕ) → (IsUtf8 v → ⊥) → is_utf8 v ≡ false
no_text v bad = false_from_ne_true (is_utf8 v) (λ is. bad (IsUtf8-from_is_utf8 v is))

-- ---- fields

pub value_asked-no_text : (vs : List (List ℕ)) (v : List ℕ) → vs ≡ v ∷ [] → (IsUtf8 v → ⊥)
    → value_asked vs ≡ Err (bad_request reason.MalformedRequest)
value_asked-no_text vs v one bad =
    ap value_asked one ∙ ap (λ (b : Bool). cond b (Ok (Some v)) (Err (bad_request reason.MalformedRequest)))
    (no_text v bad)

pub value_asked-text : (vs : List (List ℕ)) (v : List ℕ) → vs ≡ v ∷ [] → IsUtf8 v → value_asked vs ≡ Ok (Some v)
value_asked-text vs v one text =
    ap value_asked one ∙ ap (λ (b : Bool). cond b (Ok (Some v)) (Err (bad_request reason.MalformedRequest)))
    (is_utf8-from_IsUtf8 v text)

-- ---- the path

pub HasNoEscape-drop : (n : ℕ) (bytes : List ℕ) → HasNoEscape bytes → HasNoEscape (drop n bytes)
HasNoEscape-drop n bytes plain = All-drop (λ b. b ≢ percent_sign) n bytes plain

pub path_read-no_text : (bytes : List ℕ) → (IsUtf8 bytes → ⊥) → path_read bytes ≡ Err (bad_request reason.InvalidPath)
path_read-no_text bytes bad =
    ap (λ (b : Bool). cond (b && is_path (without_slash bytes)) (Ok (without_slash bytes))
    (Err (bad_request reason.InvalidPath))) (no_text bytes bad)

pub path_read-path : (bytes : List ℕ) → IsUtf8 bytes → is_path (without_slash bytes) ≡ true
    → path_read bytes ≡ Ok (without_slash bytes)
path_read-path bytes text good =
    ap (λ (b : Bool). cond (b && is_path (without_slash bytes)) (Ok (without_slash bytes))
    (Err (bad_request reason.InvalidPath))) (is_utf8-from_IsUtf8 bytes text)
    ∙ ap (λ (b : Bool). cond b (Ok (without_slash bytes)) (Err (bad_request reason.InvalidPath))) good

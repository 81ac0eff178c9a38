-- Printed objects, from the front.
use Rattle.std.proofs.Common.{◌≡◌, ◌≤◌, ◌==◌, ◌∷◌, ◌++◌, List, [], true, false, length, fold, map, refl, sym, ap, ◌∙◌}
use Rattle.broker_types.specs.Words.{arith, append_assoc, append-nil, length-append, nat_tests, Text}
use Rattle.serde_json.specs.Data.{Data, object}
use Rattle.serde_json.specs.Read.{read}
use Rattle.serde_json.specs.Written as written
use Rattle.serde_json.specs.Written.{compact_text}
use Rattle.api_json.specs.Words.{with_item, with_member, quoted, behind_comma, members_from_front, members_of_list}
use Rattle.api_json.specs.Words.{printed, PrintsFromTheFront, PrintsJson, PrintsReadBack}
use Rattle.api_json.proofs.TextsReadBack.{read-compact_text}

not_one : (b : Text) → 2 ≤ length b → (length b == 1) ≡ false
not_one b h = grind (arith, nat_tests)

-- a member behind others
behind : (b : Text) (m : Text × Text) → 2 ≤ length b → with_member b m ≡ b ++ 44 ∷ (quoted m.0 ++ 58 ∷ m.1)
unfolding with_member with_item
behind b m h = rw (not_one b h) (append_assoc b (44 ∷ []) (quoted m.0 ++ 58 ∷ m.1))

first : (m : Text × Text) → with_member (123 ∷ []) m ≡ 123 ∷ (quoted m.0 ++ 58 ∷ m.1)
unfolding with_member with_item
first m = refl

-- in serde_json's words
abbrev later : List (Text × Data) → Text
later es = written.members_text true (members_of_list es)

json_behind : (b : Text) (es : List (Text × Data)) → 2 ≤ length b
    → fold with_member b (map printed es) ++ 125 ∷ [] ≡ b ++ later es
unfolding quoted
json_behind b [] h = refl
json_behind b (e ∷ es) h =
    ap (λ t. fold with_member t (map printed es) ++ 125 ∷ []) (behind b (printed e) h)
    ∙ json_behind (b ++ 44 ∷ (quoted e.0 ++ 58 ∷ compact_text e.1)) es
    (omega (arith, length-append b (44 ∷ (quoted e.0 ++ 58 ∷ compact_text e.1))))
    ∙ simp append_assoc

pub prints_json : PrintsJson
unfolding quoted
prints_json [] = refl
prints_json (e ∷ es) =
    ap (λ t. fold with_member t (map printed es) ++ 125 ∷ []) (first (printed e))
    ∙ json_behind (123 ∷ (quoted e.0 ++ 58 ∷ compact_text e.1)) es
    (omega (arith, length-append (quoted e.0) (58 ∷ compact_text e.1)))
    ∙ simp append_assoc

front_behind : (b : Text) (ms : List (Text × Text)) → 2 ≤ length b
    → fold with_member b ms ≡ b ++ behind_comma (members_from_front ms)
unfolding quoted
front_behind b [] h = sym (append-nil b)
front_behind b (m ∷ ms) h =
    ap (λ t. fold with_member t ms) (behind b m h)
    ∙ front_behind (b ++ 44 ∷ (quoted m.0 ++ 58 ∷ m.1)) ms
    (omega (arith, length-append b (44 ∷ (quoted m.0 ++ 58 ∷ m.1))))
    ∙ simp append_assoc

pub prints_front : PrintsFromTheFront
unfolding quoted
prints_front [] = refl
prints_front (m ∷ ms) =
    ap (λ t. fold with_member t ms ++ 125 ∷ []) (first m)
    ∙ ap (λ t. t ++ 125 ∷ [])
    (front_behind (123 ∷ (quoted m.0 ++ 58 ∷ m.1)) ms (omega (arith, length-append (quoted m.0) (58 ∷ m.1))))
    ∙ simp append_assoc

pub prints_back : PrintsReadBack
prints_back es canonical shallow = ap read (prints_json es)
    ∙ read-compact_text (object (members_of_list es)) canonical shallow

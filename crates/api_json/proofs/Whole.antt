-- The members of objects.
use Rattle.std.proofs.Common.{◌≡◌, ◌↔◌, ◌∷◌, List, [], ℕ, Bool, true, false, not, length, IsTrue, Some, refl, String}
use Rattle.broker_types.specs.Words.{Global, or_parts, nat_cmp, match_ordering, slice_cmp, Ordering, Less, Equal}
use Rattle.broker_types.specs.Words.{Greater}
use Rattle.serde_json.specs.Data.{Data, Members, no_members, member}
use Rattle.serde_json.specs.Find.{get_member}
use Rattle.serde_json.specs.View.{members_view}
use Rattle.serde_json.specs.Written.{has_float, members_have_float}
use Rattle.serde_json.specs.declared.value.Value.{Value}
use Rattle.api_json.specs.Words.{has_members}

pub member_whole : (k : List ℕ) (ms : Members) (d : Data) → get_member k ms ≡ Some d → members_have_float ms ≡ false
    → has_float d ≡ false
member_whole k no_members d e f = cc
member_whole k (member l x ms) d e f = by (slice_cmp nat_cmp k l) e (λ h. member_whole k ms d h parts.1)
  where
    parts : (has_float x ≡ false) × (members_have_float ms ≡ false)
    parts = or_parts (has_float x) (members_have_float ms) f

    by : (o : Ordering) → match_ordering o (get_member k ms) (Some x) (get_member k ms) ≡ Some d
        → (get_member k ms ≡ Some d → has_float d ≡ false)
        → has_float d ≡ false
    by Less h later = later h
    by Equal h later = let same : x ≡ d = cc in let whole = parts.0 in cc
    by Greater h later = later h

-- an object of a map has a member where the map has
pub some_member : (b : Bool) (es : List (String Global × Value)) → IsTrue b ↔ (length es ≡ 0)
    → not b ≡ has_members (members_view es)
some_member true [] h = refl
some_member true (e ∷ es) h = let none = h.0 refl in absurd (cc)
some_member false [] h = let none = h.1 refl in absurd (cc)
some_member false (e ∷ es) h = refl

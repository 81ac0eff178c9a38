-- Policies that rows tell.
use Rattle.std.proofs.Common.{◌≡◌, if◌then◌else◌, Bool, true, false, Option, Some, None, [], Result, Ok, Err, IfOk, sym}
use Rattle.records.specs.Words.{refl, ◌∙◌, ap, none-some, same_Some, Map, get, SoundPolicies, IsShortText, Text}
use Rattle.records.specs.Words.{IsSomeIn, policy_row, Table}
use Rattle.records.specs.declared.kind.Kind.TheVariants as kind
use Rattle.policies.specs.Words.{Row, is_root, text_of, one_policy, IsPolicyAt, ArePolicies, policy_forms}

-- the text that is told is that of the policy
pub text_told : (rows : Table) (policies : Map Text) (name : Text) (o : Option Text) → is_root name ≡ false
    → ArePolicies rows policies → IsPolicyAt rows name o
    → o ≡ text_of policies name
text_told rows policies name o free are at =
    one_policy rows name o (get policies name) at (are name)
    ∙ sym (ap (λ v. if v then Some [] else get policies name) free)

pub root_text : (policies : Map Text) (name : Text) → is_root name ≡ true → Some [] ≡ text_of policies name
root_text policies name is = sym (ap (λ v. if v then Some [] else get policies name) is)

-- policies of a sound broker have short texts
pub short_texts : (is_object : Text → Bool) (policies : Map Text) → SoundPolicies (policy_forms is_object) policies
    → (name : Text)
    → IsSomeIn IsShortText (get policies name)
short_texts is_object policies sound name text is = (sound name text is).short

-- nothing is told of a name whose row is that of no policy
pub not_read : (rows : Table) (name : Text) (row : Row) → rows kind.Policy name ≡ Some row
    → ((text : Text) → IsShortText text → row ≡ policy_row text → ⊥) → (o : Option Text) → IsSomeIn IsShortText o
    → IsPolicyAt rows name o → ⊥
not_read rows name row is none None short at = none-some row (sym at ∙ is)
not_read rows name row is none (Some text) short at =
    none text (short text refl) (same_Some row (policy_row text) (sym is ∙ at))

-- ---- answers

pub each_ok : {X E : Type 0} {P Q : X → Type 0} → ((x : X) → P x → Q x) → (r : Result X E) → IfOk r P → IfOk r Q
each_ok h (Ok x) p = h x p
each_ok h (Err f) p = tt

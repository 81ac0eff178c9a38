-- The part of tokens, on what rows tell: it is what the definitions say of the tokens.
use Rattle.std.proofs.Common.{◌≡◌, ◌≢◌, ◌≤◌, ◌+◌, ◌==◌, if◌then◌else◌, ℕ, List, [], Bool, true, false, Option, Some, ap}
use Rattle.broker_model.specs.Words.{None, list_all, refl, subst, arith, min-le_right, All-weaker, none-some, same_Some}
use Rattle.broker_model.specs.Words.{Text, longest_ttl, greatest_moment, is_name, IsShortText, IsIdentifier, IsEnd}
use Rattle.broker_model.specs.Words.{Token, TokenCreation, listed_entries, identifier_short, name_short, IsTokenInRange}
use Rattle.broker_model.specs.Words.{IsSomeIn, IsWide, TokenEntry, token_entry, new_token, new_policies, has_no_end}
use Rattle.broker_model.specs.Words.{asked_ttl}
use Rattle.token_operations.specs.TokenEntries.{token_told, new_entry}
use Rattle.token_operations.specs.TokenRanges.{IsInRange}
use Rattle.token_operations.proofs.TokenPolicies.{ArePolicies, IsPolicyName, each_passes, new_policies_are}
use Rattle.token_operations.proofs.TokenSound.{ttl_short, end_near}

-- ---- a token and its row tell the same

pub same_policies : (privileged : Bool) (x : Token) (asked : TokenCreation)
    → new_policies privileged x asked ≡ new_policies privileged (token_told (token_entry x)) asked
same_policies privileged x asked = refl

-- the row of a new token, whose metadata is in order
pub same_new : (now : ℕ) (parent : Option Text) (accessor : Text) (ps : List Text) (asked : TokenCreation)
    → IsInRange asked
    → token_entry (new_token now parent accessor ps asked) ≡ new_entry now parent accessor ps asked
same_new now parent accessor ps asked range =
    ap (λ es. record (token_entry (new_token now parent accessor ps asked)) { meta = es })
    (listed_entries asked.meta range.kept.meta.ascend)

-- ---- the row of a new token can be written

-- policies as rows have them: those of a caller whose row could be read, and names
pub new_policies_short : (privileged : Bool) (e : TokenEntry) (asked : TokenCreation) → IsTokenInRange e
    → list_all is_name asked.policies ≡ true
    → IsInRange asked → ArePolicies IsShortText (new_policies privileged (token_told e) asked)
new_policies_short privileged e asked in_range named range =
    new_policies_are IsShortText (name_short _ refl) (name_short _ refl) privileged (token_told e) asked
    (record {
      names = in_range.policies.names.each;
      ascend = in_range.policies.ascend;
      few = in_range.policies.names.few;
    })
    (All-weaker IsPolicyName IsShortText name_short asked.policies (each_passes asked.policies named))
    range.kept.few_policies

-- whatever the rows are, if no empty text makes a token
pub new_in_range : (now : ℕ) (parent : Option Text) (accessor : Text) (ps : List Text) (asked : TokenCreation)
    → now ≤ greatest_moment → parent ≢ Some []
    → IsIdentifier accessor → ArePolicies IsShortText ps → IsInRange asked
    → IsTokenInRange (new_entry now parent accessor ps asked)
new_in_range now parent accessor ps asked within named good are range =
    record {
      parent = named;
      accessor = identifier_short accessor good;
      policies = record { names = record { each = are.names; few = are.few }; ascend = are.ascend };
      issued = within;
      ends = ends (has_no_end ps asked);
      ttl = ttl (has_no_end ps asked);
      explicit_max_ttl = range.explicit_max_ttl;
      period = min-le_right asked.period longest_ttl;
      uses_left = uses (asked.num_uses == 0);
      meta = record {
        members = record {
          each = λ k d lt. let u = range.texts k d lt in let s = range.kept.meta.short k d lt in
              (record { utf8 = u.0; short = s.0 }, record { utf8 = u.1; short = s.1 });
          few = range.kept.meta.few;
        };
        ascend = range.kept.meta.ascend;
      };
    }
  where
    ends : (v : Bool) → IsSomeIn IsEnd (if v then None else Some (now + asked_ttl asked))
    ends true m e = absurd (none-some _ e)
    ends false m e = subst IsEnd (same_Some _ _ e) (end_near now (asked_ttl asked) within (ttl_short asked))

    ttl : (v : Bool) → (if v then 0 else asked_ttl asked) ≤ longest_ttl
    ttl true = omega arith
    ttl false = ttl_short asked

    uses : (v : Bool) → IsSomeIn IsWide (if v then None else Some asked.num_uses)
    uses true n e = absurd (none-some _ e)
    uses false n e = subst IsWide (same_Some _ _ e) range.num_uses

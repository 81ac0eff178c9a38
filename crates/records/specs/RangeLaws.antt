-- What sound brokers have is in the range of rows (this project's).
use Rattle.std.specs.Prelude.{◌≡◌, ◌≢◌, ◌<◌, ◌≤◌, ◌^◌, ◌&&◌, ◌||◌, ◌==◌, ◌∷◌, nat_le, nat_lt, ℕ, List, [], length, map}
use Rattle.broker_types.specs.Words.{All, Bool, true, Some, None, is_sorted, to_be_bytes, w128, list_all, refl, sym, ap}
use Rattle.broker_types.specs.Words.{subst, lit<, inl, inr, le_trans, and_parts, or_cases, leb-true, eqb-true}
use Rattle.broker_types.specs.Words.{false≢true, All-cons, All-nil, IsUtf8-from_ascii, IsAscii-from_all, Text, text_cmp}
use Rattle.broker_types.specs.Words.{Map, entries, get, len, id, is_name, is_name_byte, Token, Tokens, Lease, Key}
use Rattle.broker_types.specs.Words.{Version, Role, Waiting, Forms, SoundTokens, IsShortText, IsIdentifier, IsTokenText}
use Rattle.broker_types.specs.Words.{IsPathText, is_ascending, IsSoundLease, IsSoundKey, IsSoundVersion, IsSoundWaiting}
use Rattle.broker_types.specs.Words.{IsSoundRole}
use Rattle.std.specs.FinMap as fin
use Rattle.std.proofs.Common.{lt_of_le_of_lt}
use Rattle.uuid.specs.Text.{lower}
use Rattle.uuid.proofs.TextLemmas.{hyphenated_ascii}
use Rattle.broker_types.specs.IdentifierLaws.{id-length}
use Rattle.broker_types.specs.SearchLaws.{each_entry}
use Rattle.broker_types.specs.TestLaws.{T_true}
use Rattle.records.specs.CubbyKeyLaws.{length-token}
use Rattle.records.specs.KeyEntry.{key_entry}
use Rattle.records.specs.TokenEntry.{token_entry, IsShortPair, IsMeta}
use Rattle.records.specs.Ranges.{IsTokenInRange, IsLeaseInRange, IsKeyInRange, IsVersionInRange, IsWaitingInRange}
use Rattle.records.specs.Ranges.{IsRoleInRange}

-- ---- texts

id_short : (word : ℕ) → IsShortText (id word)
id_short word =
    record {
      utf8 = IsUtf8-from_ascii (id word) (hyphenated_ascii lower (to_be_bytes w128 word) (inl refl));
      short = subst (λ n. n < 2 ^ 32) (sym (id-length word)) (lit< tt);
    }

-- an identifier
pub identifier_short : (i : Text) → IsIdentifier i → IsShortText i
identifier_short i h = subst IsShortText (sym h.2) (id_short h.0)

upto : (m b : ℕ) → nat_le b m ≡ true → m < 128 → b < 128
upto m b h below = lt_of_le_of_lt (leb-true b m h) below

between : (l m b : ℕ) → (nat_le l b && nat_le b m) ≡ true → m < 128 → b < 128
between l m b h below = upto m b (and_parts (nat_le l b) (nat_le b m) h).1 below

is_one : (n b : ℕ) → (b == n) ≡ true → n < 128 → b < 128
is_one n b h below = subst (λ k. k < 128) (sym (eqb-true b n h)) below

either : {P : Type 0} (x y : Bool) → (x ≡ true → P) → (y ≡ true → P) → (x || y) ≡ true → P
either x y f g h = elim (or_cases x y h) [
  | inl l ↦ f l
  | inr r ↦ g r
]

name_byte_small : (b : ℕ) → is_name_byte b ≡ true → b < 128
name_byte_small b =
    either _ _ (λ h. between 48 57 b h (lit< tt))
    (either _ _ (λ h. between 65 90 b h (lit< tt))
    (either _ _ (λ h. between 97 122 b h (lit< tt))
    (either _ _ (λ h. is_one 45 b h (lit< tt))
    (either _ _ (λ h. is_one 95 b h (lit< tt)) (λ h. is_one 46 b h (lit< tt))))))

name_bytes : (p : Text) → list_all is_name_byte p ≡ true → All (λ b. b < 128) p
name_bytes [] h = All-nil (λ b. b < 128)
name_bytes (b ∷ p) h =
    let two = and_parts _ _ h in
    All-cons (λ b. b < 128) b p (name_byte_small b two.0) (name_bytes p two.1)

-- a name
pub name_short : (p : Text) → is_name p ≡ true → IsShortText p
name_short p h =
    let all = and_parts (nat_lt 0 (length p)) (nat_le (length p) 128 && list_all is_name_byte p) h in
    let two = and_parts (nat_le (length p) 128) (list_all is_name_byte p) all.1 in
    let few : length p ≤ 128 = leb-true (length p) 128 two.0 in
    record {
      utf8 = IsUtf8-from_ascii p (IsAscii-from_all p (name_bytes p two.1));
      short = lt_of_le_of_lt few (lit< tt);
    }

-- a path
pub path_short : (p : Text) → IsPathText p → IsShortText p
path_short p h =
    let few : length p ≤ 512 = leb-true (length p) 512 (and_parts _ _ (and_parts _ _ (and_parts _ _ h.good).0).0).1 in
    record { utf8 = h.utf8; short = lt_of_le_of_lt few (lit< tt) }

-- ---- tokens

-- the keys of a map ascend
sorted_ascend : (es : List (Text × Text)) → is_sorted text_cmp es ≡ true → is_ascending (map (λ e. e.0) es) ≡ true
sorted_ascend [] h = refl
sorted_ascend (x ∷ []) h = refl
sorted_ascend (x ∷ y ∷ es) h =
    let outer = and_parts _ _ h in
    let inner = and_parts _ _ outer.0 in
    λ i. inner.0 i && sorted_ascend (y ∷ es) outer.1 i

-- the entries of a map of short texts are metadata
pub meta_in_range : (m : Map Text) → len m < 2 ^ 32
    → ((name value : Text) → get m name ≡ Some value → IsShortText name × IsShortText value) → IsMeta (entries m)
meta_in_range m few each =
    record {
      members = record {
        each = each_entry IsShortPair m each;
        few = subst (λ n. n < 2 ^ 32) (fin.len-entries m) few;
      };
      ascend = sorted_ascend (entries m) (T_true _ (fin.entries_sorted m));
    }

no_token : IsTokenText [] → ⊥
no_token h = false≢true (ap (λ n. n == 40) (length-token [] h))

no_parent_is_empty : (forms : Forms) (ts : Tokens) → SoundTokens forms ts → (t : Text) (x : Token)
    → get ts t ≡ Some x → x.parent ≢ Some []
no_parent_is_empty forms ts s t x here is =
    elim (get ts []) as (λ o. get ts [] ≡ o → ⊥) [
      | None ↦ λ gone. s.parents_exist t [] x here is gone
      | Some y ↦ λ found. no_token ((s.each [] y found).name)
    ] refl

-- the row of each sound token can be written
pub token_in_range : (forms : Forms) (ts : Tokens) → SoundTokens forms ts → (t : Text) (x : Token)
    → get ts t ≡ Some x → IsTokenInRange (token_entry x)
token_in_range forms ts s t x here =
    let x_sound = s.each t x here in
    record {
      parent = no_parent_is_empty forms ts s t x here;
      accessor = identifier_short x.accessor x_sound.accessor;
      policies =
          record {
            names = record {
              each = λ k d h. name_short _ (x_sound.policy_names k d h);
              few = x_sound.few_policies;
            };
            ascend = x_sound.policies_ascend;
          };
      issued = x_sound.issued;
      ends = x_sound.ends;
      ttl = x_sound.ttl;
      explicit_max_ttl = x_sound.explicit_max_ttl;
      period = x_sound.period;
      uses_left = x_sound.uses_left;
      meta = meta_in_range x.meta x_sound.few_meta x_sound.meta;
    }

-- the row of each sound lease
pub lease_in_range : (lease_id : Text) (l : Lease) → IsSoundLease lease_id l → IsLeaseInRange l
lease_in_range lease_id l s =
    record {
      ends = s.ends;
      issued = s.issued;
      ttl = le_trans s.ttl s.max_ttl;
      max_ttl = s.max_ttl;
      renewed = s.renewed;
      credential = identifier_short l.credential s.credential;
    }

-- ---- secrets, waiting responses, roles

-- the row of each sound key
pub key_in_range : (forms : Forms) (q : Text) (k : Key) → IsSoundKey forms q k → IsKeyInRange (key_entry k)
key_in_range forms q k s =
    record {
      current = s.current;
      created = s.created;
      updated = s.updated;
      max_versions = s.max_versions;
      custom_metadata =
          meta_in_range k.custom_metadata (lt_of_le_of_lt s.few_metadata (lit< tt)) (λ name value here.
          let p = s.metadata name value here in (
            record { utf8 = p.name_utf8; short = lt_of_le_of_lt p.name_short (lit< tt) },
            record { utf8 = p.value_utf8; short = lt_of_le_of_lt p.value_short (lit< tt) },
          ));
    }

-- of each sound version
pub version_in_range : (forms : Forms) (k : Key) (n : ℕ) (v : Version) → IsSoundVersion forms k n v
    → IsVersionInRange v
version_in_range forms k n v s =
    record { created = s.created; deleted = s.deleted; secret = λ t e. (s.secret t e).short }

-- of each sound waiting response
pub waiting_in_range : (t : Text) (w : Waiting) → IsSoundWaiting t w → IsWaitingInRange w
waiting_in_range t w s =
    record {
      accessor = identifier_short w.accessor s.accessor;
      created = s.created;
      ttl = s.ttl;
      path = path_short w.path s.path;
      origin = identifier_short w.origin s.origin;
      reply = record { utf8 = s.reply; short = s.short };
    }

-- and of each sound role
pub role_in_range : (q : Text) (r : Role) → IsSoundRole q r → IsRoleInRange r
role_in_range q r s = record { ttl = s.ttl; max_ttl = s.max_ttl }

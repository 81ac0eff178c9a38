-- Equal rows are of equal records: of cubbyholes, policies, keys, versions, leases, waiting responses and tokens.
use Rattle.std.proofs.Common.{◌≡◌, ◌++◌, ℕ, List, [], drop, Option, Some, None, ap, sym, ◌∙◌, arith}
use Rattle.broker_types.specs.Words.{same_Some, Text, Lease, Version, Waiting, longest_ttl, greatest_version}
use Rattle.broker_types.specs.Words.{longest_duration, IsShortText}
use Rattle.records.specs.declared.row.Row.{Row}
use Rattle.records.specs.ConversionLaws.{rows_apart, key_converts, version_converts, lease_converts, waiting_converts}
use Rattle.records.specs.KeyEntry.{KeyEntry}
use Rattle.records.specs.Ranges.{IsTokenInRange, IsKeyInRange, IsVersionInRange, IsLeaseInRange, IsWaitingInRange}
use Rattle.records.specs.RowForms.{row_in, cubby_row, policy_row, entry_row, key_entry_row, version_row, lease_row}
use Rattle.records.specs.RowForms.{waiting_row}
use Rattle.records.specs.SpellingLaws.{IsPrefixFree, number_free, moment_free, up_to_free, text_free, long_text_free}
use Rattle.records.specs.SpellingLaws.{flag_free, pair_free, optional_free, policies_free, meta_free}
use Rattle.records.specs.TokenEntry.{TokenEntry}
use Rattle.records.specs.TokenRowLaws.{token_converts}

-- rows of fields that are spelled alike
pub same_rows : {X : Type 0} {P : X → Type 0} {spell : X → List ℕ} {format : ℕ} → IsPrefixFree P spell
    → (o p : Text) (d e : Option ℕ) (x y : X) → P x → P y
    → row_in format o d (spell x) ≡ row_in format p e (spell y) → (o ≡ p) × (d ≡ e) × (x ≡ y)
same_rows free o p d e x y hx hy is = (
  ap (λ (r : Row). r.owner) is,
  ap (λ (r : Row). r.due) is,
  (free.unique x y [] [] hx hy (ap (λ (r : Row). drop 1 r.body ++ []) is)).0,
)

-- of what tokens keep
pub cubby_row-injective : (t u object other : Text) → IsShortText object → IsShortText other
    → cubby_row t object ≡ cubby_row u other
    → (t ≡ u) × (object ≡ other)
cubby_row-injective t u object other h k e = let same = same_rows text_free t u None None object other h k e in
    (same.0, same.2)

-- of policies
pub policy_row-injective : (p q : Text) → IsShortText p → IsShortText q → policy_row p ≡ policy_row q → p ≡ q
policy_row-injective p q hp hq e = (same_rows text_free [] [] None None p q hp hq e).2

-- of keys
pub key_entry_row-injective : (j k : KeyEntry) → IsKeyInRange j → IsKeyInRange k → key_entry_row j ≡ key_entry_row k
    → j ≡ k
key_entry_row-injective j k hj hk e =
    let numbers = pair_free (pair_free (up_to_free greatest_version (omega arith)) moment_free) moment_free in
    let free = pair_free (pair_free (pair_free numbers flag_free) number_free) meta_free in
    rows_apart key_converts (λ x z hx hz is. (same_rows free [] [] None None x z hx hz is).2) j k hj hk e

-- of versions
pub version_row-injective : (v w : Version) → IsVersionInRange v → IsVersionInRange w → version_row v ≡ version_row w
    → v ≡ w
version_row-injective v w hv hw e =
    let free = pair_free (pair_free (pair_free moment_free (optional_free moment_free)) flag_free) text_free in
    rows_apart version_converts (λ x z hx hz is. (same_rows free [] [] None None x z hx.0 hz.0 is).2) v w hv hw e

-- of leases
pub lease_row-injective : (t u : Text) (l m : Lease) → IsLeaseInRange l → IsLeaseInRange m
    → lease_row t l ≡ lease_row u m → (t ≡ u) × (l ≡ m)
lease_row-injective t u l m hl hm e =
    let owner : t ≡ u = ap (λ (r : Row). r.owner) e in
    let ttls = up_to_free longest_ttl (omega arith) in
    let free = pair_free (pair_free (pair_free (pair_free moment_free ttls) ttls) (optional_free moment_free))
    text_free in (
      owner,
      rows_apart (lease_converts t) (λ x z hx hz is.
          let same = same_rows free t t (Some x.0) (Some z.0) x.1 z.1 hx.1 hz.1 is in
          λ i. (same_Some _ _ same.1 i, same.2 i)) l m hl hm (e ∙ (λ i. lease_row (sym owner i) m)),
    )

-- of waiting responses
pub waiting_row-injective : (v w : Waiting) → IsWaitingInRange v → IsWaitingInRange w → waiting_row v ≡ waiting_row w
    → v ≡ w
waiting_row-injective v w hv hw e =
    let front = pair_free (pair_free text_free moment_free) (up_to_free longest_ttl (omega arith)) in
    let free = pair_free (pair_free (pair_free front text_free) text_free) long_text_free in
    rows_apart waiting_converts (λ x z hx hz is.
    let same = same_rows free [] [] (Some x.0) (Some z.0) x.1 z.1 hx.0.1 hz.0.1 is in
    λ i. (same_Some _ _ same.1 i, same.2 i)) v w hv hw e

-- of tokens
pub entry_row-injective : (x y : TokenEntry) → IsTokenInRange x → IsTokenInRange y → entry_row x ≡ entry_row y → x ≡ y
entry_row-injective x y hx hy e =
    let ttl = up_to_free longest_ttl (omega arith) in
    let times = pair_free (pair_free (pair_free moment_free ttl) (up_to_free longest_duration (omega arith))) ttl in
    let free = pair_free (pair_free (pair_free (pair_free text_free policies_free) times) (optional_free number_free))
    meta_free in
    rows_apart token_converts (λ p q hp hq is.
    let same = same_rows free p.0.0 q.0.0 p.0.1 q.0.1 p.1 q.1 hp.1 hq.1 is in
    λ i. ((same.0 i, same.1 i), same.2 i)) x y hx hy e

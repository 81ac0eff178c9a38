-- Records by their fields: the fields that tell a key, a version, a lease and a response.
use Rattle.std.specs.Prelude.{◌≡◌, ◌<◌, ◌≤◌, ◌++◌, List, [], ℕ, Bool, true, false, Option, Some, None, is_none, refl}
use Rattle.broker_types.specs.Words.{unwrap_or, sym, ◌∙◌, ap, subst, arith, lit<, All-nil, same_Some, IsUtf8-from_ascii}
use Rattle.broker_types.specs.Words.{IsAscii-from_all, Text, Lease, Version, Waiting, waiting_ends, longest_ttl}
use Rattle.broker_types.specs.Words.{greatest_version, IsMoment, IsEnd, IsShortText}
use Rattle.records.specs.declared.row.Row.{Row}
use Rattle.records.specs.Fields.{IsLongText}
use Rattle.records.specs.KeyEntry.{KeyEntry, secret_in}
use Rattle.records.specs.Ranges.{IsKeyInRange, IsVersionInRange, IsLeaseInRange, IsWaitingInRange}
use Rattle.records.specs.RowReaders.{IsWide, IsSomeIn}
use Rattle.records.specs.RowForms.{fields_row, key_entry_row, version_row, lease_row, waiting_row}
use Rattle.records.specs.Spelling.{number, text, long_text, flag, optional_field}
use Rattle.records.specs.TokenEntry.{IsMeta}

-- ---- rows of records, by way of those of their fields

-- the fields of X tell the records of Y: each record that a row can hold has its own, and the rows agree
pub record IsConversion {X Y : Type 0} (IsInRange : X → Type 0) (row_of : X → Row) (IsRecord : Y → Type 0)
    (record_row : Y → Row) (record_of : X → Y)
    (fields : Y → X) : Type 0 where
  pub there : (y : Y) → IsRecord y → IsInRange (fields y)
  pub back : (x : X) → IsInRange x → IsRecord (record_of x)
  pub same : (y : Y) → IsRecord y → record_of (fields y) ≡ y
  pub rows : (x : X) → IsInRange x → row_of x ≡ record_row (record_of x)

module _ {X Y : Type 0} {IsInRange : X → Type 0} {row_of : X → Row} {IsRecord : Y → Type 0} {record_row : Y → Row}
    {record_of : X → Y} {fields : Y → X}
    (t : IsConversion IsInRange row_of IsRecord record_row record_of fields) where
  -- the row of a record is that of its fields
  pub same_row : (y : Y) → IsRecord y → record_row y ≡ row_of (fields y)
  same_row y h = sym (t.rows (fields y) (t.there y h) ∙ ap record_row (t.same y h))

  -- records with equal rows are equal if their fields are
  pub rows_apart : ((x z : X) → IsInRange x → IsInRange z → row_of x ≡ row_of z → x ≡ z) → (y w : Y) → IsRecord y
      → IsRecord w
      → record_row y ≡ record_row w → y ≡ w
  rows_apart apart y w hy hw e =
      sym (t.same y hy) ∙ ap record_of (apart (fields y) (fields w) (t.there y hy) (t.there w hw)
      (sym (same_row y hy) ∙ e ∙ same_row w hw)) ∙ t.same w hw

-- ---- keys

abbrev pub KeyFields : Type 0
KeyFields = ((((ℕ × ℕ) × ℕ) × Bool) × ℕ) × List (Text × Text)

abbrev pub key : KeyFields → KeyEntry
key x =
    record {
      current = x.0.0.0.0.0;
      created = x.0.0.0.0.1;
      updated = x.0.0.0.1;
      cas_required = x.0.0.1;
      max_versions = x.0.1;
      custom_metadata = x.1;
    }

pub key_converts : IsConversion (λ (x : KeyFields).
    (((((x.0.0.0.0.0 ≤ greatest_version) × IsMoment x.0.0.0.0.1) × IsMoment x.0.0.0.1) × Unit {0}) × IsWide x.0.1)
    × IsMeta x.1) (λ x. key_entry_row (key x)) IsKeyInRange key_entry_row key
    (λ k. (((((k.current, k.created), k.updated), k.cas_required), k.max_versions), k.custom_metadata))
key_converts = record {
  there = λ k h. (((((h.current, h.created), h.updated), tt), h.max_versions), h.custom_metadata);
  back = λ x h. record {
    current = h.0.0.0.0.0;
    created = h.0.0.0.0.1;
    updated = h.0.0.0.1;
    max_versions = h.0.1;
    custom_metadata = h.1;
  };
  same = λ k h. refl;
  rows = λ x h. refl;
}

-- ---- versions

abbrev pub VersionFields : Type 0
VersionFields = ((ℕ × Option ℕ) × Bool) × Text

abbrev pub version : VersionFields → Version
version x = record { created = x.0.0.0; deleted = x.0.0.1; secret = secret_in x.0.1 x.1 }

-- a version that is destroyed has no secret
abbrev pub HasNone : VersionFields → Type 0
HasNone x = x.0.1 ≡ true → x.1 ≡ []

secret_short : (o : Option Text) → IsSomeIn IsShortText o → IsShortText (unwrap_or o [])
secret_short None h =
    record { utf8 = IsUtf8-from_ascii [] (IsAscii-from_all [] (All-nil (λ b. b < 128))); short = lit< tt }
secret_short (Some t) h = h t refl

secret_none : (o : Option Text) → is_none o ≡ true → unwrap_or o [] ≡ []
secret_none None e = refl
secret_none (Some t) e = absurd (cc)

secret_back : (o : Option Text) → secret_in (is_none o) (unwrap_or o []) ≡ o
secret_back None = refl
secret_back (Some t) = refl

secret_in_range : (destroyed : Bool) (t : Text) → IsShortText t → IsSomeIn IsShortText (secret_in destroyed t)
secret_in_range true t h x e = absurd (cc)
secret_in_range false t h x e = subst IsShortText (same_Some _ _ e) h

flag_back : (destroyed : Bool) (t : Text) → is_none (secret_in destroyed t) ≡ destroyed
flag_back true t = refl
flag_back false t = refl

text_back : (destroyed : Bool) (t : Text) → (destroyed ≡ true → t ≡ []) → unwrap_or (secret_in destroyed t) [] ≡ t
text_back true t h = sym (h refl)
text_back false t h = refl

pub version_converts : IsConversion
    (λ (x : VersionFields). (((IsMoment x.0.0.0 × IsSomeIn IsMoment x.0.0.1) × Unit {0}) × IsShortText x.1) × HasNone x)
    (λ x. fields_row [] None (number x.0.0.0 ++ optional_field number x.0.0.1 ++ flag x.0.1 ++ text x.1))
    IsVersionInRange version_row
    version (λ v. (((v.created, v.deleted), is_none v.secret), unwrap_or v.secret []))
version_converts = record {
  there = λ v h. ((((h.created, h.deleted), tt), secret_short v.secret h.secret), secret_none v.secret);
  back = λ x h. record { created = h.0.0.0.0; deleted = h.0.0.0.1; secret = secret_in_range x.0.1 x.1 h.0.1 };
  same = λ v h i. record v { secret = secret_back v.secret i };
  rows = λ x h i. fields_row [] None
      (number x.0.0.0 ++ optional_field number x.0.0.1 ++ flag (sym (flag_back x.0.1 x.1) i)
      ++ text (sym (text_back x.0.1 x.1 h.1) i));
}

-- ---- leases

abbrev pub LeaseFields : Type 0
LeaseFields = ℕ × ((((ℕ × ℕ) × ℕ) × Option ℕ) × Text)

abbrev pub lease_of_fields : LeaseFields → Lease
lease_of_fields x = record {
  ends = x.0;
  issued = x.1.0.0.0.0;
  ttl = x.1.0.0.0.1;
  max_ttl = x.1.0.0.1;
  renewed = x.1.0.1;
  credential = x.1.1;
}

pub lease_converts : (owner : Text)
    → IsConversion (λ x. IsEnd x.0
    × ((((IsMoment x.1.0.0.0.0 × (x.1.0.0.0.1 ≤ longest_ttl)) × (x.1.0.0.1 ≤ longest_ttl)) × IsSomeIn IsMoment x.1.0.1)
    × IsShortText x.1.1)) (λ x. lease_row owner (lease_of_fields x)) IsLeaseInRange (lease_row owner)
    lease_of_fields (λ l. (l.ends, ((((l.issued, l.ttl), l.max_ttl), l.renewed), l.credential)))
lease_converts owner = record {
  there = λ l h. (h.ends, ((((h.issued, h.ttl), h.max_ttl), h.renewed), h.credential));
  back = λ x h. record {
    ends = h.0;
    issued = h.1.0.0.0.0;
    ttl = h.1.0.0.0.1;
    max_ttl = h.1.0.0.1;
    renewed = h.1.0.1;
    credential = h.1.1;
  };
  same = λ l h. refl;
  rows = λ x h. refl;
}

-- ---- waiting responses

abbrev pub WaitingFields : Type 0
WaitingFields = ℕ × (((((Text × ℕ) × ℕ) × Text) × Text) × Text)

abbrev pub waiting : WaitingFields → Waiting
waiting x = record {
  accessor = x.1.0.0.0.0.0;
  created = x.1.0.0.0.0.1;
  ttl = x.1.0.0.0.1;
  path = x.1.0.0.1;
  origin = x.1.0.1;
  reply = x.1.1;
}

-- it ends when its time to live is over
abbrev pub EndsInTime : WaitingFields → Type 0
EndsInTime x = x.0 ≡ waiting_ends (waiting x)

pub waiting_converts : IsConversion (λ (x : WaitingFields). (IsEnd x.0
    × (((((IsShortText x.1.0.0.0.0.0 × IsMoment x.1.0.0.0.0.1) × (x.1.0.0.0.1 ≤ longest_ttl)) × IsShortText x.1.0.0.1)
    × IsShortText x.1.0.1)
    × IsLongText x.1.1)) × EndsInTime x)
    (λ x. fields_row [] (Some x.0)
    (text x.1.0.0.0.0.0 ++ number x.1.0.0.0.0.1 ++ number x.1.0.0.0.1 ++ text x.1.0.0.1 ++ text x.1.0.1
    ++ long_text x.1.1)) IsWaitingInRange waiting_row
    waiting (λ w. (waiting_ends w, (((((w.accessor, w.created), w.ttl), w.path), w.origin), w.reply)))
waiting_converts = record {
  there = λ w h. (
    (omega (arith, h.created, h.ttl), (((((h.accessor, h.created), h.ttl), h.path), h.origin), h.reply)),
    refl,
  );
  back = λ x h. record {
    accessor = h.0.1.0.0.0.0.0;
    created = h.0.1.0.0.0.0.1;
    ttl = h.0.1.0.0.0.1;
    path = h.0.1.0.0.1;
    origin = h.0.1.0.1;
    reply = h.0.1.1;
  };
  same = λ w h. refl;
  rows = λ x h i. fields_row [] (Some (h.1 i))
      (text x.1.0.0.0.0.0 ++ number x.1.0.0.0.0.1 ++ number x.1.0.0.0.1 ++ text x.1.0.0.1 ++ text x.1.0.1
      ++ long_text x.1.1);
}

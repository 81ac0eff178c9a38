-- A write: its rows are those of the next broker.
use Rattle.std.proofs.Common.{◌≡◌, ◌≤◌, ◌+◌, ◌-◌, ◌==◌, ◌&&◌, if◌then◌else◌, ℕ, suc, zero, nat_lt, not, nat_eq, Bool}
use Rattle.records.specs.Words.{true, false, cond, Option, Some, None, option_map, is_le, starts_with, refl, sym, ◌∙◌}
use Rattle.records.specs.Words.{ap, arith, false_from_ne_true, none-some, Text, text_cmp, same, same_true}
use Rattle.records.specs.Words.{greatest_version, Map, get, put, get-put, Key, Version, Broker, Mount, key_entry}
use Rattle.records.specs.Words.{of_secrets, Tells, key_row, key_entry_row, version_row, padded, version_of_digits}
use Rattle.records.specs.Words.{version_row_of, version_at, version_key, line_feed, lacks, Table, with_row}
use Rattle.records.specs.declared.kind.Kind.TheVariants as kind
use Rattle.kv2.specs.Words.{Row, versions_prefix, next_entry, without_upto, written, next_versions, version_of}
use Rattle.kv2.specs.Words.{new_version, with_version, versions_kept, key_or_new}
use Rattle.records.specs.DigitLaws.{wide}
use Rattle.kv2.specs.SecretRows as rows
use Rattle.kv2.proofs.Digits.{KeyLaws, same_digits, upto_digits}
use Rattle.kv2.proofs.SecretsTold.{key_rows, version_rows, version_row_of-some}
use Rattle.kv2.proofs.Parts.{secrets_by}
use Rattle.kv2.proofs.VersionRows.{ByParts, at_parts, with_part, without_parts_to, at_parts-with_part}
use Rattle.kv2.proofs.VersionRows.{at_parts-without_to}

not_below : (x : ℕ) → nat_lt x 0 ≡ false
not_below x = grind arith

not_zero : (x : ℕ) → (0 == x + 1) ≡ false
not_zero x = grind arith

above : (n : ℕ) → nat_lt 0 (suc n) ≡ true
above n = grind arith

nothing : (x limit : ℕ) → nat_lt limit x ≡ false → x - limit ≡ 0
nothing x limit h = grind (arith, h)

module _ (now limit : ℕ) (object : Text) (o : Option Key) where
  abbrev k : Key
  k = key_or_new now o

  abbrev v : ℕ
  v = k.current + 1

  abbrev next_key : Key
  next_key = with_version now limit object k

  abbrev row : Row
  row = version_row (new_version now object)

  -- if the limit leaves all, none is left out
  unpruned : nat_lt limit v ≡ false → version_of o 0 ≡ None → (n : ℕ)
      → cond (nat_lt (v - limit) n) (cond (n == v) (Some (new_version now object)) (version_of o n)) None
      ≡ cond (n == v) (Some (new_version now object)) (version_of o n)
  unpruned all first zero =
      ap (λ b. cond b (cond (0 == v) (Some (new_version now object)) (version_of o 0)) None) (not_below (v - limit))
      ∙ sym first
      ∙ sym (ap (λ b. cond b (Some (new_version now object)) (version_of o 0)) (not_zero k.current))
  unpruned all first (suc n) =
      ap (λ z. cond (nat_lt z (suc n)) (cond (suc n == v) (Some (new_version now object)) (version_of o (suc n))) None)
      (nothing v limit all)
      ∙ ap (λ b. cond b (cond (suc n == v) (Some (new_version now object)) (version_of o (suc n))) None) (above n)

  at_number : (a b : Bool) (old : Option Version)
      → (if not a then None else (if b then Some row else option_map version_row old))
      ≡ option_map version_row (cond a (cond b (Some (new_version now object)) old) None)
  at_number true true old = refl
  at_number true false old = refl
  at_number false b old = refl

  put_number : (b : Bool) (old : Option Version)
      → (if b then Some row else option_map version_row old)
      ≡ option_map version_row (cond b (Some (new_version now object)) old)
  put_number true old = refl
  put_number false old = refl

  neither : (a : Bool) → (if a then None else None) ≡ version_row_of (Some next_key) None
  neither true = refl
  neither false = refl

  module _ (laws : KeyLaws) (h : v ≤ greatest_version) where
    no_digits : (d : Text) → version_of_digits d ≡ None → same d (padded v) ≡ false
    no_digits d e = false_from_ne_true _
        (λ s. absurd (none-some _ (sym e ∙ ap version_of_digits (same_true d (padded v) s) ∙ laws.told v h)))

    at_digits : (d : Text)
        → (if is_le (text_cmp d (padded (v - limit))) then None else
        (if same d (padded v) then Some row else version_row_of o
        (version_of_digits d)))
        ≡ version_row_of (Some next_key) (version_of_digits d)
    at_digits d =
        elim (version_of_digits d) as (λ t. version_of_digits d ≡ t
        → (if is_le (text_cmp d (padded (v - limit))) then None else
        (if same d (padded v) then Some row else version_row_of o t))
        ≡ version_row_of (Some next_key) t) [
          | None ↦ λ e.
              ap (λ b. if is_le (text_cmp d (padded (v - limit))) then None else (if b then Some row else None))
              (no_digits d e)
              ∙ neither (is_le (text_cmp d (padded (v - limit))))
          | Some n ↦ λ e.
              let told = laws.exact d n e in
              let few : v - limit ≤ greatest_version = omega (arith, h) in
              (λ i. if (ap (λ z. is_le (text_cmp z (padded (v - limit)))) told.1
              ∙ upto_digits laws n (v - limit) (wide n told.0) (wide
              (v - limit) few)) i then None
              else (if (ap (λ z. same z (padded v)) told.1 ∙ same_digits laws n v (wide n told.0) (wide v h)) i then
              Some row else version_row_of-some o n i))
              ∙ at_number (nat_lt (v - limit) n) (n == v) (version_of o n)
              ∙ ap (option_map version_row) (sym (next_versions now limit object o n))
        ] refl

    put_digits : nat_lt limit v ≡ false → version_of o 0 ≡ None → (d : Text)
        → (if same d (padded v) then Some row else version_row_of o (version_of_digits d))
        ≡ version_row_of (Some next_key) (version_of_digits d)
    put_digits all first d =
        elim (version_of_digits d) as (λ t. version_of_digits d ≡ t
        → (if same d (padded v) then Some row else version_row_of o t) ≡ version_row_of (Some next_key) t) [
          | None ↦ λ e. ap (λ b. if b then Some row else None) (no_digits d e)
          | Some n ↦ λ e.
              let told = laws.exact d n e in
              (λ i. if (ap (λ z. same z (padded v)) told.1 ∙ same_digits laws n v (wide n told.0) (wide v h)) i then
              Some row else version_row_of-some o n i)
              ∙ put_number (n == v) (version_of o n)
              ∙ ap (option_map version_row) (sym (next_versions now limit object o n ∙ unpruned all first n))
        ] refl

module _ (secrets : Map Key) (name object : Text) (now limit : ℕ) (laws : KeyLaws) where
  abbrev o : Option Key
  o = get secrets name

  abbrev written_key : Key
  written_key = with_version now limit object (key_or_new now o)

  abbrev number : ℕ
  number = (key_or_new now o).current + 1

  abbrev new_row : Row
  new_row = version_row (new_version now object)

  abbrev put_part : ByParts
  put_part = with_part (version_at secrets) name (padded number) new_row

  pruned_at : number ≤ greatest_version → without_parts_to put_part name (padded (number - limit))
      ≡ version_at (put secrets name written_key)
  pruned_at h = λ i p. at p i
    where
      at : (p : Text × Text) → without_parts_to put_part name (padded (number - limit)) p
          ≡ version_at (put secrets name written_key) p
      at p =
          elim (same p.0 name) as (λ b. same p.0 name ≡ b
          → (if b && is_le (text_cmp p.1 (padded (number - limit))) then None
          else (if b && same p.1 (padded number) then Some new_row else version_at secrets p))
          ≡ version_row_of (cond b (Some written_key) (get secrets p.0)) (version_of_digits p.1)) [
            | true ↦ λ is.
                ap (λ z. if is_le (text_cmp p.1 (padded (number - limit))) then None
                else (if same p.1 (padded number) then Some new_row else version_row_of (get secrets z)
                (version_of_digits p.1))) (same_true p.0 name is)
                ∙ at_digits now limit object o laws h p.1
            | false ↦ λ _. refl
          ] refl
          ∙ ap (λ k. version_row_of k (version_of_digits p.1)) (sym (get-put secrets name written_key p.0))

  put_at : number ≤ greatest_version → nat_lt limit number ≡ false → version_of o 0 ≡ None
      → put_part ≡ version_at (put secrets name written_key)
  put_at h all first = λ i p. at p i
    where
      at : (p : Text × Text) → put_part p ≡ version_at (put secrets name written_key) p
      at p =
          elim (same p.0 name) as (λ b. same p.0 name ≡ b
          → (if b && same p.1 (padded number) then Some new_row else version_at secrets p)
          ≡ version_row_of (cond b (Some written_key) (get secrets p.0)) (version_of_digits p.1)) [
            | true ↦ λ is.
                ap (λ z. if same p.1 (padded number) then Some new_row else version_row_of (get secrets z)
                (version_of_digits p.1)) (same_true p.0 name is)
                ∙ put_digits now limit object o laws h all first p.1
            | false ↦ λ _. refl
          ] refl
          ∙ ap (λ k. version_row_of k (version_of_digits p.1)) (sym (get-put secrets name written_key p.0))

  -- the rows of versions after the write
  versions-written : lacks line_feed name ≡ true → number ≤ greatest_version → version_of o 0 ≡ None → (q : Text)
      → (if nat_lt limit number then (if starts_with nat_eq q (versions_prefix name)
      && is_le (text_cmp q (version_key name (number - limit))) then None
      else (if same q (version_key name number) then Some new_row else at_parts (version_at secrets) q))
      else (if same q (version_key name number) then Some new_row else at_parts (version_at secrets) q))
      ≡ at_parts (version_at (put secrets name written_key)) q
  versions-written l h first q =
      elim (nat_lt limit number) as (λ p. nat_lt limit number ≡ p
      → (if p then (if starts_with nat_eq q (versions_prefix name)
      && is_le (text_cmp q (version_key name (number - limit))) then None
      else (if same q (version_key name number) then Some new_row else at_parts (version_at secrets) q))
      else (if same q (version_key name number) then Some new_row else at_parts (version_at secrets) q))
      ≡ at_parts (version_at (put secrets name written_key)) q) [
        | true ↦ λ _.
            ap (λ x. if starts_with nat_eq q (versions_prefix name)
            && is_le (text_cmp q (version_key name (number - limit))) then None else x)
            (at_parts-with_part (version_at secrets) name l (padded number) new_row q)
            ∙ at_parts-without_to put_part name l (padded (number - limit)) q
            ∙ ap (λ parts. at_parts parts q) (pruned_at h)
        | false ↦ λ all.
            at_parts-with_part (version_at secrets) name l (padded number) new_row q
            ∙ ap (λ parts. at_parts parts q) (put_at h all first)
      ] refl

  keys-written : (q : Text) → (if same q name then Some (key_row written_key) else option_map key_row (get secrets q))
      ≡ option_map key_row (get (put secrets name written_key) q)
  keys-written q = chosen (same q name) (get secrets q)
      ∙ ap (option_map key_row) (sym (get-put secrets name written_key q))
    where
      chosen : (b : Bool) (x : Option Key) → (if b then Some (key_row written_key) else option_map key_row x)
          ≡ option_map key_row (cond b (Some written_key) x)
      chosen true x = refl
      chosen false x = refl

-- ---- the table

module _ (t : Table) (b : Broker) (m : Mount) (name object : Text) (told : Tells of_secrets t b) (laws : KeyLaws) where
  abbrev over : Key
  over = key_or_new b.clock (get b.secrets name)

  abbrev kept : ℕ
  kept = versions_kept m over

  abbrev after : Table
  after = rows.rows_with_version t name (key_entry over) kept b.clock object

  -- what lies under the versions that go
  abbrev before : Table
  before = with_row (with_row t kind.KvVersion (version_key name (over.current + 1))
      (version_row (new_version b.clock object)))
      kind.KvKey name (key_entry_row (next_entry b.clock (key_entry over)))

  key_stays : (p : Bool) (q : Text)
      → (if p then without_upto before kind.KvVersion (versions_prefix name)
      (version_key name (over.current + 1 - kept)) else before) kind.KvKey q
      ≡ (if same q name then Some (key_row (with_version b.clock kept object over)) else t kind.KvKey q)
  key_stays true q = refl
  key_stays false q = refl

  version_stays : (p : Bool) (q : Text)
      → (if p then without_upto before kind.KvVersion (versions_prefix name)
      (version_key name (over.current + 1 - kept)) else before) kind.KvVersion q
      ≡ (if p then (if starts_with nat_eq q (versions_prefix name)
      && is_le (text_cmp q (version_key name (over.current + 1 - kept))) then None
      else (if same q (version_key name (over.current + 1)) then Some
      (version_row (new_version b.clock object)) else t kind.KvVersion q))
      else (if same q (version_key name (over.current + 1)) then Some
      (version_row (new_version b.clock object)) else t kind.KvVersion q))
  version_stays true q = refl
  version_stays false q = refl

  -- the rows are those of the next broker
  pub written_told : lacks line_feed name ≡ true → over.current + 1 ≤ greatest_version
      → version_of (get b.secrets name) 0 ≡ None
      → Tells of_secrets after (written b m name object over).next
  written_told l h first = secrets_by after (written b m name object over).next
      (λ q. key_stays (nat_lt kept (over.current + 1)) q
      ∙ ap (λ x. if same q name then Some (key_row (with_version b.clock kept object over)) else x)
      (told kind.KvKey q refl ∙ key_rows b q)
      ∙ keys-written b.secrets name object b.clock kept laws q)
      (λ q. version_stays (nat_lt kept (over.current + 1)) q
      ∙ ap (λ x. if nat_lt kept (over.current + 1)
      then (if starts_with nat_eq q (versions_prefix name)
      && is_le (text_cmp q (version_key name (over.current + 1 - kept))) then None
      else (if same q (version_key name (over.current + 1)) then Some
      (version_row (new_version b.clock object)) else x))
      else (if same q (version_key name (over.current + 1)) then Some
      (version_row (new_version b.clock object)) else x)) (told kind.KvVersion q refl
      ∙ version_rows b q)
      ∙ versions-written b.secrets name object b.clock kept laws l h first q)

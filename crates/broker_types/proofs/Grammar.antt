-- The texts that have seconds are those of the grammar.
use Rattle.std.proofs.Common.{◌≡◌, ◌≢◌, ◌≤◌, ◌⊎◌, ◌+◌, ◌-◌, ◌*◌, ◌==◌, ◌&&◌, ◌∷◌, ◌++◌, if◌then◌else◌, ℕ, suc, nat_le}
use Rattle.broker_types.specs.Words.{List, [], length, Bool, true, false, not, cond, Option, Some, None}
use Rattle.broker_types.specs.Words.{option_and_then, unwrap_or, All, sum_by, list_all, flat_map, is_ascii_digit}
use Rattle.broker_types.specs.Words.{digit_value, IsInRange, AllDigits, IsNumeral, digits_value, digits_value_after}
use Rattle.broker_types.specs.Words.{refl, sym, ◌∙◌, ap, subst, inl, inr, arith, append_assoc, nat_tests, sum_by-cons}
use Rattle.broker_types.specs.Words.{All-nil, All-cons, All-head, All-tail, digit_value_digit, false≢true, eqb-true}
use Rattle.broker_types.specs.Words.{none-some, same_Some, and-false, unit_of, group_end, groups, with_unit, at_most}
use Rattle.broker_types.specs.Words.{longest_duration, duration_of, TimeUnit, hours, minutes, seconds, unit_byte}
use Rattle.broker_types.specs.Words.{unit_seconds, Group, IsGroup, group_text, group_seconds, IsCount, IsSum}
use Rattle.broker_types.specs.Words.{IsDuration}
use Rattle.broker_types.proofs.Groups.{in_range}
use Rattle.broker_types.specs.DecimalLaws.{is_digit, digit_small, all_digits, digits_all}

-- ---- digits

in_digits : (c : ℕ) → is_ascii_digit c ≡ true → IsInRange 48 57 c
in_digits c h = grind (arith, nat_tests)

digit_is : (c : ℕ) → is_ascii_digit c ≡ true → c - 48 ≡ digit_value c
digit_is c h = let e = digit_value_digit c (in_digits c h) in omega (arith, e)

abbrev is_count : List ℕ → Bool
is_count s = not (length s == 0) && list_all is_ascii_digit s

not_empty : (n : ℕ) → not (suc n == 0) ≡ true
not_empty n = grind (arith, nat_tests)

count_numeral : (s : List ℕ) → is_count s ≡ true → IsNumeral 10 s
count_numeral [] h = absurd (false≢true h)
count_numeral (c ∷ cs) h = (
  omega arith,
  all_digits (c ∷ cs)
      (sym (ap (λ b. b && list_all is_ascii_digit (c ∷ cs)) (not_empty (length cs))) ∙ h),
)

numeral_count : (s : List ℕ) → IsNumeral 10 s → is_count s ≡ true
numeral_count [] h = absurd (omega (arith, h.0))
numeral_count (c ∷ cs) h = ap (λ b. b && list_all is_ascii_digit (c ∷ cs)) (not_empty (length cs))
    ∙ digits_all (c ∷ cs) h.1

-- ---- units

abbrev IsUnitByte : ℕ → ℕ → Type 0
IsUnitByte c u = (x : TimeUnit) × (c ≡ unit_byte x) × (u ≡ unit_seconds x)

unit_known : (c u : ℕ) → unit_of c ≡ Some u → IsUnitByte c u
unit_known c u h =
    elim (c == 104) as (λ b. (c == 104) ≡ b
    → cond b (Some 3600) (cond (c == 109) (Some 60) (cond (c == 115) (Some 1) None)) ≡ Some u → IsUnitByte c u) [
      | true ↦ λ e g. (hours, eqb-true c 104 e, sym (same_Some _ _ g))
      | false ↦ λ _ g. elim (c == 109) as (λ b. (c == 109) ≡ b
          → cond b (Some 60) (cond (c == 115) (Some 1) None) ≡ Some u → IsUnitByte c u) [
            | true ↦ λ e f. (minutes, eqb-true c 109 e, sym (same_Some _ _ f))
            | false ↦ λ _ f. elim (c == 115) as (λ b. (c == 115) ≡ b → cond b (Some 1) None ≡ Some u → IsUnitByte c u) [
              | true ↦ λ e k. (seconds, eqb-true c 115 e, sym (same_Some _ _ k))
              | false ↦ λ _ k. absurd (none-some _ k)
            ] refl f
          ] refl g
    ] refl h

no_digit : (x : TimeUnit) → is_ascii_digit (unit_byte x) ≡ false
no_digit hours = refl
no_digit minutes = refl
no_digit seconds = refl

at_unit : (x : TimeUnit) (sum v : ℕ) (rest : List ℕ)
    → groups sum (Some v) (unit_byte x ∷ rest) ≡ groups (sum + v * unit_seconds x) None rest
at_unit hours sum v rest = refl
at_unit minutes sum v rest = refl
at_unit seconds sum v rest = refl

-- ---- what the grammar has is read

through_digits : (ds : List ℕ) (sum d : ℕ) (rest : List ℕ) → AllDigits 10 ds
    → groups sum (Some d) (ds ++ rest) ≡ groups sum (Some (digits_value_after 10 d ds)) rest
through_digits [] sum d rest h = refl
through_digits (c ∷ ds) sum d rest h =
    let digit = is_digit c h.0 in
    ap (λ b. option_and_then (λ p. groups p.0 p.1 (ds ++ rest))
    (if b then Some (sum, Some (d * 10 + (c - 48))) else group_end sum (Some d) (unit_of c))) digit
    ∙ ap (λ k. groups sum (Some (d * 10 + k)) (ds ++ rest)) (digit_is c digit)
    ∙ through_digits ds sum (d * 10 + digit_value c) rest h.1

through_numeral : (ds : List ℕ) (sum : ℕ) (rest : List ℕ) → IsNumeral 10 ds
    → groups sum None (ds ++ rest) ≡ groups sum (Some (digits_value 10 ds)) rest
through_numeral [] sum rest h = absurd (omega (arith, h.0))
through_numeral (c ∷ ds) sum rest h =
    let digit = is_digit c h.1.0 in
    ap (λ b. option_and_then (λ p. groups p.0 p.1 (ds ++ rest))
    (if b then Some (sum, Some (0 * 10 + (c - 48))) else group_end sum None (unit_of c))) digit
    ∙ ap (λ k. groups sum (Some (0 * 10 + k)) (ds ++ rest)) (digit_is c digit)
    ∙ through_digits ds sum (0 * 10 + digit_value c) rest h.1.1

through_group : (g : Group) (sum : ℕ) (rest : List ℕ) → IsGroup g
    → groups sum None (group_text g ++ rest) ≡ groups (sum + group_seconds g) None rest
through_group g sum rest h =
    ap (groups sum None) (append_assoc g.digits (unit_byte g.unit ∷ []) rest)
    ∙ through_numeral g.digits sum (unit_byte g.unit ∷ rest) h
    ∙ at_unit g.unit sum (digits_value 10 g.digits) rest

total_cons : (g : Group) (gs : List Group) → sum_by group_seconds (g ∷ gs) ≡ group_seconds g + sum_by group_seconds gs
total_cons g gs = sum_by-cons group_seconds g gs

through_groups : (gs : List Group) (sum : ℕ) → All IsGroup gs
    → groups sum None (flat_map group_text gs) ≡ Some (sum + sum_by group_seconds gs)
through_groups [] sum h = let e : sum ≡ sum + 0 = omega arith in ap Some e
through_groups (g ∷ gs) sum h =
    let e : sum + group_seconds g + sum_by group_seconds gs ≡ sum + sum_by group_seconds (g ∷ gs) =
    omega (arith, total_cons g gs) in
    through_group g sum (flat_map group_text gs) (All-head IsGroup g gs h)
    ∙ through_groups gs (sum + group_seconds g) (All-tail IsGroup g gs h)
    ∙ ap Some e

-- ---- what is read the grammar has

-- whole groups from here on
pub record AreGroups (sum : ℕ) (text : List ℕ) (n : ℕ) : Type 0 where
  pub parts : List Group
  pub each : All IsGroup parts
  pub joined : text ≡ flat_map group_text parts
  pub total : n ≡ sum + sum_by group_seconds parts

-- the digits and the unit that end a group, then whole groups
pub record AreGroupsAfter (sum d : ℕ) (text : List ℕ) (n : ℕ) : Type 0 where
  pub digits : List ℕ
  pub are_digits : AllDigits 10 digits
  pub unit : TimeUnit
  pub parts : List Group
  pub each : All IsGroup parts
  pub joined : text ≡ digits ++ unit_byte unit ∷ flat_map group_text parts
  pub total : n ≡ sum + digits_value_after 10 d digits * unit_seconds unit + sum_by group_seconds parts

abbrev Reads : ℕ → Option ℕ → List ℕ → ℕ → Type 0
Reads sum None text n = AreGroups sum text n
Reads sum (Some d) text n = AreGroupsAfter sum d text n

one_digit : (sum : ℕ) (begun : Option ℕ) (c : ℕ) (cs : List ℕ) (n : ℕ) → is_ascii_digit c ≡ true
    → AreGroupsAfter sum (unwrap_or begun 0 * 10 + (c - 48)) cs n
    → Reads sum begun (c ∷ cs) n
one_digit sum None c cs n digit r =
    let g : Group = record { digits = c ∷ r.digits; unit = r.unit } in
    let value : digits_value_after 10 (0 * 10 + (c - 48)) r.digits ≡ digits_value 10 (c ∷ r.digits) =
    ap (λ k. digits_value_after 10 (0 * 10 + k) r.digits) (digit_is c digit) in
    let scaled : digits_value_after 10 (0 * 10 + (c - 48)) r.digits * unit_seconds r.unit ≡ group_seconds g =
    ap (λ k. k * unit_seconds r.unit) value in
    record {
      parts = g ∷ r.parts;
      each = All-cons IsGroup g r.parts (omega arith, (digit_small c digit, r.are_digits)) r.each;
      joined = ap (λ t. c ∷ t) r.joined
          ∙ sym (append_assoc (c ∷ r.digits) (unit_byte r.unit ∷ []) (flat_map group_text r.parts));
      total = r.total
          ∙ (let e : sum + digits_value_after 10 (0 * 10 + (c - 48)) r.digits * unit_seconds r.unit
          + sum_by group_seconds r.parts
          ≡ sum + sum_by group_seconds (g ∷ r.parts) = omega (arith, total_cons g r.parts, scaled) in e);
    }
one_digit sum (Some d) c cs n digit r = record {
  digits = c ∷ r.digits;
  are_digits = (digit_small c digit, r.are_digits);
  unit = r.unit;
  parts = r.parts;
  each = r.each;
  joined = ap (λ t. c ∷ t) r.joined;
  total = r.total ∙ ap (λ k. sum + digits_value_after 10 (d * 10 + k) r.digits * unit_seconds r.unit
      + sum_by group_seconds r.parts) (digit_is c digit);
}

one_unit : (sum d c u : ℕ) (cs : List ℕ) (n : ℕ) → unit_of c ≡ Some u → AreGroups (sum + d * u) cs n
    → AreGroupsAfter sum d (c ∷ cs) n
one_unit sum d c u cs n h r =
    let x = unit_known c u h in
    record {
      digits = [];
      are_digits = tt;
      unit = x.0;
      parts = r.parts;
      each = r.each;
      joined = (λ i. x.1 i ∷ r.joined i);
      total = r.total ∙ ap (λ k. sum + d * k + sum_by group_seconds r.parts) x.2;
    }

reads : (cs : List ℕ) (sum : ℕ) (begun : Option ℕ) (n : ℕ) → groups sum begun cs ≡ Some n → Reads sum begun cs n
reads [] sum None n e =
    record { parts = []; each = All-nil IsGroup; joined = refl; total = let f = same_Some _ _ e in omega (arith, f) }
reads [] sum (Some d) n e = absurd (none-some _ e)
reads (c ∷ cs) sum begun n e =
    elim (is_ascii_digit c)
    as (λ b. is_ascii_digit c ≡ b
    → option_and_then (λ p. groups p.0 p.1 cs)
    (if b then Some (sum, Some (unwrap_or begun 0 * 10 + (c - 48))) else group_end sum begun (unit_of c))
    ≡ Some n → Reads sum begun (c ∷ cs) n) [
      | true ↦ λ digit f. one_digit sum begun c cs n digit (reads cs sum (Some (unwrap_or begun 0 * 10 + (c - 48))) n f)
      | false ↦ λ _ f. elim begun as (λ o. option_and_then (λ p. groups p.0 p.1 cs) (group_end sum o (unit_of c))
          ≡ Some n → Reads sum o (c ∷ cs) n) [
            | None ↦ λ g. absurd (none-some _ g)
            | Some d ↦ λ g. elim (unit_of c)
                as (λ o. unit_of c ≡ o → option_and_then (λ p. groups p.0 p.1 cs) (group_end sum (Some d) o) ≡ Some n
                → AreGroupsAfter sum d (c ∷ cs) n) [
                  | None ↦ λ _ k. absurd (none-some _ k)
                  | Some u ↦ λ is k. one_unit sum d c u cs n is (reads cs (sum + d * u) None n k)
                ] refl g
          ] f
    ] refl e

-- ---- durations

at_most_is : (o : Option ℕ) (n : ℕ) → at_most o ≡ Some n → (o ≡ Some n) × (n ≤ longest_duration)
at_most_is None n e = absurd (none-some _ e)
at_most_is (Some m) n e =
    elim (nat_le m 4294967295) as (λ b. nat_le m 4294967295 ≡ b → cond b (Some m) None ≡ Some n → (Some m ≡ Some n)
    × (n ≤ 4294967295)) [
      | true ↦ λ t f. (
        f,
        let fits : m ≤ 4294967295 = grind (arith, nat_tests) in
            subst (λ k. k ≤ 4294967295) (same_Some _ _ f) fits,
      )
      | false ↦ λ _ f. absurd (none-some _ f)
    ] refl e

count_read : (s : List ℕ) → IsNumeral 10 s → groups 0 None (with_unit s) ≡ Some (digits_value 10 s)
count_read s h =
    let value : 0 + digits_value 10 s * 1 ≡ digits_value 10 s = omega arith in
    ap (λ b. groups 0 None (if b then s ++ 115 ∷ [] else s)) (numeral_count s h)
    ∙ through_numeral s 0 (115 ∷ []) h
    ∙ at_unit seconds 0 (digits_value 10 s) []
    ∙ ap Some value

pub of_duration : (s : List ℕ) (n : ℕ) → duration_of s ≡ Some n → IsDuration s n
of_duration s n e =
    elim (is_count s) as (λ b. is_count s ≡ b → IsDuration s n) [
      | true ↦ λ t.
          let h = count_numeral s t in
          let r = at_most_is (Some (digits_value 10 s)) n (sym (ap at_most (count_read s h)) ∙ e) in
          record { form = inl (inr (record { numeral = h; value = sym (same_Some _ _ r.0) })); fits = r.1 }
      | false ↦ λ t.
          let r = at_most_is (groups 0 None s) n
          (sym (ap (λ b. at_most (groups 0 None (if b then s ++ 115 ∷ [] else s))) t) ∙ e) in
          let whole = reads s 0 None n r.0 in
          record { form = by whole.parts whole.each whole.joined whole.total; fits = r.1 }
    ] refl
  where
    by : (parts : List Group) → All IsGroup parts → s ≡ flat_map group_text parts → n ≡ 0 + sum_by group_seconds parts
        → (((s ≡ []) × (n ≡ 0)) ⊎ IsCount s n) ⊎ IsSum s n
    by [] each joined total = inl (inl (joined, let f : n ≡ 0 = omega (arith, total) in f))
    by (g ∷ gs) each joined total = inr
        (record { parts = g ∷ gs; some = λ f. absurd (cc); each = each; joined = joined; total = omega (arith, total) })

no_count : (ds : List ℕ) (x : TimeUnit) (rest : List ℕ)
    → list_all is_ascii_digit ((ds ++ unit_byte x ∷ []) ++ rest) ≡ false
no_count [] x rest = ap (λ b. b && list_all is_ascii_digit rest) (no_digit x)
no_count (d ∷ ds) x rest = ap (λ b. is_ascii_digit d && b) (no_count ds x rest) ∙ and-false (is_ascii_digit d)

sum_read : (gs : List Group) → gs ≢ [] → All IsGroup gs
    → groups 0 None (with_unit (flat_map group_text gs)) ≡ Some (0 + sum_by group_seconds gs)
sum_read [] some each = absurd (some refl)
sum_read (g ∷ gs) some each =
    let s : List ℕ = flat_map group_text (g ∷ gs) in
    let fails : is_count s ≡ false = ap (λ b. not (length s == 0) && b)
    (no_count g.digits g.unit (flat_map group_text gs)) ∙ and-false (not (length s == 0)) in
    ap (λ b. groups 0 None (if b then s ++ 115 ∷ [] else s)) fails ∙ through_groups (g ∷ gs) 0 each

pub to_duration : (s : List ℕ) (n : ℕ) → IsDuration s n → duration_of s ≡ Some n
to_duration s n d = elim d.form [
  | inl short ↦ elim short [
    | inl none ↦ ap duration_of none.0 ∙ ap Some (sym none.1)
    | inr count ↦
        ap at_most (count_read s count.numeral ∙ ap Some (sym count.value)) ∙ in_range n d.fits
  ]
  | inr sum ↦
      let total : 0 + sum_by group_seconds sum.parts ≡ n = omega (arith, sum.total) in
      ap duration_of sum.joined ∙ ap at_most (sum_read sum.parts sum.some sum.each ∙ ap Some total) ∙ in_range n d.fits
]

pub none_of_duration : (s : List ℕ) → duration_of s ≡ None → (n : ℕ) → IsDuration s n → ⊥
none_of_duration s none n d = absurd (none-some _ (sym none ∙ to_duration s n d))

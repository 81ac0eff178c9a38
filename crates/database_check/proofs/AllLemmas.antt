-- What is told of several rows in trouble.
use Rattle.std.proofs.Common.{◌≡◌, ◌<◌, ◌≤◌, ◌+◌, ◌++◌, ◌∷◌, ◌⊎◌, [], ℕ, List, All, Some}
use Rattle.std.proofs.Common.{length, get_or, nat_lt, sym, ap, subst, ◌∙◌, arith, inl, inr}
use Rattle.std.proofs.Math.Nat.{eq-or-lt_of_le}
use Rattle.std.proofs.Math.Seq.{get_or-append_seam}
use Rattle.std.proofs.lemmas.Bool.{ltb-true}
use Rattle.std.proofs.lemmas.List.{get_or_append_left, get_or_default, length-append}
use Rattle.records.specs.Words.{Text, Rows, table_of, AreUpgraded}
use Rattle.records.specs.declared.kind.Kind.{Kind}
use Rattle.records.specs.declared.row.Row.{Row}
use Rattle.soundness.specs.Laws.{BrokenRowsAreOfNoBroker}
use Rattle.soundness.specs.Words.{Breaks, IsListed, Tells, WasPassed}
use Rattle.soundness.specs.declared.trouble.Trouble.{Trouble}
use Rattle.database_check.specs.Findings.{OpenAsABroker, OpenInTrouble, TellOf}
use Rattle.database_check.specs.Naming.{IsNumbered, TellsOf}
use Rattle.database_check.specs.declared.all.Defects.{Defects}
use Rattle.database_check.specs.declared.defect.Defect.{Defect}
use Rattle.database_check.proofs.FindingLemmas.{opens_as_none}

-- the defects tell of the first of the rows
pub record TellFirst (rows : Rows) (n : ℕ) (ts : List Trouble) (ds : List Defect) : Type 0 where
  pub as_many : length ds ≡ n
  pub each : (i : ℕ) (t : Trouble) (d : Defect) → i < n → TellsOf rows (get_or ts i t) (get_or ds i d)

pub tell_none : (rows : Rows) (ts : List Trouble) (ds : List Defect) → ds ≡ [] → TellFirst rows 0 ts ds
tell_none rows ts ds none =
    record { as_many = ap length none; each = λ i t d low. absurd (omega (arith, low)) }

-- and of one more
pub tell_more : (rows : Rows) (n : ℕ) (ts : List Trouble) (ds new : List Defect) → TellFirst rows n ts ds
    → n < length ts → (d : Defect) → new ≡ ds ++ d ∷ [] → (t : Trouble) → t ≡ get_or ts n t → TellsOf rows t d
    → TellFirst rows (n + 1) ts new
tell_more rows n ts ds new so below d pushed t at tells =
    let many = so.as_many in
    record {
      as_many =
          let long : length new ≡ length ds + 1 = ap length pushed ∙ length-append ds (d ∷ []) in
          omega (arith, many, long);
      each = λ i u e low.
          let upto : i ≤ n = omega (arith, low) in
          subst (λ l. TellsOf rows (get_or ts i u) (get_or l i e)) (sym pushed)
          (elim (eq-or-lt_of_le upto) [
            | inl same ↦
                let here : get_or (ds ++ d ∷ []) i e ≡ d =
                ap (λ k. get_or (ds ++ d ∷ []) k e) (same ∙ sym many) ∙ get_or-append_seam ds d [] e in
                let row : t ≡ get_or ts i u =
                at ∙ get_or_default ts n t u below ∙ ap (λ k. get_or ts k u) (sym same) in
                subst (λ (x : Trouble × Defect). TellsOf rows x.0 x.1) (λ j. (row j, sym here j)) tells
            | inr less ↦
                let short : i < length ds = omega (arith, less, many) in
                subst (TellsOf rows (get_or ts i u)) (sym (get_or_append_left ds (d ∷ []) e i short))
                (so.each i u e less)
          ]);
    }

-- and so of all
pub told_all : (rows : Rows) (n : ℕ) (ts : List Trouble) (ds : List Defect) → length ts ≤ n → n ≤ length ts
    → TellFirst rows n ts ds → TellOf rows ts ds
told_all rows n ts ds above below so =
    let many = so.as_many in
    record {
      as_many = omega (arith, many, above, below);
      each = λ i t d low. so.each i t d (omega (arith, low, above));
    }

-- ---- what a check of all rows finds

module _ (old rows now : Rows) (same : now ≡ rows) (up : AreUpgraded (table_of old) (table_of rows))
    (law : BrokenRowsAreOfNoBroker) (ts : List Trouble) (some : 0 < length ts) (broken : All (Tells rows) ts) where
  break : All (λ t. Breaks (table_of rows) t) ts
  break i d below = (broken i d below).breaks

  -- no opening makes rows of a broker of them, since the first in trouble breaks a rule
  no_broker : OpenAsABroker old → ⊥
  no_broker = by ts some broken
    where
      by : (us : List Trouble) → 0 < length us → All (Tells rows) us → OpenAsABroker old → ⊥
      by [] none all = absurd (omega (arith, none))
      by (u ∷ us) one all = opens_as_none old rows up (law rows u (all 0 u (omega arith)).breaks)

  pub found_all : (es : List Trouble) → es ≡ ts → (ds : List Defect)
      → (All (IsNumbered now) es → TellOf now es ds) → (defects : Defects) → defects.list.items ≡ ds
      → (many : ℕ) → many ≡ length ts → defects.are_all ≡ nat_lt many 100000
      → (length ts < 100000 → (k : Kind) (q : Text) (row : Row) → table_of rows k q ≡ Some row
      → IsListed ts (k, q) ⊎ WasPassed (table_of rows) ((k, q), row))
      → OpenInTrouble old defects
  found_all es shown ds told defects is_list many is_many is_all whole =
      record {
        none = no_broker;
        rows = rows;
        upgraded = up;
        troubles = ts;
        break = break;
        tell = subst (TellOf rows ts) (sym is_list)
            (subst (λ (x : Rows × List Trouble). TellOf x.0 x.1 ds) (λ i. (same i, shown i))
            (told (subst (λ (x : Rows × List Trouble). All (IsNumbered x.0) x.1) (λ i. (sym same i, sym shown i))
            (λ i d below. (broken i d below).number))));
        whole = λ all. whole
            (let few : many < 100000 = ltb-true many 100000 (sym is_all ∙ all) in
            omega (arith, few, is_many));
      }

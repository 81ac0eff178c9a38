-- The oldest of versions in the order of their numbers.
use Rattle.std.proofs.Common.{◌≡◌, ◌≢◌, ◌<◌, ◌≤◌, ◌∷◌, if◌then◌else◌, [], ℕ, List, map, nat_lt, true, false, cond, Some}
use Rattle.records.specs.Words.{None, T, nat_cmp, is_lt, eq_by_cmp, is_sorted, below_all, refl, sym, ◌∙◌, ap, subst}
use Rattle.records.specs.Words.{arith, eqb-true, ltb-true, none-some, Key, Version, eqb_self}
use Rattle.std.specs.FinMap as fin
use Rattle.broker_types.specs.TestLaws.{T_left, T_right}
use Rattle.records.specs.TableLaws.{eq-nat_cmp}
use Rattle.kv2.specs.Words.{IsOldest, metadata_of, version_metadata, oldest_of}

less : (m n : ℕ) → T (is_lt (nat_cmp m n)) → m < n
less m n h = grind arith

-- what is found among entries above a number has a number above it
above : (m n : ℕ) (v : Version) (es : List (ℕ × Version)) → T (below_all nat_cmp m es) → fin.find nat_cmp n es ≡ Some v
    → m < n
above m n v [] h is = absurd (none-some v is)
above m n v (e ∷ es) h is =
    elim (eq_by_cmp nat_cmp n e.0) as (λ b. eq_by_cmp nat_cmp n e.0 ≡ b
    → cond b (Some e.1) (fin.find nat_cmp n es) ≡ Some v → m < n) [
      | true ↦ λ met _.
          let one : n ≡ e.0 = eqb-true n e.0 (sym (eq-nat_cmp n e.0) ∙ met) in
          subst (λ z. m < z) (sym one) (less m e.0 (T_left _ _ h))
      | false ↦ λ _ rest. above m n v es (T_right _ _ h) rest
    ] refl is

-- the first has the smallest number, and is there
first_is_least : (e : ℕ × Version) (es : List (ℕ × Version)) → T (is_sorted nat_cmp (e ∷ es)) → (n : ℕ) (v : Version)
    → fin.find nat_cmp n (e ∷ es) ≡ Some v → e.0 ≤ n
first_is_least e es s n v is =
    elim (eq_by_cmp nat_cmp n e.0) as (λ b. eq_by_cmp nat_cmp n e.0 ≡ b
    → cond b (Some e.1) (fin.find nat_cmp n es) ≡ Some v → e.0 ≤ n) [
      | true ↦ λ met _.
          let one : n ≡ e.0 = eqb-true n e.0 (sym (eq-nat_cmp n e.0) ∙ met) in
          omega (arith, one)
      | false ↦ λ _ rest. let far = above e.0 n v es (T_left _ _ s) rest in omega (arith, far)
    ] refl is

first_is_there : (e : ℕ × Version) (es : List (ℕ × Version)) → fin.find nat_cmp e.0 (e ∷ es) ≢ None
first_is_there e es none =
    none-some e.1 (sym none ∙ ap (λ b. cond b (Some e.1) (fin.find nat_cmp e.0 es)) (eq-nat_cmp e.0 e.0 ∙ eqb_self e.0))

module _ (k : Key) where
  at : (es : List (ℕ × Version)) → fin.entries k.versions ≡ es → T (is_sorted nat_cmp es)
      → IsOldest k (oldest_of (map version_metadata es))
  at [] is s = record {
    smallest = λ n v here. omega arith;
    kept = λ some. absurd (some refl);
    first = λ n v _ here. absurd
        (none-some v (sym (ap (fin.find nat_cmp n) is) ∙ sym (fin.get-entries k.versions n) ∙ here));
  }
  at (e ∷ es) is s =
      elim (nat_lt 1 e.0) as (λ b. nat_lt 1 e.0 ≡ b → IsOldest k (if b then e.0 else 0)) [
        | true ↦ λ big. record {
          smallest = λ n v here. first_is_least e es s n v (found n ∙ here);
          kept = λ _. (ltb-true 1 e.0 big, there);
          first = λ n v zero _. let b = ltb-true 1 e.0 big in absurd (omega (arith, b, zero));
        }
        | false ↦ λ small. record {
          smallest = λ n v _. omega arith;
          kept = λ some. absurd (some refl);
          first = λ n v _ _. (e.0, not_above small, there);
        }
      ] refl
    where
      found : (n : ℕ) → fin.find nat_cmp n (e ∷ es) ≡ fin.get k.versions n
      found n = ap (fin.find nat_cmp n) (sym is) ∙ sym (fin.get-entries k.versions n)

      there : fin.get k.versions e.0 ≢ None
      there none = first_is_there e es (found e.0 ∙ none)

      not_above : nat_lt 1 e.0 ≡ false → e.0 ≤ 1
      not_above h = grind arith

-- what is told as the oldest version is the smallest that is kept, if above 1
pub oldest_is_smallest : (k : Key) → IsOldest k (metadata_of k).oldest
oldest_is_smallest k = at k (fin.entries k.versions) refl (fin.entries_sorted k.versions)

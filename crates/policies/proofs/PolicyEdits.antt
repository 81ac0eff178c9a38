-- Rows of policies, edited.
use Rattle.std.proofs.Common.{◌≡◌, ◌==◌, ◌&&◌, if◌then◌else◌, Bool, true, false, cond, Some, None, option_map, Result}
use Rattle.records.specs.Words.{Ok, refl, sym, ◌∙◌, ap, subst, Map, get, put, without, get-put, get-without, ◌>>=◌}
use Rattle.records.specs.Words.{Ends, Text, same, Refusal, kind_number, same_kind, of_policies, KeepsOthers, policy_row}
use Rattle.records.specs.Words.{Table, with_row, without_row, false≢true}
use Rattle.records.specs.declared.kind.Kind.{Kind}
use Rattle.records.specs.declared.kind.Kind.TheVariants as kind
use Rattle.policies.specs.Words.{Row, ArePolicies}

-- a step that answered, and then the value

pub ends_then : {A X Y : Type 0} (r : Result A Refusal) (a : A) (P : X → Y → Type 0) (Q : Type 0) (x : X) (y : Y)
    → r ≡ Ok a → P x y
    → Ends P Q (Ok x) (r >>= (λ _. Ok y))
ends_then r a P Q x y is p = subst (λ z. Ends P Q (Ok x) (z >>= (λ _. Ok y))) (sym is) p

-- ---- rows of other kinds

apart : (k : Kind) → of_policies k ≡ false → (kind_number k == kind_number kind.Policy) ≡ false
apart k h = elim (kind_number k == kind_number kind.Policy) as
    (λ v. (kind_number k == kind_number kind.Policy) ≡ v → v ≡ false) [
      | true ↦ λ is. absurd (false≢true (sym h ∙ ap of_policies (same_kind k kind.Policy is)))
      | false ↦ λ _. refl
    ] refl

module _ (old new : Table) (name : Text) where
  pub others_put : (r : Row) → new ≡ with_row old kind.Policy name r → KeepsOthers of_policies old new
  others_put r e k q other = (λ i. e i k q) ∙ ap (λ v. if v && same q name then Some r else old k q) (apart k other)

  pub others_gone : new ≡ without_row old kind.Policy name → KeepsOthers of_policies old new
  others_gone e k q other = (λ i. e i k q) ∙ ap (λ v. if v && same q name then None else old k q) (apart k other)

  -- ---- rows of policies

  pub policies_put : (policies : Map Text) (text : Text) → new ≡ with_row old kind.Policy name (policy_row text)
      → ArePolicies old policies
      → ArePolicies new (put policies name text)
  policies_put policies text e are q =
      (λ i. e i kind.Policy q) ∙ one (same q name) ∙ sym (ap (option_map policy_row) (get-put policies name text q))
    where
      one : (v : Bool) → (if v then Some (policy_row text) else old kind.Policy q)
          ≡ option_map policy_row (cond v (Some text) (get policies q))
      one true = refl
      one false = are q

  pub policies_gone : (policies : Map Text) → new ≡ without_row old kind.Policy name → ArePolicies old policies
      → ArePolicies new (without policies name)
  policies_gone policies e are q =
      (λ i. e i kind.Policy q) ∙ one (same q name) ∙ sym (ap (option_map policy_row) (get-without policies name q))
    where
      one : (v : Bool) → (if v then None else old kind.Policy q) ≡ option_map policy_row (cond v None (get policies q))
      one true = refl
      one false = are q

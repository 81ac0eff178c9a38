-- The rows of policies that a broker has tell its policies, and they alone do (this project's).
use Rattle.std.proofs.Common.{◌≡◌, option_map, refl, sym, ◌∙◌}
use Rattle.records.specs.Words.{false≢true, Broker, get, Text, of_policies, Tells, policy_row, rows_of, Table}
use Rattle.records.specs.declared.kind.Kind.TheVariants as kind
use Rattle.policies.specs.PolicyRows.{ArePolicies}

policy_at : (b : Broker) (name : Text) → rows_of b kind.Policy name ≡ option_map policy_row (get b.policies name)
unfolding rows_of
policy_at b name = refl

module _ (rows : Table) (b : Broker) where
  -- the rows of a broker's policies are those of its policies
  pub policies_told : Tells of_policies rows b → ArePolicies rows b.policies
  policies_told told name = told kind.Policy name refl ∙ policy_at b name

  -- rows that are those of the broker's policies are the broker's
  pub told_policies : ArePolicies rows b.policies → Tells of_policies rows b
  told_policies are kind.Policy name inside = are name ∙ sym (policy_at b name)
  told_policies are kind.Clock name inside = absurd (false≢true inside)
  told_policies are kind.Used name inside = absurd (false≢true inside)
  told_policies are kind.Token name inside = absurd (false≢true inside)
  told_policies are kind.Accessor name inside = absurd (false≢true inside)
  told_policies are kind.Cubby name inside = absurd (false≢true inside)
  told_policies are kind.Lease name inside = absurd (false≢true inside)
  told_policies are kind.Credential name inside = absurd (false≢true inside)
  told_policies are kind.KvKey name inside = absurd (false≢true inside)
  told_policies are kind.KvVersion name inside = absurd (false≢true inside)
  told_policies are kind.Waiting name inside = absurd (false≢true inside)
  told_policies are kind.Mount name inside = absurd (false≢true inside)
  told_policies are kind.Role name inside = absurd (false≢true inside)

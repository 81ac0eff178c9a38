-- The names that specs and proofs cite most, passed on from one place. Declares nothing.
-- types of the crates below, and their variants
pub use Rattle.records.specs.declared.row.Row.{Row}
-- types of this crate, for its proofs alone
pub use Rattle.policies.specs.declared.capability.Capability.{Capability}
pub use Rattle.policies.specs.declared.pattern.Pattern.{Pattern}
pub use Rattle.policies.specs.declared.pattern.Pattern.TheVariants.{Exact, Prefix}
-- definitions
pub use Rattle.policies.specs.Allows.{chosen, is_granted, is_named, is_said}
unfoldable pub use Rattle.policies.specs.Allows.{allows}
pub use Rattle.policies.specs.CapabilityWords.{is_deny, is_grant}
pub use Rattle.policies.specs.Grants.{grants}
unfoldable pub use Rattle.policies.specs.Grants.{rules_named, rules_of}
pub use Rattle.policies.specs.PatternPlaces.{best_allows, exact_place, place, prefix_place, step, tried_text}
unfoldable pub use Rattle.policies.specs.PatternPlaces.{better}
pub use Rattle.policies.specs.Patterns.{beginnings, same_pattern, tried, with_slash}
pub use Rattle.policies.specs.Policies.{default, fixed, is_root, listed, may_delete, may_set, root, text_of}
pub use Rattle.policies.specs.PolicyRows.{all_names, ArePolicies, ArePoliciesAt, GivesRules, IsPolicyAt, IsReadable}
pub use Rattle.policies.specs.PolicyRows.{IsUnreadable, kept_rules, with_name}
pub use Rattle.policies.specs.PolicyTexts.{are_capabilities, are_known, ends_in_star, policy_forms, rule_in, rules_in}
pub use Rattle.policies.specs.PolicyTexts.{word}
unfoldable pub use Rattle.policies.specs.PolicyTexts.{paths_of, pattern_of, policy_of, words_of}
pub use Rattle.policies.specs.Rules.{Rule, Rules}
-- laws
pub use Rattle.policies.specs.Laws.{IsGranted, IsLongest, Says}
pub use Rattle.policies.specs.PolicyLaws.{first_policy, one_policy}
pub use Rattle.policies.specs.SoundLaws.{deleted_sound, policies_evolve, set_sound}
pub use Rattle.policies.specs.TellLaws.{policies_told, told_policies}

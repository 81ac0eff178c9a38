use Rattle.records.specs.Words.{◌∙◌, subst, sym, unwrap_or, IsKeyInRange, IsWide}
use Rattle.kv2.proofs.Described.{described_in_range}
use Rattle.kv2.proofs.own_settings.described.Goals as goal

pub returns-clause-key : goal.returns-clause-key
returns-clause-key c =
    let cas = c.unwrap_or.ensures ∙ (λ i. unwrap_or (c.given.view_is i).cas_required (c.key.view_is i).cas_required) in
    let max = c.count_or.ensures.value
    ∙ (λ i. unwrap_or (c.given.view_is i).max_versions (c.key.view_is i).max_versions) in
    let metadata = c.metadata_or.ensures
    ∙ (λ i. unwrap_or (c.given.view_is i).custom_metadata (c.key.view_is i).custom_metadata) in
    λ i. record {
      current = (c.key.view_is i).current;
      created = (c.key.view_is i).created;
      updated = c.args.now;
      cas_required = cas i;
      max_versions = max i;
      custom_metadata = metadata i;
    }

pub returns-clause-in_range : goal.returns-clause-in_range
returns-clause-in_range c moment range =
    let max = c.count_or.ensures.value
    ∙ (λ i. unwrap_or (c.given.view_is i).max_versions (c.key.view_is i).max_versions) in
    subst IsKeyInRange (sym (returns-clause-key c))
    (described_in_range c.args.now c.args.given c.args.key moment range c.requires
    (subst IsWide max c.count_or.ensures.wide))

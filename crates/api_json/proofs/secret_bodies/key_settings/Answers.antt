use Rattle.broker_types.specs.Words.{sym, ◌∙◌}
use Rattle.broker_types.specs.declared.refusal.Field.TheVariants as field
use Rattle.broker_types.specs.RefuseLaws.{unless_ok}
use Rattle.api_json.specs.Words.{invalid, members_of}
use Rattle.api_json.proofs.KeptCustom.{custom_kept}
use Rattle.api_json.proofs.KeptObjects.{given_members}
use Rattle.api_json.proofs.secret_bodies.key_settings.Goals as goal

pub returns-clause-storable : goal.returns-clause-storable
returns-clause-storable c bytes fits is =
    let ms = members_of c.args.body.now in
    let accepted = unless_ok c.is_custom.result (invalid field.CustomMetadata) _ c.in_ok-unless.ensures in
    record {
      custom_metadata = λ es given.
          custom_kept bytes ms field.CustomMetadata c.in_ok-custom_metadata.custom_metadata es fits
          (given_members bytes ms is)
          c.in_ok-custom_metadata.ensures given (sym c.is_custom.ensures.value ∙ accepted)
          (c.is_custom.ensures.accepted accepted es given);
    }

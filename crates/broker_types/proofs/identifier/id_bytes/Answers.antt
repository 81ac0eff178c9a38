use Rattle.std.proofs.Common.{◌≡◌, ◌∙◌, length, sym, ap}
use Rattle.broker_types.specs.Words.{id}
use Rattle.broker_types.specs.IdentifierLaws.{id-length}
use Rattle.broker_types.proofs.identifier.id_bytes.Goals as goal

pub copy_from_slice-requires : goal.copy_from_slice-requires
copy_from_slice-requires c =
    let text : c.as_bytes.result.now ≡ id c.args.word = cc in
    sym (ap length text ∙ id-length c.args.word)

pub returns : goal.returns
returns c =
    let text : c.as_bytes.result.now ≡ id c.args.word = cc in
    c.copy_from_slice.ensures.after ∙ text

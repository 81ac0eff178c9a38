use Rattle.broker_types.specs.Words.{map, to_ascii_lowercase, same_from_decides, bytes_eq-Decides}
use Rattle.http_layer.proofs.fields.same_in_any_case.Goals as goal

pub returns : goal.returns
returns c =
    same_from_decides _ _ c.eq_ignore_ascii_case.ensures.test
    (bytes_eq-Decides (map to_ascii_lowercase c.args.a.now) (map to_ascii_lowercase c.args.b.now))

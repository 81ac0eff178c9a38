use Rattle.broker_model.specs.Words.{ap, ◌∙◌, map, string_bytes, insert_key, text_cmp}
use Rattle.token_operations.proofs.TokenSets.{keys_inserted}
use Rattle.token_operations.proofs.new_policies.put_one.Goals as goal

pub returns : goal.returns
returns c =
    ap (map string_bytes) c.in_ok-insert.ensures.keys ∙ keys_inserted c.args.set.now.keys c.in_ok-from_str.field-0
    ∙ ap (insert_key text_cmp (map string_bytes c.args.set.now.keys)) c.in_ok-from_str.ensures.ok

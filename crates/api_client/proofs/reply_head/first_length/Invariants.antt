use Rattle.api_client.specs.Words.{◌≡◌, [], codes, map, take, header_bytes, values_named}
use Rattle.api_client.proofs.reply_head.first_length.Given as goal

-- no field so far has the name
abbrev pub invariant-loop-header : goal.invariant-loop-header
invariant-loop-header l = values_named (codes "content-length")
    (map (header_bytes l.bytes) (take l.header-index l.headers)) ≡ []

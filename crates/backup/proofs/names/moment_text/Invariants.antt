use Rattle.std.proofs.Common.{◌≡◌, encode_utf8_all, filter, not, string_bytes}
use Rattle.backup.specs.Names.{is_sign}
use Rattle.backup.proofs.names.moment_text.Given as goal

abbrev pub invariant-loop-letter : goal.invariant-loop-letter
invariant-loop-letter l = string_bytes l.moment ≡ encode_utf8_all (filter (λ letter. not (is_sign letter)) l.yielded)

use Rattle.std.proofs.Common.{◌≡◌, ◌++◌, ◌-◌, replicate, string_bytes}
use Rattle.kv2.proofs.keys.version_key.Given as goal

-- the zeros that are written, and those to be written
abbrev pub invariant-loop-place : goal.invariant-loop-place
invariant-loop-place l = string_bytes l.key ++ replicate (20 - l.place) 48 ≡ string_bytes l.initial.key
    ++ replicate (20 - l.start) 48

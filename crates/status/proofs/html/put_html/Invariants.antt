use Rattle.std.proofs.Common.{◌≡◌, ◌++◌, flat_map, take}
use Rattle.status.specs.Html.{html_byte}
use Rattle.status.proofs.html.put_html.Given as goal

abbrev pub invariant-loop-byte : goal.invariant-loop-byte
invariant-loop-byte l = l.text.items ≡ l.fn.text.items ++ flat_map html_byte (take l.byte-index l.bytes)

-- What a buffer holds (this project's definition).
use Rattle.std.specs.Prelude.{◌≤◌, ℕ, List, length, take, drop}
use Rattle.http_layer.specs.Words.{HasNoHeadEnd}
use Rattle.hub.specs.declared.buffer.Buffer.TheInside.{Inside}

-- the bytes that are not answered
abbrev pub unanswered_in : Inside → List ℕ
unanswered_in b = drop b.start b.bytes.items

-- they begin within the bytes, no more bytes are kept before them than they are, and no head ends within those of them
-- that were searched
pub record IsSearched (b : Inside) : Type 0 where
  pub starts : b.start ≤ length b.bytes.items
  pub kept : b.start ≤ length (unanswered_in b)
  pub searched : b.searched ≤ length (unanswered_in b)
  pub unended : HasNoHeadEnd (take b.searched (unanswered_in b))

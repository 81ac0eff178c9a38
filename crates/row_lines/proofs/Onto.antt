-- Bytes that are put after others, piece by piece.
use Rattle.std.proofs.Common.{◌≡◌, ◌++◌, ℕ, List, Option, Some, None, sym, ap}
use Rattle.broker_types.specs.Words.{◌∙◌, append_assoc}
use Rattle.row_lines.specs.Spelled.{both, onto}

-- one piece more was put, and the rest is to come
pub one_more : (before after : List ℕ) (piece rest whole all : Option (List ℕ))
    → Some after ≡ onto before piece → whole ≡ both piece rest → onto before whole ≡ all → onto after rest ≡ all
one_more before after None rest whole all put split so_far = cc
one_more before after (Some x) None whole all put split so_far = sym (ap (onto before) split) ∙ so_far
one_more before after (Some x) (Some y) whole all put split so_far =
    let joined : after ≡ before ++ x = cc in
    ap (λ bytes. Some (bytes ++ y)) joined ∙ ap Some (append_assoc before x y) ∙ sym (ap (onto before) split)
    ∙ so_far

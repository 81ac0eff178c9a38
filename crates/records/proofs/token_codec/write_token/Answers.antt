use Rattle.records.proofs.token_codec.write_token.Goals as goal

pub returns : goal.returns
returns c =
    rw (← c.token.view_is)
    (rw (c.owner_of.ensures, c.as_str.ensures, c.as_slice.ensures.value, c.as_slice-2.ensures.value) at
    c.write_row.ensures)

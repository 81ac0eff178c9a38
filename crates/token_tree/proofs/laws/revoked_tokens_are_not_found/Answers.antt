use Rattle.records.specs.Words.{sym, ◌∙◌, ap, option_map, revoke, revoke_orphan, revoke_under, revoke_other}
use Rattle.records.specs.Words.{orphan_child, token_row}
use Rattle.token_tree.proofs.Singles.{row_told}
use Rattle.token_tree.proofs.laws.revoked_tokens_are_not_found.Goals as goal

pub returns-clause-revoked : goal.returns-clause-revoked
returns-clause-revoked c b t q rows tells under = row_told (revoke b t) rows tells q
    ∙ ap (option_map token_row) (revoke_under b.tokens t q under)

pub returns-clause-others : goal.returns-clause-others
returns-clause-others c b t q old new told tells apart =
    row_told (revoke b t) new tells q ∙ ap (option_map token_row) (revoke_other b.tokens t q apart)
    ∙ sym (row_told b old told q)

pub returns-clause-orphans : goal.returns-clause-orphans
returns-clause-orphans c b t q x rows tells other is parent =
    row_told (revoke_orphan b t) rows tells q ∙ ap (option_map token_row) (orphan_child b.tokens t q x other is parent)

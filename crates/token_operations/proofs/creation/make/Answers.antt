use Rattle.std.proofs.Common.{◌≡◌, sym, ◌∙◌, ap, subst}
use Rattle.broker_model.specs.Words.{names_of, token_text, TokenEntry, MayBeMade, created, forms, auth_reply}
use Rattle.broker_rows.specs.Words.{Represents}
use Rattle.token_operations.proofs.TokenMade.{made_done}
use Rattle.token_operations.proofs.creation.make.Goals as goal

pub returns-clause-told : goal.returns-clause-told
returns-clause-told g c who is honest b starts y entry can bare named =
    let names = names_of c.args.context.now.words in
    let rows = (g.T.RecordsTx.seen c.put.new.tx).rows in
    let text : token_text names.token ≡ token_text c.args.identifier.now = ap token_text (sym is) in
    let texts = c.in_ok-text.ensures.texts in
    made_done b names y rows named
    (subst (λ t. Represents who rows (created b t y)) (sym text)
    (c.in_ok-text.ensures.told honest who b y starts.represents entry
    (subst (λ t. MayBeMade forms b t y) text can) bare)) _ _
    (c.in_ok-auth_reply.ensures ∙ (λ i. auth_reply names.request (sym starts.clock i)
    (((λ j. (texts j).0) ∙ sym text) i) (sym entry i)))
    ((λ i. (texts i).1) ∙ ap (λ (e : TokenEntry). e.accessor) (sym entry))

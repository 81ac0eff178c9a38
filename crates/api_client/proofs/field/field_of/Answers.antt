use Rattle.api_client.specs.Words.{◌≡◌, Some, option_map, sym, ap, ◌∙◌, read, view, value_of}
use Rattle.api_client.proofs.FieldLemmas.{found_and}
use Rattle.api_client.proofs.field.field_of.Goals as goal

pub returns-in-Some-value_of : goal.returns-in-Some-value_of
returns-in-Some-value_of c =
    let text = c.in-Ok.ensures.cases in
    let is : read c.args.body.now ≡ Some (view c.in-Some.reply) =
    ap read (sym text.0) ∙ sym c.in_ok-reply.ensures ∙ ap (option_map view) c.in-Some.is in
    let found : value_of c.args.name.now (view c.in-Some.reply) ≡ Some (view c.in-Some-value_of.value.now) =
    sym c.value_of.ensures ∙ ap (option_map (λ v. view v.now)) c.in-Some-value_of.is in
    (view c.in-Some.reply, (text.1, is), found_and _ _ _ found c.in_ok-line_of-in-Some-value_of.ensures)

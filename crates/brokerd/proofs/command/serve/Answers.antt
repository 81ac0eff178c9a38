use Rattle.std.proofs.Common.{◌≡◌, ◌∙◌, ap, ap₂}
use Rattle.std.proofs.lemmas.Result.{IfOk-weaker}
use Rattle.clap.specs.Simple.{app_of_fields}
use Rattle.clap.specs.Words.{app_of, new_app, with_rule}
use Rattle.brokerd.proofs.command.serve.Goals as goal

pub returns : goal.returns
returns c =
    let told : app_of c.about.result ≡ new_app _ = ap app_of_fields c.about.ensures ∙ c.new.ensures.app in
    let one = c.in_ok-arg.ensures.shape c.listen.ensures.local ∙ ap₂ with_rule told c.listen.ensures.rule in
    let two = c.in_ok-arg-2.ensures.shape c.db.ensures.local ∙ ap₂ with_rule one c.db.ensures.rule in
    let three = c.in_ok-arg-3.ensures.shape c.connections.ensures.local
    ∙ ap₂ with_rule two c.connections.ensures.rule in
    let four = c.in_ok-arg-4.ensures.shape c.at_once.ensures.local ∙ ap₂ with_rule three c.at_once.ensures.rule in
    let five = c.in_ok-arg-5.ensures.shape c.until_stopped.ensures.local
    ∙ ap₂ with_rule four c.until_stopped.ensures.rule in
    let six = c.in_ok-arg-6.ensures.shape c.stop_on_input.ensures.local
    ∙ ap₂ with_rule five c.stop_on_input.ensures.rule in
    let seven = c.in_ok-arg-7.ensures.shape c.log.ensures.local ∙ ap₂ with_rule six c.log.ensures.rule in
    let eight = c.in_ok-arg-8.ensures.shape c.log_format.ensures.local
    ∙ ap₂ with_rule seven c.log_format.ensures.rule in
    let nine = c.in_ok-arg-9.ensures.shape c.log_file.ensures.local ∙ ap₂ with_rule eight c.log_file.ensures.rule in
    let ten = c.in_ok-arg-10.ensures.shape c.status.ensures.local ∙ ap₂ with_rule nine c.status.ensures.rule in
    let eleven = c.in_ok-arg-11.ensures.shape c.check_first.ensures.local
    ∙ ap₂ with_rule ten c.check_first.ensures.rule in
    IfOk-weaker c.arg-12.result _ _ (λ d h. h.shape c.unchecked.ensures.local
    ∙ ap₂ with_rule eleven c.unchecked.ensures.rule)
    c.arg-12.ensures

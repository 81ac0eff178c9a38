use Rattle.std.proofs.Common.{◌≡◌, ◌∙◌, ap, ap₂}
use Rattle.std.proofs.lemmas.Result.{IfOk-weaker}
use Rattle.clap.specs.Simple.{app_of_fields}
use Rattle.clap.specs.Words.{app_of, new_app, with_rule}
use Rattle.brokerd.proofs.command.import.Goals as goal

pub returns : goal.returns
returns c =
    let told : app_of c.about.result ≡ new_app _ = ap app_of_fields c.about.ensures ∙ c.new.ensures.app in
    let one = c.in_ok-arg.ensures.shape c.imported.ensures.local ∙ ap₂ with_rule told c.imported.ensures.rule in
    IfOk-weaker c.arg-2.result _ _ (λ d h. h.shape c.salvage.ensures.local ∙ ap₂ with_rule one c.salvage.ensures.rule)
    c.arg-2.ensures

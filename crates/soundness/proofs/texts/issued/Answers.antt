use Rattle.std.proofs.Common.{◌≡◌, ◌++◌, ◌∷◌, sym, ◌∙◌, ap, codes, drop}
use Rattle.broker_model.specs.Words.{drop-append-add, slash, split_once, split-lacking}
use Rattle.soundness.proofs.texts.issued.Goals as goal

pub returns-clause-whole : goal.returns-clause-whole
returns-clause-whole c = λ role identifier is lack.
    let folder : c.in_ok-folder.folder.now ≡ role ++ slash ∷ identifier =
    sym (drop-append-add (codes "creds/") c.in_ok-folder.folder.now 0)
    ∙ ap (drop 6) (sym c.in_ok-folder.ensures.sound ∙ is)
    ∙ drop-append-add (codes "creds/") (role ++ slash ∷ identifier) 0 in
    c.cut.ensures.exact ∙ ap (split_once slash) folder ∙ split-lacking slash role identifier lack

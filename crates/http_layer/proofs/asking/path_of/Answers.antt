use Rattle.broker_types.specs.Words.{◌∙◌, ap, sym, subst, drop}
use Rattle.http_layer.specs.Words.{HasNoEscape}
use Rattle.http_layer.proofs.AskedLemmas.{HasNoEscape-drop}
use Rattle.http_layer.proofs.asking.path_of.Goals as goal

pub returns-clause-no_memory : goal.returns-clause-no_memory
returns-clause-no_memory c =
    λ plain.
    c.read_path.ensures.no_memory
    (subst HasNoEscape (sym (c.range_from.ensures.value ∙ ap (drop 4) c.split_target.ensures.path))
    (HasNoEscape-drop 4 _ plain))

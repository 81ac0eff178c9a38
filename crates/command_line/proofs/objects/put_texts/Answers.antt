use Rattle.std.proofs.Common.{◌≡◌, ◌∷◌, ◌∙◌, List, [], false, ap, map, refl}
use Rattle.broker_types.specs.Words.{Text}
use Rattle.serde_json.specs.Data.{Data, array, put, string}
use Rattle.serde_json.specs.View.{items_of, members_view, view}
use Rattle.serde_json.specs.Written.{has_float, items_have_float, members_have_float}
use Rattle.command_line.proofs.BodyLemmas.{put-whole}
use Rattle.command_line.proofs.objects.put_texts.Goals as goal

-- texts are no floats
texts-whole : (ts : List Text) → items_have_float (items_of (map string ts)) ≡ false
texts-whole [] = refl
texts-whole (t ∷ ts) = texts-whole ts

pub returns-in_ok-put-in-Some-clause-value : goal.returns-in_ok-put-in-Some-clause-value
returns-in_ok-put-in-Some-clause-value c =
    rw c.in-Some.is
    (c.in_ok-put-in-Some.ensures.ok
    ∙ ap (λ (d : Data). put c.args.name.now d (members_view c.args.object.now.entries))
    (c.from.ensures ∙ ap (λ (ds : List Data). array (items_of ds)) c.in_ok-values-in-Some.ensures))

pub returns-in_ok-put-in-Some-clause-whole : goal.returns-in_ok-put-in-Some-clause-whole
returns-in_ok-put-in-Some-clause-whole c =
    λ whole.
    ap members_have_float c.in_ok-put-in-Some.ensures.ok
    ∙ put-whole c.args.name.now (view c.from.result) (members_view c.args.object.now.entries)
    (ap has_float (c.from.ensures ∙ ap (λ (ds : List Data). array (items_of ds)) c.in_ok-values-in-Some.ensures)
    ∙ texts-whole (map (λ t. t.now) c.in-Some.texts.now)) whole

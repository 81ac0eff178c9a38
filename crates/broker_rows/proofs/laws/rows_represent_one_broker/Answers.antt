use Rattle.broker_model.specs.Words.{sym, ◌∙◌, forms}
use Rattle.broker_rows.proofs.laws.rows_represent_one_broker.Goals as goal

pub returns : goal.returns
returns c = λ rows v w x y in_x in_y. c.rows_determine_the_broker.ensures forms v w x y in_x.sound in_y.sound
    (sym in_x.rows ∙ in_y.rows)

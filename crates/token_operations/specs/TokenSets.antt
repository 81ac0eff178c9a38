-- Sets of texts, as lists that ascend (this project's definition).
use Rattle.std.specs.Prelude.{◌∷◌, List, []}
use Rattle.broker_model.specs.Words.{insert_key, Text, text_cmp}

-- the texts in their places among those of the list
abbrev pub put_each : List Text → List Text → List Text
put_each list [] = list
put_each list (t ∷ ts) = put_each (insert_key text_cmp list t) ts

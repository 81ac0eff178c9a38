-- Sets of texts, as code has them: lists that ascend.
use Rattle.std.proofs.Common.{◌≡◌, ◌∷◌, List, [], map, true, cond, Some, None, refl, sym, ◌∙◌, ap}
use Rattle.broker_model.specs.Words.{nat_list_cmp_total, get-from_entries, Text, keys, is_ascending, has, member}
use Rattle.broker_model.specs.Words.{set_of, ascending_entries, set_has}

first_member : (ts : List Text) → map (λ e. e.0) (map member ts) ≡ ts
first_member [] = refl
first_member (t ∷ ts) = ap (λ us. t ∷ us) (first_member ts)

-- a list that ascends and has the same texts is the set's
pub set_is : (ts us : List Text) → is_ascending us ≡ true → ((q : Text) → has us q ≡ has ts q) → keys (set_of ts) ≡ us
set_is ts us ascends alike =
    ap (map (λ e. e.0))
    (ascending_entries (set_of ts) (map member us) (ap is_ascending (first_member us) ∙ ascends)
    (λ q. sym (get-from_entries nat_list_cmp_total (map member us) q) ∙ set_has us q
    ∙ ap (λ v. cond v (Some (tt {0})) None) (alike q) ∙ sym (set_has ts q)))
    ∙ first_member us

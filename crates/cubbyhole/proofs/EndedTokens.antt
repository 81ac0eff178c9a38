-- Tokens that ended, and the rows of their cubbyholes.
use Rattle.std.proofs.Common.{◌≡◌, ◌||◌, ◌∷◌, if◌then◌else◌, List, [], length, nat_eq, Bool, true, false, Option, None}
use Rattle.records.specs.Words.{starts_with, refl, sym, ◌∙◌, ap, false≢true, or_right, Text, same, empty, Broker}
use Rattle.records.specs.Words.{same_self, has, of_cubbyholes, Tells, rows_of, token_len, Table, without_under}
use Rattle.cubbyhole.specs.Words.{Kind, object_at, drop_owner, object_at-drop_owner, without_cubbyholes, object_key}
use Rattle.records.specs.declared.kind.Kind.TheVariants as kind
use Rattle.cubbyhole.proofs.Edits.{tells_edited}
use Rattle.cubbyhole.proofs.ObjectRows.{objects_row, rows_of-objects, cubby-drop_owner}

part_cubby : (k : Kind) → of_cubbyholes k ≡ true → k ≡ kind.Cubby
part_cubby kind.Clock h = absurd (false≢true h)
part_cubby kind.Used h = absurd (false≢true h)
part_cubby kind.Token h = absurd (false≢true h)
part_cubby kind.Accessor h = absurd (false≢true h)
part_cubby kind.Cubby h = refl
part_cubby kind.Lease h = absurd (false≢true h)
part_cubby kind.Credential h = absurd (false≢true h)
part_cubby kind.KvKey h = absurd (false≢true h)
part_cubby kind.KvVersion h = absurd (false≢true h)
part_cubby kind.Waiting h = absurd (false≢true h)
part_cubby kind.Mount h = absurd (false≢true h)
part_cubby kind.Policy h = absurd (false≢true h)
part_cubby kind.Role h = absurd (false≢true h)

-- brokers with the same objects have the same rows of cubbyholes
same_rows : (b c : Broker) → ((t path : Text) → object_at c t path ≡ object_at b t path) → (q : Text)
    → rows_of b kind.Cubby q ≡ rows_of c kind.Cubby q
same_rows b c same_objects q =
    rows_of-objects b q ∙ (λ i. objects_row (λ t path. sym (same_objects t path) i) q) ∙ sym (rows_of-objects c q)

one_more : (here more : Bool) (o : Option Text)
    → (if here || more then None else o) ≡ (if more then None else (if here then None else o))
one_more true true o = refl
one_more true false o = refl
one_more false more o = refl

pub ended_left : (b c : Broker) (ended : List Text) (rows : Table)
    → ((t : Text) → has ended t ≡ true → length t ≡ token_len) → Tells of_cubbyholes rows b
    → ((t path : Text) → object_at c t path ≡ (if has ended t then None else object_at b t path))
    → Tells of_cubbyholes (without_cubbyholes rows ended) c
ended_left b c [] rows lens told objects = λ k q h.
    told k q h ∙ ap (λ k. rows_of b k q) (part_cubby k h) ∙ same_rows b c objects q
    ∙ ap (λ k. rows_of c k q) (sym (part_cubby k h))
ended_left b c (t ∷ ended) rows lens told objects =
    ended_left (drop_owner b t) c ended (without_under rows kind.Cubby (object_key t []))
    (λ u h. lens u (or_right (same u t) (has ended u) h))
    (tells_edited b t (λ m. empty) (λ q. starts_with nat_eq q (object_key t [])) None rows
    (without_under rows kind.Cubby (object_key t [])) refl
    (cubby-drop_owner b t (lens t (ap (λ v. v || has ended t) (same_self t)))) of_cubbyholes told)
    (λ u path.
    objects u path ∙ one_more (same u t) (has ended u) (object_at b u path)
    ∙ ap (λ o. if has ended u then None else o) (sym (object_at-drop_owner b t u path)))

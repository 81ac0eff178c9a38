-- What a row that was read, or is not there, says.
use Rattle.std.proofs.Common.{◌≡◌, Option, Some, None, sym, ◌∙◌, ap, subst}
use Rattle.records.specs.Words.{none-some, same_Some, mapped, mapped_none, IsRowOf}
use Rattle.kv2.specs.Words.{Row}

module _ {X : Type 0} (P : X → Type 0) (row_of : X → Row) (row : Option Row) where
  -- no row is of no record
  pub none_read : row ≡ None → IsRowOf P row_of row None
  none_read none = record { in_range = λ x e. absurd (none-some x e); row = none }

  -- and of nothing else
  pub none_is : row ≡ None → (o : Option X) → IsRowOf P row_of row o → o ≡ None
  none_is none o h = mapped_none row_of o (sym h.row ∙ none)

  -- a row is of the record that was read
  pub some_read : (r : Row) (x : X) → row ≡ Some r → P x → r ≡ row_of x → IsRowOf P row_of row (Some x)
  some_read r x some in_range is =
      record { in_range = λ y e. subst P (same_Some x y e) in_range; row = some ∙ ap Some is }

  -- and of a record that can be read
  pub some_is : (r : Row) → row ≡ Some r → (o : Option X) → IsRowOf P row_of row o → (x : X) × (o ≡ Some x) × P x
      × (r ≡ row_of x)
  some_is r some o h =
      let x = mapped row_of o r (sym h.row ∙ some) in
      (x.0, x.1, h.in_range x.0 x.1, x.2)

-- Laws of two identifiers that were marked as given out.
use Rattle.std.proofs.Common.{◌≡◌, ◌∷◌, if◌then◌else◌, [], Bool, true, false, cond, Option, Some, option_map, refl, sym}
use Rattle.broker_model.specs.Words.{⊤, ◌∙◌, ap, false≢true, true≢false, Broker, get, put, get-put, Text, same, use_up}
use Rattle.broker_model.specs.Words.{joined_rows, rows_of-other_used, Tells, KeepsOthers, of_used, used_row, rows_of}
use Rattle.broker_model.specs.Words.{Table, with_row, Kind, Row}
use Rattle.records.specs.declared.kind.Kind.TheVariants as kind

inner : (v w : Bool) (o : Option Row) (u : Option ⊤) → o ≡ option_map (λ _. used_row) u
    → (if v then Some used_row else (if w then Some used_row else o))
    ≡ option_map (λ _. used_row) (cond v (Some (tt {0})) (cond w (Some (tt {0})) u))
inner true w o u h = refl
inner false true o u h = refl
inner false false o u h = h

-- the broker in which two more were given out
abbrev pub marked : Broker → Text → Text → Broker
marked b i j = record b { used = use_up b.used (i ∷ j ∷ []) }

module _ (i j : Text) (mid new : Table) (is : new ≡ with_row (with_row mid kind.Used j used_row) kind.Used i used_row)
  where
    marks_outside : (k : Kind) (q : Text) → of_used k ≡ false
        → with_row (with_row mid kind.Used j used_row) kind.Used i used_row k q ≡ mid k q
    marks_outside kind.Used q h = absurd (true≢false h)
    marks_outside _ q h = refl

    -- where two were marked, no other row has changed
    pub marks_keep : KeepsOthers of_used mid new
    marks_keep k q h = ap (λ (table : Table). table k q) is ∙ marks_outside k q h

module _ (b : Broker) (i j : Text) (mid new : Table)
    (is : new ≡ with_row (with_row mid kind.Used j used_row) kind.Used i used_row) where
  -- the rows of identifiers tell it
  marks_told : ((q : Text) → mid kind.Used q ≡ rows_of b kind.Used q) → Tells of_used new (marked b i j)
  unfolding rows_of
  marks_told before kind.Used q h =
      ap (λ (table : Table). table kind.Used q) is
      ∙ inner (same q i) (same q j) (mid kind.Used q) (get b.used q) (before q)
      ∙ ap (option_map (λ _. used_row))
      (sym (get-put (put b.used j tt) i tt q ∙ ap (cond (same q i) (Some (tt {0}))) (get-put b.used j tt q)))
  marks_told before _ q h = absurd (false≢true h)

  -- so the rows of a broker become those of the broker in which the two were given out
  pub marks_joined : mid ≡ rows_of b → new ≡ rows_of (marked b i j)
  marks_joined told =
      joined_rows of_used mid new b (marked b i j) told
      (marks_told (λ q. ap (λ (table : Table). table kind.Used q) told)) (marks_keep i j mid new is)
      (rows_of-other_used b (use_up b.used (i ∷ j ∷ [])))

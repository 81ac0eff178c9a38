-- Tokens that ended: from the rows that are left to the broker without them.
use Rattle.std.proofs.Common.{◌≡◌, ◌&&◌, if◌then◌else◌, List, true, false, is_some, is_none, Option, Some, None, refl}
use Rattle.broker_model.specs.Words.{option_and_then, sym, ◌∙◌, ap, subst, inl, inr, false≢true, or_parts, Text, get}
use Rattle.broker_model.specs.Words.{Token, Tokens, Broker, found_or_not, Kind, has, Tells, of_tokens, of_cubbyholes}
use Rattle.broker_model.specs.Words.{of_leases, Table, table_of, Rows, object_at, EndedLeaveNothing, AreReadable}
use Rattle.broker_model.specs.Words.{either, are_owned, RepresentsLeases, EndedAreTold, all_readable, ends_added}
use Rattle.broker_model.specs.Words.{readable_after}
use Rattle.records.specs.declared.kind.Kind.TheVariants as kind
use Rattle.broker_rows.specs.Words.{of_belongings, AreTokenLong, LeavesNothing, LosesObjects, leaves_others, no_token}
use Rattle.broker_rows.specs.Words.{is_object, is_lease, is_elsewhere, other_tokens, others_kept, HaveEnded, Represents}
use Rattle.broker_rows.specs.Words.{represents_leases, tells_part, tokens_long}

-- a row of a token or of an accessor does not belong to a token
no_belonging : (k : Kind) → of_tokens k ≡ true → of_belongings k ≡ false
no_belonging kind.Token h = refl
no_belonging kind.Accessor h = refl
no_belonging _ h = absurd (false≢true h)

no_lease : (k : Kind) → of_tokens k ≡ true → of_leases k ≡ false
no_lease k h = (or_parts (of_cubbyholes k) (of_leases k) (no_belonging k h)).1

module _ {who after : Option Text} (b : Broker) (us : Tokens) (ended : List Text) (rest : Rows)
    (e : HaveEnded who after b us ended rest) where
  abbrev c : Broker
  c = record b { tokens = us }

  -- the tokens that ended were tokens
  ended_long : AreTokenLong ended
  ended_long t h = elim (found_or_not (get b.tokens t)) [
    | inl none ↦ absurd (false≢true (ap (λ o. is_some o && is_none (get us t)) (sym none) ∙ sym (e.are.exact t) ∙ h))
    | inr x ↦ tokens_long b e.old e.represents t x.0 x.1
  ]

  -- their objects are gone, and no others
  objects_lost : LosesObjects ended b c
  objects_lost t path = elim (found_or_not (get us t)) [
    | inr y ↦
        let x = e.keep t y.0 y.1 in
        let stays : has ended t ≡ false = e.are.exact t ∙ (λ i. is_some (x.1 i) && is_none (y.1 i)) in
        ap (option_and_then (λ (z : Token). get z.cubbyhole path)) y.1 ∙ ap (λ m. get m path) x.2
        ∙ sym (ap (option_and_then (λ (z : Token). get z.cubbyhole path)) x.1)
        ∙ sym (ap (λ v. if v then None else object_at b t path) stays)
    | inl none ↦
        ap (option_and_then (λ (z : Token). get z.cubbyhole path)) none
        ∙ sym (ap (λ v. if v then None else object_at b t path)
        (e.are.exact t ∙ ap (λ o. is_some (get b.tokens t) && is_none o) none)
        ∙ gone (get b.tokens t))
  ]
    where
      gone : (o : Option Token)
          → (if is_some o && true then None else option_and_then (λ (z : Token). get z.cubbyhole path) o) ≡ None
      gone None = refl
      gone (Some x) = refl

  -- until they are dropped, all objects are there
  objects_there : Tells of_cubbyholes (table_of rest) b
  objects_there k q h =
      let object = is_object k h in
      e.ends.others k q object.1 ∙ e.others k q (no_token k object.0)
      ∙ tells_part of_cubbyholes b e.old e.represents k q h

  -- and all leases are, but those that were due
  leases_there : RepresentsLeases (table_of e.mid) b
  leases_there = represents_leases b e.old e.mid e.represents e.others

  -- the leases of the ended tokens can be read
  pub theirs_readable : AreReadable (are_owned ended) (table_of rest)
  theirs_readable =
      readable_after e.due (are_owned ended) (table_of e.mid) (table_of rest) e.ends
      (all_readable (are_owned ended) (table_of e.mid) b leases_there)

  module _ (new : Rows) (leaves : LeavesNothing ended rest new) where
    -- once nothing is left of the ended tokens, no other object is missing
    objects_told : EndedLeaveNothing → Tells of_cubbyholes (table_of new) c
    objects_told law =
        subst (λ rows. Tells of_cubbyholes rows c) (sym leaves.cubbyholes)
        (law b c ended (table_of leaves.mid) ended_long
        (λ k q h. leaves.leases.others k q (is_object k h).1 ∙ objects_there k q h) objects_lost)

    -- and no other lease
    leases_told : EndedAreTold → Tells of_leases (table_of new) c
    leases_told law k q h =
        ap (λ (z : Table). z k q) leaves.cubbyholes ∙ others_kept ended (table_of leaves.mid) k q (is_lease k h).1
        ∙ law (either e.due (are_owned ended)) (table_of e.mid) (table_of leaves.mid) b c leases_there
        (ends_added e.due (are_owned ended) (table_of e.mid) (table_of rest) (table_of leaves.mid) e.ends leaves.leases)
        e.leaves k q h

    -- the rows are those of the broker without the tokens
    pub represents-ended : EndedLeaveNothing → EndedAreTold → Represents after new c
    represents-ended objects leases = record {
      rows = other_tokens b us (table_of e.old) (table_of new) e.represents.rows
          (λ k q h. leaves_others ended rest new leaves k q (no_belonging k h) ∙ e.ends.others k q (no_lease k h)
          ∙ e.tells k q h)
          (objects_told objects) (leases_told leases)
          (λ k q h. let apart = is_elsewhere k h in
          leaves_others ended rest new leaves k q apart.1
          ∙ e.ends.others k q (or_parts (of_cubbyholes k) (of_leases k) apart.1).1
          ∙ e.others k q apart.0);
      sound = e.sound;
    }

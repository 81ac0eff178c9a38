-- What is revoked by an accessor: the token that has it, or the wrapping token.
use Rattle.std.proofs.Common.{◌≡◌, ◌≢◌, true, false, is_some, Option, Some, None, Result, Ok, Err, refl, sym, ◌∙◌, ap}
use Rattle.broker_model.specs.Words.{option_map_or, subst, inl, inr, false≢true, none-some, Broker, revoke_unknown, get}
use Rattle.broker_model.specs.Words.{found_or_not, OnePlaceEach, ◌>>=◌, some_or, drop_waiting, Text, RequestError}
use Rattle.broker_model.specs.Words.{Refused, Tells, KeepsOthers, of_waiting, table_of, Rows, NamedHaveTheirAccessors}
use Rattle.broker_model.specs.Words.{revoke_token, revoke_named}
use Rattle.broker_types.specs.declared.refusal.Refusal.TheVariants as refusal
use Rattle.broker_types.specs.declared.refusal.Reason.TheVariants as reason
use Rattle.token_tree.specs.Tokens as tree
use Rattle.wrapping.specs.Wrapping as wrapping
use Rattle.broker_rows.specs.Words.{ActsAs, Represents, one_kind, represents_dropped}
use Rattle.broker_rows.specs.declared.answered.Answered.{Answered}
use Rattle.broker_rows.specs.declared.answered.Answered.TheVariants.{Nothing}

-- what is a wrapping token is no token
no_token : (b : Broker) (t : Text) → OnePlaceEach b → get b.waiting t ≢ None → get b.tokens t ≡ None
no_token b t one waits = elim (found_or_not (get b.tokens t)) [
  | inl none ↦ none
  | inr x ↦ absurd (waits (one_kind b t one (λ none. none-some _ (sym none ∙ x.1))))
]

module _ (who : Option Text) (b : Broker) (rows : Rows) (accessor : Text) where
  -- what is done with what has the accessor
  abbrev acts_on : Result Answered RequestError → Option Text → Type 0
  acts_on result o =
      ActsAs who b rows result (some_or (refusal.BadRequest reason.InvalidAccessor) o >>= (λ t. Ok (revoke_token b t)))

  -- the token that the accessor names is revoked
  pub acts_on_holder : (t : Text) (result : Result Answered RequestError) → tree.find_accessor b accessor ≡ Some t
      → ActsAs who b rows result (Ok (revoke_token b t)) → ActsAs who b rows result (revoke_named b accessor)
  acts_on_holder t result is acts =
      subst (acts_on result) (sym (ap (λ o. option_map_or Some o (wrapping.find_accessor b accessor)) is)) acts

  module _ (none : tree.find_accessor b accessor ≡ None) where
    held_by : (o : Option Text) → wrapping.find_accessor b accessor ≡ o
        → option_map_or Some (tree.find_accessor b accessor) (wrapping.find_accessor b accessor) ≡ o
    held_by o is = ap (λ p. option_map_or Some p (wrapping.find_accessor b accessor)) none ∙ is

    -- an accessor of neither is refused
    pub acts_on_neither : false ≡ is_some (wrapping.find_accessor b accessor) → Represents who rows b
        → ActsAs who b rows (Err (Refused (refusal.BadRequest reason.InvalidAccessor))) (revoke_named b accessor)
    acts_on_neither told st = elim (found_or_not (wrapping.find_accessor b accessor)) [
      | inl gone ↦
          subst (acts_on (Err (Refused (refusal.BadRequest reason.InvalidAccessor)))) (sym (held_by None gone))
          (refl, st)
      | inr t ↦ absurd (false≢true (told ∙ ap is_some t.1))
    ]

    -- of the wrapping token that it names, the response is dropped
    pub acts_on_wrapping : NamedHaveTheirAccessors → (old : Rows) → Represents who old b
        → true ≡ is_some (wrapping.find_accessor b accessor)
        → Tells of_waiting (table_of rows) (wrapping.drop_accessor b accessor)
        → KeepsOthers of_waiting (table_of old) (table_of rows)
        → ActsAs who b rows (Ok Nothing) (revoke_named b accessor)
    acts_on_wrapping named old st told tells keeps = elim (found_or_not (wrapping.find_accessor b accessor)) [
      | inl gone ↦ absurd (false≢true (sym (told ∙ ap is_some gone)))
      | inr t ↦
          let w = named b t.0 accessor t.1 in
          let absent = no_token b t.0 st.sound.identifiers.one_place (λ gone. none-some _ (sym gone ∙ w.1)) in
          let same = ap (λ ts. drop_waiting (record b { tokens = ts }) t.0) (revoke_unknown b.tokens t.0 absent) in
          let dropped = represents_dropped b t.0 old rows st
          (subst (λ o. Tells of_waiting (table_of rows) (option_map_or (drop_waiting b) o b)) t.1 tells) keeps in
          subst (acts_on (Ok Nothing)) (sym (held_by (Some t.0) t.1))
          (refl, subst (Represents who rows) (sym same) dropped)
    ]

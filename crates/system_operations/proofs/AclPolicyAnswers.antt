-- From rows that a change of policies left to the broker that they represent.
use Rattle.std.proofs.Common.{◌≡◌, Option, Result, Ok, Err, refl}
use Rattle.broker_model.specs.Words.{Broker, Map, nothing, Done, plainly, ◌>>=◌, EndsOk, EndsErr, Sound, Text, Refusal}
use Rattle.broker_model.specs.Words.{RequestError, Refused, joined_rows, rows_of-other_policies, KeepsOthers}
use Rattle.broker_model.specs.Words.{of_policies, table_of, Rows, ArePolicies, told_policies, forms}
use Rattle.broker_types.specs.declared.request_error.RequestError.TheVariants.{Fault}
use Rattle.broker_rows.specs.Words.{Represents, ActsAs, still_represented}
use Rattle.broker_rows.specs.declared.answered.Answered.TheVariants.{Nothing}

module _ (b : Broker) (who : Option Text) (old new : Rows) (st : Represents who old b) where
  represents-policies : (next : Map Text) → Sound forms who (record b { policies = next })
      → ArePolicies (table_of new) next
      → KeepsOthers of_policies (table_of old) (table_of new) → Represents who new (record b { policies = next })
  represents-policies next sound are keeps = record {
    rows = joined_rows of_policies (table_of old) (table_of new) b (record b { policies = next }) st.rows
        (told_policies (table_of new) (record b { policies = next }) are) keeps (rows_of-other_policies b next);
    sound = sound;
  }

  abbrev changed : Result (Map Text) Refusal → Result Done Refusal
  changed m = m >>= (λ next. Ok (plainly nothing (record b { policies = next })))

  -- a change that is made leaves the policies that it says
  pub acts_changed : {X : Type 0} (x : X) (m : Result (Map Text) Refusal)
      → ((next : Map Text) → m ≡ Ok next → Sound forms who (record b { policies = next }))
      → EndsOk (λ (_ : X) next. ArePolicies (table_of new) next) x m
      → KeepsOthers of_policies (table_of old) (table_of new)
      → ActsAs who b new (Ok Nothing) (changed m)
  acts_changed x (Ok next) sound are keeps = (refl, represents-policies next (sound next refl) are keeps)
  acts_changed x (Err r) sound are keeps = absurd are

  -- one that is refused leaves the broker as it was
  pub acts_refused : (m : Result (Map Text) Refusal) (e : RequestError) → EndsErr (new ≡ old) e m
      → ActsAs who b new (Err e) (changed m)
  acts_refused (Ok next) (Refused r) h = absurd h
  acts_refused (Err x) (Refused r) h = (h.0, still_represented b old new h.1 st)
  acts_refused m (Fault f) h = h

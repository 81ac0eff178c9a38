-- From the rows that an edit of a cubbyhole left to the broker that they represent, and which these are; and how a list
-- ends.
use Rattle.std.proofs.Common.{◌≡◌, ◌==◌, ◌∷◌, ℕ, List, [], length, not, Bool, true, false, Option, None, Result, Ok, ap}
use Rattle.broker_model.specs.Words.{Err, arith, refl, sym, subst, nat_tests, Text, Broker, Names, reply, plainly, Done}
use Rattle.broker_model.specs.Words.{◌>>=◌, unless, IsPathText, IsObjectText, Refusal, RequestError, Refused, Tells}
use Rattle.broker_model.specs.Words.{table_of, Rows, write, delete, write_sound, delete_sound, forms, are_none}
use Rattle.broker_model.specs.Words.{list_reply, listed}
use Rattle.broker_types.specs.declared.refusal.Refusal.TheVariants as refusal
use Rattle.broker_rows.specs.declared.answered.Answered.{Answered}
use Rattle.broker_rows.specs.Words.{ActsAs, Represents, everything}

-- ---- an edit

-- the rows after the write of an object to the caller's cubbyhole are those of the broker after it
pub represents-write : {who : Option Text} (b : Broker) (old new : Rows) (t path object : Text) → Represents who old b
    → IsPathText path
    → IsObjectText forms object → Tells everything (table_of new) (write b t path object)
    → Represents who new (write b t path object)
represents-write {who} b old new t path object st is_path is_object tells =
    record {
      rows = λ i k q. tells k q refl i;
      sound = write_sound forms who b t st.sound path object is_path is_object;
    }

-- and those after a deletion
pub represents-delete : {who : Option Text} (b : Broker) (old new : Rows) (t path : Text) → Represents who old b
    → Tells everything (table_of new) (delete b t path) → Represents who new (delete b t path)
represents-delete {who} b old new t path st tells =
    record {
      rows = λ i k q. tells k q refl i;
      sound = delete_sound forms who b t st.sound path;
    }

-- ---- a list

-- names are none if their number is 0, and else some
pub none_by_number : (names : List Text) (n : ℕ) → n ≡ length names → are_none names ≡ (n == 0)
none_by_number [] n e = sym (ap (λ k. k == 0) e)
none_by_number (name ∷ names) n e = let some : (n == 0) ≡ false = grind (arith, nat_tests) in sym some

module _ (b : Broker) (rows : Rows) (who : Option Text) (names : Names) (children : List Text) where
  -- what the list says of the names, if whether there are none is v
  abbrev listed_if : Bool → Result Done Refusal
  listed_if v = unless (not v) refusal.NotFound
      >>= (λ some. Ok (plainly (reply (list_reply names.request children) None) b))

  -- the answer that shows them
  pub acts_listed : (result : Result Answered RequestError) → are_none children ≡ false
      → ActsAs who b rows result (Ok (plainly (reply (list_reply names.request children) None) b))
      → ActsAs who b rows result (listed b names children)
  acts_listed result some acts = subst (λ v. ActsAs who b rows result (listed_if v)) (sym some) acts

  -- 404 where there are none
  pub acts_unlisted : are_none children ≡ true → Represents who rows b
      → ActsAs who b rows (Err (Refused refusal.NotFound)) (listed b names children)
  acts_unlisted none st = subst (λ v. ActsAs who b rows (Err (Refused refusal.NotFound)) (listed_if v)) (sym none)
      (refl, st)

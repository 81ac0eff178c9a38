-- Edits of a cubbyhole leave a sound broker sound, and let it evolve.
use Rattle.std.proofs.Common.{◌≡◌, true, false, cond, Option, Some, None, refl, sym, ◌∙◌, subst}
use Rattle.records.specs.Words.{get-empty, same_Some, none-some, Text, text_cmp, same, Map, get, empty, put, without}
use Rattle.records.specs.Words.{Broker, Evolves, Forms, Sound, IsPathText, IsObjectText, same_true, get-put}
use Rattle.records.specs.Words.{get-without, edited_sound, IsEdit, edit_evolves, edit_sound, unspent_still}
use Rattle.cubbyhole.specs.Cubbyhole.{with_cubbyhole, edited, write, delete, drop_owner}

-- each object is at a path
abbrev AreObjects : Forms → Map Text → Type 0
AreObjects forms m = (path object : Text) → get m path ≡ Some object → IsPathText path × IsObjectText forms object

module _ (b : Broker) (t : Text) (edit : Map Text → Map Text) where
  -- a token with another cubbyhole keeps its parent, its accessor and its leases
  edits : IsEdit (with_cubbyhole edit)
  edits = record {
    same_parent = λ x. refl;
    less = λ x. record { same_accessor = refl; fewer_leases = λ _ _ e. e };
  }

  evolves-edited : Evolves b (edited b t edit)
  evolves-edited = edit_evolves b t (with_cubbyhole edit) edits

  sound-edited : (forms : Forms) → ((m : Map Text) → AreObjects forms m → AreObjects forms (edit m))
      → {who : Option Text} → Sound forms who b → Sound forms who (edited b t edit)
  sound-edited forms keeps {who} s =
      edit_sound b t (with_cubbyhole edit) edits forms who who s
      (λ q x good. edited_sound forms q x good x.parent x.ends x.uses_left (edit x.cubbyhole) x.leases good.ends
      good.uses_left (keeps x.cubbyhole good.cubbyhole) good.leases)
      (unspent_still b.tokens t (with_cubbyhole edit) who (λ x. refl) s.unspent)

-- ---- a write, a deletion, and the whole cubbyhole dropped

module _ (b : Broker) (t : Text) where
  -- a write lets the broker evolve
  pub write_evolves : (path object : Text) → Evolves b (write b t path object)
  write_evolves path object = evolves-edited b t (λ m. put m path object)

  -- and so does a deletion
  pub delete_evolves : (path : Text) → Evolves b (delete b t path)
  delete_evolves path = evolves-edited b t (λ m. without m path)

  -- and a cubbyhole that is dropped
  pub drop_owner_evolves : Evolves b (drop_owner b t)
  drop_owner_evolves = evolves-edited b t (λ m. empty)

module _ (forms : Forms) (who : Option Text) (b : Broker) (t : Text) (sound : Sound forms who b) where
  put_objects : (path object : Text) (m : Map Text) → IsPathText path → IsObjectText forms object
      → AreObjects forms m → AreObjects forms (put m path object)
  put_objects path object m hp ho all p o e =
      elim (same p path) as (λ v. same p path ≡ v → cond v (Some object) (get m p) ≡ Some o
      → IsPathText p × IsObjectText forms o) [
        | true ↦ λ at is.
            (subst IsPathText (sym (same_true p path at)) hp, subst (IsObjectText forms) (same_Some _ _ is) ho)
        | false ↦ λ _ is. all p o is
      ] refl (sym (get-put m path object p) ∙ e)

  left_objects : (path : Text) (m : Map Text) → AreObjects forms m → AreObjects forms (without m path)
  left_objects path m all p o e =
      elim (same p path) as (λ v. cond v None (get m p) ≡ Some o → IsPathText p × IsObjectText forms o) [
        | true ↦ λ is. absurd (none-some _ is)
        | false ↦ λ is. all p o is
      ] (sym (get-without m path p) ∙ e)

  -- a write of an object at a path leaves a sound broker sound, whoever may have spent its last use
  pub write_sound : (path object : Text) → IsPathText path → IsObjectText forms object
      → Sound forms who (write b t path object)
  write_sound path object hp ho =
      sound-edited b t (λ m. put m path object) forms (λ m all. put_objects path object m hp ho all) sound

  -- and so does a deletion
  pub delete_sound : (path : Text) → Sound forms who (delete b t path)
  delete_sound path = sound-edited b t (λ m. without m path) forms (λ m all. left_objects path m all) sound

  -- and a cubbyhole that is dropped
  pub drop_owner_sound : Sound forms who (drop_owner b t)
  drop_owner_sound =
      sound-edited b t (λ m. empty) forms (λ m _ p o e. absurd (none-some _ (sym (get-empty text_cmp p) ∙ e))) sound

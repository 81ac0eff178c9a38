-- What each cubbyhole has after an edit, object by object.
use Rattle.std.specs.Prelude.{◌≡◌, ◌≢◌, ◌&&◌, if◌then◌else◌, Bool, true, false, Option, Some, None, option_map, refl}
use Rattle.records.specs.Words.{option_and_then, get-empty, sym, ◌∙◌, ap, chosen, Text, text_cmp, same, Map, get, empty}
use Rattle.records.specs.Words.{put, without, Token, Broker, same_true, get-put, get-without, get-change}
use Rattle.cubbyhole.specs.Cubbyhole.{object_at, with_cubbyhole, edited, write, delete, drop_owner}

module _ (b : Broker) (t : Text) where
  -- the objects of a token whose cubbyhole is edited are those of the edited map
  at_edited : (edit : Map Text → Map Text) (u p : Text) → object_at (edited b t edit) u p
      ≡ option_and_then (λ (x : Token). get (if same u t then edit x.cubbyhole else x.cubbyhole) p) (get b.tokens u)
  at_edited edit u p =
      ap (option_and_then (λ (x : Token). get x.cubbyhole p)) (get-change b.tokens t (with_cubbyhole edit) u)
      ∙ inner (same u t) (get b.tokens u)
    where
      inner : (v : Bool) (o : Option Token)
          → option_and_then (λ (x : Token). get x.cubbyhole p)
          (option_map (λ x. if v then with_cubbyhole edit x else x) o)
          ≡ option_and_then (λ (x : Token). get (if v then edit x.cubbyhole else x.cubbyhole) p) o
      inner true None = refl
      inner true (Some x) = refl
      inner false None = refl
      inner false (Some x) = refl

  -- after a write t has the object at the path, and all else is as it was
  pub object_at-write : (path object u p : Text) → get b.tokens t ≢ None
      → object_at (write b t path object) u p ≡ (if same u t && same p path then Some object else object_at b u p)
  object_at-write path object u p here =
      at_edited (λ m. put m path object) u p
      ∙ elim (same u t) as (λ v. same u t ≡ v
      → option_and_then (λ (x : Token). get (if v then put x.cubbyhole path object else x.cubbyhole) p)
      (get b.tokens u)
      ≡ (if v && same p path then Some object else object_at b u p)) [
        | true ↦ λ is. there (get b.tokens u) (λ none. here (ap (get b.tokens) (sym (same_true u t is)) ∙ none))
        | false ↦ λ _. refl
      ] refl
    where
      there : (o : Option Token) → (o ≢ None)
          → option_and_then (λ (x : Token). get (put x.cubbyhole path object) p) o
          ≡ (if same p path then Some object else option_and_then (λ (x : Token). get x.cubbyhole p) o)
      there None n = absurd (n refl)
      there (Some x) n = get-put x.cubbyhole path object p ∙ chosen (same p path) (Some object) (get x.cubbyhole p)

  -- after a deletion t has nothing at the path, and all else is as it was
  pub object_at-delete : (path u p : Text)
      → object_at (delete b t path) u p ≡ (if same u t && same p path then None else object_at b u p)
  object_at-delete path u p =
      at_edited (λ m. without m path) u p ∙ inner (same u t) (get b.tokens u)
    where
      neither : (v : Bool) → ◌≡◌ {A = Option Text} None (if v then None else None)
      neither true = refl
      neither false = refl

      inner : (v : Bool) (o : Option Token)
          → option_and_then (λ (x : Token). get (if v then without x.cubbyhole path else x.cubbyhole) p) o
          ≡ (if v && same p path then None else option_and_then (λ (x : Token). get x.cubbyhole p) o)
      inner true None = neither (same p path)
      inner true (Some x) = get-without x.cubbyhole path p ∙ chosen (same p path) None (get x.cubbyhole p)
      inner false o = refl

  -- after its cubbyhole is dropped t has no objects, and all else is as it was
  pub object_at-drop_owner : (u p : Text)
      → object_at (drop_owner b t) u p ≡ (if same u t then None else object_at b u p)
  object_at-drop_owner u p = at_edited (λ m. empty) u p ∙ inner (same u t) (get b.tokens u)
    where
      inner : (v : Bool) (o : Option Token)
          → option_and_then (λ (x : Token). get (if v then empty else x.cubbyhole) p) o
          ≡ (if v then None else option_and_then (λ (x : Token). get x.cubbyhole p) o)
      inner true None = refl
      inner true (Some x) = get-empty text_cmp p
      inner false o = refl

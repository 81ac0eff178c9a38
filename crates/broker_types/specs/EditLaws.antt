-- Laws of one token changed in place, which keeps its parent and its accessor, and gets no lease.
use Rattle.std.proofs.Common.{◌≡◌, if◌then◌else◌, true, false, Option, refl, sym, ◌∙◌, ap, subst}
use Rattle.broker_types.specs.Words.{Text, same, change, Token, Tokens, Broker, Evolves, Forms, Sound, Unspent}
use Rattle.broker_types.specs.Words.{IsSoundToken}
use Rattle.broker_types.specs.MapLaws.{valued_is}
use Rattle.broker_types.specs.TreeLaws.{values_tree}
use Rattle.broker_types.specs.FewerLaws.{IsLess, AreFewer, fewer_evolves, fewer_sound, tree_of}

-- the change keeps the parent and the accessor, and adds no lease
pub record IsEdit (f : Token → Token) : Type 0 where
  pub same_parent : (x : Token) → (f x).parent ≡ x.parent
  pub less : (x : Token) → IsLess x (f x)

module _ (t : Text) (f : Token → Token) where
  -- the token x at q, when that at t has been changed
  abbrev edited_at : Text → Token → Token
  edited_at q x = if same q t then f x else x

  -- what holds of x and of x changed holds of the token at q
  either_holds : (P : Token → Type 0) (q : Text) (x : Token) → P x → P (f x) → P (edited_at q x)
  either_holds P q x still changed =
      elim (same q t) as (λ v. P (if v then f x else x)) [ true ↦ changed | false ↦ still ]

module _ (b : Broker) (t : Text) (f : Token → Token) (edit : IsEdit f) where
  abbrev tokens : Tokens
  tokens = change b.tokens t f

  edited_fewer : AreFewer b.tokens tokens
  edited_fewer q y e =
      let x = valued_is (edited_at t f) b.tokens q y e in (
        x.0,
        x.1,
        subst (IsLess x.0) (sym x.2)
            (either_holds t f (IsLess x.0) q x.0 (record { same_accessor = refl; fewer_leases = λ _ _ is. is })
            (edit.less x.0)),
      )

  edited_parent : (q : Text) (x : Token) → (edited_at t f q x).parent ≡ x.parent
  edited_parent q x =
      either_holds t f (λ (y : Token). y.parent ≡ x.parent) q x refl (edit.same_parent x)

  -- the broker evolves
  pub edit_evolves : Evolves b (record b { tokens = tokens })
  edit_evolves = fewer_evolves b b.clock tokens b.waiting edited_fewer (λ q w e. e)

  -- a sound broker stays sound, if the changed token is sound, and no token is spent but for who
  pub edit_sound : (forms : Forms) (was who : Option Text) → Sound forms was b
      → ((q : Text) (x : Token) → IsSoundToken forms q x → IsSoundToken forms q (f x))
      → Unspent who tokens → Sound forms who (record b { tokens = tokens })
  edit_sound forms was who sound keeps unspent =
      fewer_sound forms was who b sound b.clock tokens b.waiting sound.clock
      (values_tree (edited_at t f) b.tokens edited_parent (tree_of forms was who b sound)) edited_fewer (λ q w e. e)
      (λ q y e. let x = valued_is (edited_at t f) b.tokens q y e in
      subst (IsSoundToken forms q) (sym x.2)
      (either_holds t f (IsSoundToken forms q) q x.0 (sound.tokens.each q x.0 x.1)
      (keeps q x.0 (sound.tokens.each q x.0 x.1))))
      unspent

-- a change that leaves the number of uses leaves nobody spent
pub unspent_still : (ts : Tokens) (t : Text) (f : Token → Token) (who : Option Text)
    → ((x : Token) → (f x).uses_left ≡ x.uses_left) → Unspent who ts → Unspent who (change ts t f)
unspent_still ts t f who same_uses unspent q y e zero =
    let x = valued_is (edited_at t f) ts q y e in
    let uses : (edited_at t f q x.0).uses_left ≡ x.0.uses_left =
    either_holds t f (λ (y : Token). y.uses_left ≡ x.0.uses_left) q x.0 refl (same_uses x.0) in
    unspent q x.0 x.1 (sym uses ∙ ap (λ (z : Token). z.uses_left) (sym x.2) ∙ zero)

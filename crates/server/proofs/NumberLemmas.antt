-- Peers by their numbers, when one is written, opened or closed.
use Rattle.std.proofs.Common.{◌≡◌, ◌≢◌, ◌⊎◌, ◌<◌, ◌≤◌, ◌+◌, ◌∙◌, ℕ, Bool, true, false, Option, Some, None, refl, sym}
use Rattle.std.proofs.Common.{ap, subst}
use Rattle.std.proofs.Common.{inl, inr, arith, nat_eq, eqb-true, BTreeMap, nat_cmp, option_map}
use Rattle.std.proofs.lemmas.Bool.{eqb-false}
use Rattle.std.specs.BTreeMap.{get}
use Rattle.hub.specs.Words.{number_of}
use Rattle.server.specs.Accepted.{Connection}
use Rattle.server.specs.Numbers.{AreNumbered, connection_at, connection_of}
use Rattle.server.specs.declared.peer.Peer.{Peer}

by_number : (k conn : ℕ) (b : Bool) → nat_eq k conn ≡ b → (k ≡ conn) ⊎ (k ≢ conn)
by_number k conn true e = inl (eqb-true k conn e)
by_number k conn false e = inr (eqb-false k conn e)

pub is_or_not : (k conn : ℕ) → (k ≡ conn) ⊎ (k ≢ conn)
is_or_not k conn = by_number k conn (nat_eq k conn) refl

some_is : {X : Type 0} (u : Option X) (x y : X) → u ≡ Some x → u ≡ Some y → y ≡ x
some_is u x y p q = let e : Some y ≡ Some x = sym q ∙ p in cc e

none_is : {X : Type 0} (u : Option X) (x : X) → u ≡ None → u ≡ Some x → ⊥
none_is u x p q = let e : Some x ≡ None = sym q ∙ p in cc e

module _ {R W : Type 0} (first next : ℕ) (old new : BTreeMap ℕ (Peer R W)) (conn : ℕ) where
  written_at : (o n : Peer R W) → AreNumbered first next old → get nat_cmp old conn ≡ Some o
      → get nat_cmp new conn ≡ Some n → ((k : ℕ) → k ≢ conn → get nat_cmp new k ≡ get nat_cmp old k)
      → number_of n.link ≡ number_of o.link → (k : ℕ) (p : Peer R W) → get nat_cmp new k ≡ Some p
      → (k ≡ conn) ⊎ (k ≢ conn) → (first ≤ k) × (k < next) × (number_of p.link ≡ k)
  written_at o n all was now others number k p at (inl same) =
      let here : get nat_cmp new k ≡ Some n = ap (λ (i : ℕ). get nat_cmp new i) same ∙ now in
      let is : p ≡ n = some_is (get nat_cmp new k) n p here at in
      let before = all conn o was in
      let le = before.0 in
      let lt = before.1 in (
        omega (arith, le, same),
        omega (arith, lt, same),
        ap (λ (q : Peer R W). number_of q.link) is ∙ number ∙ before.2 ∙ sym same,
      )
  written_at o n all was now others number k p at (inr ne) = all k p (sym (others k ne) ∙ at)

  -- one was written, and has its number
  pub numbered_written : (o n : Peer R W) → AreNumbered first next old → get nat_cmp old conn ≡ Some o
      → get nat_cmp new conn ≡ Some n → ((k : ℕ) → k ≢ conn → get nat_cmp new k ≡ get nat_cmp old k)
      → number_of n.link ≡ number_of o.link → AreNumbered first next new
  numbered_written o n all was now others number = λ k p at.
      written_at o n all was now others number k p at (is_or_not k conn)

  closed_at : AreNumbered first next old → get nat_cmp new conn ≡ None
      → ((k : ℕ) → k ≢ conn → get nat_cmp new k ≡ get nat_cmp old k) → (k : ℕ) (p : Peer R W)
      → get nat_cmp new k ≡ Some p → (k ≡ conn) ⊎ (k ≢ conn) → (first ≤ k) × (k < next) × (number_of p.link ≡ k)
  closed_at all now others k p at (inl same) =
      absurd (none_is (get nat_cmp new k) p (ap (λ (i : ℕ). get nat_cmp new i) same ∙ now) at)
  closed_at all now others k p at (inr ne) = all k p (sym (others k ne) ∙ at)

  -- one was closed
  pub numbered_closed : AreNumbered first next old → get nat_cmp new conn ≡ None
      → ((k : ℕ) → k ≢ conn → get nat_cmp new k ≡ get nat_cmp old k) → AreNumbered first next new
  numbered_closed all now others = λ k p at. closed_at all now others k p at (is_or_not k conn)

  same_by : (o n : Peer R W) → get nat_cmp old conn ≡ Some o → get nat_cmp new conn ≡ Some n
      → ((k : ℕ) → k ≢ conn → get nat_cmp new k ≡ get nat_cmp old k) → connection_of n ≡ connection_of o → (k : ℕ)
      → (k ≡ conn) ⊎ (k ≢ conn) → connection_at new k ≡ connection_at old k
  same_by o n was now others same k (inl is) =
      ap (λ (i : ℕ). connection_at new i) is ∙ ap (λ u. option_map connection_of u) now
      ∙ ap (λ (c : Connection R W). Some c) same ∙ sym (ap (λ u. option_map connection_of u) was)
      ∙ ap (λ (i : ℕ). connection_at old i) (sym is)
  same_by o n was now others same k (inr ne) = ap (λ u. option_map connection_of u) (others k ne)

  -- one was written, and its connection is the same
  pub connections_same : (o n : Peer R W) → get nat_cmp old conn ≡ Some o → get nat_cmp new conn ≡ Some n
      → ((k : ℕ) → k ≢ conn → get nat_cmp new k ≡ get nat_cmp old k) → connection_of n ≡ connection_of o → (k : ℕ)
      → connection_at new k ≡ connection_at old k
  connections_same o n was now others same = λ k. same_by o n was now others same k (is_or_not k conn)

  gone_by : get nat_cmp old conn ≡ None → get nat_cmp new conn ≡ None
      → ((k : ℕ) → k ≢ conn → get nat_cmp new k ≡ get nat_cmp old k) → (k : ℕ) → (k ≡ conn) ⊎ (k ≢ conn)
      → connection_at new k ≡ connection_at old k
  gone_by was now others k (inl is) =
      ap (λ (i : ℕ). connection_at new i) is ∙ ap (λ u. option_map connection_of u) now
      ∙ sym (ap (λ u. option_map connection_of u) was) ∙ ap (λ (i : ℕ). connection_at old i) (sym is)
  gone_by was now others k (inr ne) = ap (λ u. option_map connection_of u) (others k ne)

  -- none was there
  pub connections_gone : get nat_cmp old conn ≡ None → get nat_cmp new conn ≡ None
      → ((k : ℕ) → k ≢ conn → get nat_cmp new k ≡ get nat_cmp old k) → (k : ℕ)
      → connection_at new k ≡ connection_at old k
  connections_gone was now others = λ k. gone_by was now others k (is_or_not k conn)

-- one was opened under the next number
opened_at : {R W : Type 0} (first next : ℕ) (old new : BTreeMap ℕ (Peer R W)) (n : Peer R W)
    → AreNumbered first next old → first ≤ next
    → (get nat_cmp new next ≡ Some n) ⊎ (get nat_cmp new next ≡ None)
    → ((k : ℕ) → k ≢ next → get nat_cmp new k ≡ get nat_cmp old k) → number_of n.link ≡ next
    → (k : ℕ) (p : Peer R W) → get nat_cmp new k ≡ Some p → (k ≡ next) ⊎ (k ≢ next)
    → (first ≤ k) × (k < next + 1) × (number_of p.link ≡ k)
opened_at {R} {W} first next old new n all le (inl now) others number k p at (inl same) =
    let here : get nat_cmp new k ≡ Some n = ap (λ (i : ℕ). get nat_cmp new i) same ∙ now in
    let is : p ≡ n = some_is (get nat_cmp new k) n p here at in (
      omega (arith, le, same),
      omega (arith, same),
      ap (λ (q : Peer R W). number_of q.link) is ∙ number ∙ sym same,
    )
opened_at first next old new n all le (inr now) others number k p at (inl same) =
    absurd (none_is (get nat_cmp new k) p (ap (λ (i : ℕ). get nat_cmp new i) same ∙ now) at)
opened_at first next old new n all le now others number k p at (inr ne) =
    let before = all k p (sym (others k ne) ∙ at) in
    let lt = before.1 in
    (before.0, omega (arith, lt), before.2)

pub numbered_opened : {R W : Type 0} (first next later : ℕ) (old new : BTreeMap ℕ (Peer R W)) (n : Peer R W)
    → AreNumbered first next old → first ≤ next → later ≡ next + 1
    → (get nat_cmp new next ≡ Some n) ⊎ (get nat_cmp new next ≡ None)
    → ((k : ℕ) → k ≢ next → get nat_cmp new k ≡ get nat_cmp old k) → number_of n.link ≡ next
    → AreNumbered first later new
numbered_opened {R} {W} first next later old new n all le more now others number =
    subst (λ (m : ℕ). AreNumbered first m new) (sym more)
    (λ k p at. opened_at first next old new n all le now others number k p at (is_or_not k next))

-- Connections that were accepted and served, and then served again.
use Rattle.std.proofs.Common.{◌≡◌, ◌≢◌, ◌⊎◌, ◌<◌, ◌≤◌, ◌+◌, ◌∷◌, ◌++◌, ◌∙◌, ℕ, suc, Bool, true, false, cond, List, []}
use Rattle.std.proofs.Common.{length, nat_eq, Option, Some, None, refl, sym, ap, subst, inl, inr, arith, map, flat_map}
use Rattle.std.proofs.Common.{append_assoc, append-nil, eq-eqb, ne_eqb, eqb-true, All, length-append, add-zero}
use Rattle.std.proofs.KnownBytes.{Appends-nil, Appends-trans, Consumes-nil, Consumes-trans}
use Rattle.std.proofs.lemmas.Bool.{cases_lt, eqb-false}
use Rattle.std.proofs.lemmas.Grind.{flat_map-append}
use Rattle.std.proofs.lemmas.List.{map-append}
use Rattle.std.proofs.lemmas.List.Elements.{All-head, All-tail, filter-append}
use Rattle.std.specs.Io.KnownBytes.{Appends, Consumes}
use Rattle.std.specs.List.{concat}
use Rattle.std.specs.Option.{option_or}
use Rattle.hub.specs.ServedConnection.{pieces_in}
use Rattle.hub.specs.Steps.{IsStepOf, Step, answered, closed, conn_of, faulted, fed_by, fed_in, replies_in, reply_by}
use Rattle.hub.specs.Steps.{steps_of}
use Rattle.hub.specs.Turning.{Passes}
use Rattle.hub.specs.declared.event.Event.{Event}
use Rattle.server.specs.Accepted.{AreServed, Connection, IsServed, begun, new_connection, numbered}

-- ---- the steps of one connection

conn_is : (conn : ℕ) (s : Step) → IsStepOf conn s → conn_of s ≡ conn
conn_is conn (answered e bytes) of = of.0.0
conn_is conn (faulted e) of = of.0
conn_is conn (closed k) of = of

pub own_all : (conn : ℕ) (ss : List Step) → All (IsStepOf conn) ss → steps_of conn ss ≡ ss
own_all conn [] all = refl
own_all conn (s ∷ ss) all =
    let of = conn_is conn s (All-head (IsStepOf conn) s ss all) in
    ap (λ (b : Bool). cond b (s ∷ steps_of conn ss) (steps_of conn ss)) (eq-eqb (conn_of s) conn of)
    ∙ ap (λ (l : List Step). s ∷ l) (own_all conn ss (All-tail (IsStepOf conn) s ss all))

pub own_none : (conn other : ℕ) (ss : List Step) → All (IsStepOf conn) ss → conn ≢ other → steps_of other ss ≡ []
own_none conn other [] all ne = refl
own_none conn other (s ∷ ss) all ne =
    let of = conn_is conn s (All-head (IsStepOf conn) s ss all) in
    ap (λ (b : Bool). cond b (s ∷ steps_of other ss) (steps_of other ss))
    (ne_eqb (conn_of s) other (λ same. ne (sym of ∙ same)))
    ∙ own_none conn other ss (All-tail (IsStepOf conn) s ss all) ne

own_on : (conn : ℕ) (ss ts : List Step) → steps_of conn (ss ++ ts) ≡ steps_of conn ss ++ steps_of conn ts
own_on conn ss ts = filter-append (λ (s : Step). nat_eq (conn_of s) conn) ss ts

pub concat_on : (xs ys : List (List ℕ)) → concat (xs ++ ys) ≡ concat xs ++ concat ys
concat_on [] ys = refl
concat_on (x ∷ xs) ys = ap (λ (l : List ℕ). x ++ l) (concat_on xs ys) ∙ sym (append_assoc x (concat xs) (concat ys))

pub pieces_on : (ss ts : List Step) → pieces_in (fed_in (ss ++ ts)) ≡ pieces_in (fed_in ss) ++ pieces_in (fed_in ts)
pieces_on ss ts =
    let piece : Event → List ℕ = λ (e : Event). e.piece in
    ap pieces_in (flat_map-append fed_by ss ts) ∙ ap concat (map-append piece (fed_in ss) (fed_in ts))
    ∙ concat_on (map piece (fed_in ss)) (map piece (fed_in ts))

pub replies_on : (ss ts : List Step) → replies_in (ss ++ ts) ≡ replies_in ss ++ replies_in ts
replies_on ss ts = ap concat (flat_map-append reply_by ss ts)
    ∙ concat_on (flat_map reply_by ss) (flat_map reply_by ts)

-- ---- one connection

false_is_true : false ≡ true → ⊥
false_is_true e = cc

-- nothing was done
pub served_none : {R W : Type 0} (left : R → Option (List ℕ)) (written : W → Option (List ℕ)) (o : Connection R W)
    → IsServed left written [] o o
served_none left written o = record {
  passed = [];
  reads = Consumes-nil (left o.reader);
  sends = record { sent = []; sends = Appends-nil (written o.writer); whole = append-nil o.unsent };
  going = λ going. refl;
  sent = λ going ended. absurd (false_is_true (sym going ∙ ended));
  stays = λ ended. (ended, refl, refl, refl);
}

-- what waited, was answered and was sent, twice
passes_on : (x y z : Option (List ℕ)) (a b d rs ss : List ℕ) → Passes (Appends x y) a b rs → Passes (Appends y z) b d ss
    → Passes (Appends x z) a d (rs ++ ss)
passes_on x y z a b d rs ss p q = record {
  sent = p.sent ++ q.sent;
  sends = Appends-trans x y z p.sent q.sent p.sends q.sends;
  whole = sym (append_assoc a rs ss) ∙ ap (λ (l : List ℕ). l ++ ss) p.whole ∙ append_assoc p.sent b ss
      ∙ ap (λ (l : List ℕ). p.sent ++ l) q.whole ∙ sym (append_assoc p.sent q.sent d);
}

-- pieces and what was passed over, twice: what was passed over first is nothing, or nothing was fed after it
mixed : (ps xs qs ys : List ℕ) → (xs ≡ []) ⊎ (qs ≡ []) → (ps ++ xs) ++ (qs ++ ys) ≡ (ps ++ qs) ++ (xs ++ ys)
mixed ps xs qs ys (inl none) =
    ap (λ (l : List ℕ). (ps ++ l) ++ (qs ++ ys)) none
    ∙ ap (λ (l : List ℕ). l ++ (qs ++ ys)) (append-nil ps) ∙ sym (append_assoc ps qs ys)
    ∙ ap (λ (l : List ℕ). (ps ++ qs) ++ (l ++ ys)) (sym none)
mixed ps xs qs ys (inr none) =
    ap (λ (l : List ℕ). (ps ++ xs) ++ (l ++ ys)) none ∙ append_assoc ps xs ys
    ∙ ap (λ (l : List ℕ). l ++ (xs ++ ys)) (sym (append-nil ps) ∙ ap (λ (l : List ℕ). ps ++ l) (sym none))

either_passed : (ended : Bool) (xs : List ℕ) (fed : List Event) → (ended ≡ false → xs ≡ []) → (ended ≡ true → fed ≡ [])
    → (xs ≡ []) ⊎ (pieces_in fed ≡ [])
either_passed false xs fed going stays = inl (going refl)
either_passed true xs fed going stays = inr (ap pieces_in (stays refl))

none_passed : (ended : Bool) (xs ys : List ℕ) → (ended ≡ false → xs ≡ []) → (ended ≡ true → ⊥) → ys ≡ [] → xs ++ ys ≡ []
none_passed false xs ys going never none = ap (λ (l : List ℕ). l ++ ys) (going refl) ∙ none
none_passed true xs ys going never none = absurd (never refl)

both_none : {A : Type 0} (xs ys : List A) → xs ≡ [] → ys ≡ [] → xs ++ ys ≡ []
both_none xs ys x y = ap (λ l. l ++ ys) x ∙ y

sent_on : (ended : Bool) (mid new : List ℕ) → (ended ≡ true → mid ≡ []) → (ended ≡ true → new ≡ mid)
    → (ended ≡ false → new ≡ []) → new ≡ []
sent_on true mid new first second third = second refl ∙ first refl
sent_on false mid new first second third = third refl

-- a connection that was served, and then served again
pub served_on : {R W : Type 0} (left : R → Option (List ℕ)) (written : W → Option (List ℕ)) (ss ts : List Step)
    (a b c : Connection R W) → IsServed left written ss a b → IsServed left written ts b c
    → IsServed left written (ss ++ ts) a c
served_on left written ss ts a b c p q =
    let pieces = pieces_in (fed_in ss) in
    let more = pieces_in (fed_in ts) in
    let whole : (pieces ++ p.passed) ++ (more ++ q.passed) ≡ pieces_in (fed_in (ss ++ ts)) ++ (p.passed ++ q.passed) =
    mixed pieces p.passed more q.passed
    (either_passed b.ended p.passed (fed_in ts) p.going (λ ended. (q.stays ended).2))
    ∙ ap (λ (l : List ℕ). l ++ (p.passed ++ q.passed)) (sym (pieces_on ss ts)) in
    record {
      passed = p.passed ++ q.passed;
      reads = subst (Consumes (left a.reader) (left c.reader)) whole
          (Consumes-trans (left a.reader) (left b.reader) (left c.reader) (pieces ++ p.passed) (more ++ q.passed)
          p.reads q.reads);
      sends = subst (λ (l : List ℕ). Passes (Appends (written a.writer) (written c.writer)) a.unsent c.unsent l)
          (sym (replies_on ss ts))
          (passes_on (written a.writer) (written b.writer) (written c.writer) a.unsent b.unsent c.unsent
          (replies_in ss) (replies_in ts) p.sends q.sends);
      going = λ going. none_passed b.ended p.passed q.passed p.going
          (λ ended. false_is_true (sym going ∙ (q.stays ended).0)) (q.going going);
      sent = λ going ended. sent_on b.ended b.unsent c.unsent (p.sent going) (λ e. (q.stays e).1) (λ e. q.sent e ended);
      stays = λ ended.
          let first = p.stays ended in
          let second = q.stays first.0 in (
            second.0,
            second.1 ∙ first.1,
            flat_map-append fed_by ss ts ∙ both_none (fed_in ss) (fed_in ts) first.2 second.2,
            replies_on ss ts ∙ both_none (replies_in ss) (replies_in ts) first.3 second.3,
          );
    }

-- ---- numbers

step_number : {R W : Type 0} (n : ℕ) (x : R × W) (xs : List (R × W)) (k : ℕ) → k ≢ n
    → numbered n (x ∷ xs) k ≡ numbered (suc n) xs k
step_number {R} {W} n x xs k ne =
    ap (λ (b : Bool). cond b (Some (new_connection x)) (numbered (suc n) xs k)) (ne_eqb k n ne)

pub numbered_below : {R W : Type 0} (n : ℕ) (xs : List (R × W)) (k : ℕ) → k < n → numbered n xs k ≡ None
numbered_below n [] k lt = refl
numbered_below n (x ∷ xs) k lt = step_number n x xs k (omega (arith, lt))
    ∙ numbered_below (suc n) xs k (omega (arith, lt))

pub numbered_past : {R W : Type 0} (n : ℕ) (xs : List (R × W)) (k : ℕ) → n + length xs ≤ k → numbered n xs k ≡ None
numbered_past n [] k le = refl
numbered_past n (x ∷ xs) k le = step_number n x xs k (omega (arith, le))
    ∙ numbered_past (suc n) xs k (omega (arith, le))

or_cond : {X : Type 0} (b : Bool) (x : X) (u v w : Option X) → u ≡ option_or v w
    → cond b (Some x) u ≡ option_or (cond b (Some x) v) w
or_cond true x u v w e = refl
or_cond false x u v w e = e

numbered_on : {R W : Type 0} (n : ℕ) (xs ys : List (R × W)) (k : ℕ)
    → numbered n (xs ++ ys) k ≡ option_or (numbered n xs k) (numbered (n + length xs) ys k)
numbered_on n [] ys k = ap (λ (m : ℕ). numbered m ys k) (sym (add-zero n))
numbered_on n (x ∷ xs) ys k =
    or_cond (nat_eq k n) (new_connection x) (numbered (suc n) (xs ++ ys) k) (numbered (suc n) xs k)
    (numbered (n + length (x ∷ xs)) ys k)
    (numbered_on (suc n) xs ys k
    ∙ ap (λ (m : ℕ). option_or (numbered (suc n) xs k) (numbered m ys k)) (omega arith))

-- ---- many connections

or_or : {X : Type 0} (u v w : Option X) → option_or u (option_or v w) ≡ option_or (option_or u v) w
or_or None v w = refl
or_or (Some x) v w = refl

pub or_none : {X : Type 0} (u : Option X) → option_or u None ≡ u
or_none None = refl
or_none (Some x) = refl

none_or : {X : Type 0} (u v : Option X) → option_or u v ≡ None → (u ≡ None) × (v ≡ None)
none_or None v is = (refl, is)
none_or (Some x) v is = cc is

or_is : {X : Type 0} (u v : Option X) (x : X) → u ≡ Some x → option_or u v ≡ Some x
or_is u v x is = ap (λ o. option_or o v) is

pub or_next : {X : Type 0} (u v : Option X) → u ≡ None → option_or u v ≡ v
or_next u v is = ap (λ o. option_or o v) is

some_same : {X : Type 0} (u : Option X) (x y : X) → u ≡ Some x → u ≡ Some y → y ≡ x
some_same u x y p q = let e : Some y ≡ Some x = sym q ∙ p in cc e

pub some_none : {X : Type 0} (u : Option X) (x : X) → u ≡ Some x → u ≡ None → ⊥
some_none u x p q = let e : Some x ≡ None = sym p ∙ q in cc e

no_value : {X : Type 0} (u : Option X) → ((x : X) → u ≡ Some x → ⊥) → u ≡ None
no_value None never = refl
no_value (Some x) never = absurd (never x refl)

-- all that are open have numbers below this one
abbrev pub AreBelow : {R W : Type 0} → (ℕ → Option (Connection R W)) → ℕ → Type 0
AreBelow {R} {W} f n = (k : ℕ) (o : Connection R W) → f k ≡ Some o → k < n

begun_on : {R W : Type 0} (f : ℕ → Option (Connection R W)) (n : ℕ) (xs ys : List (R × W)) (k : ℕ)
    → begun f n (xs ++ ys) k ≡ option_or (begun f n xs k) (numbered (n + length xs) ys k)
begun_on f n xs ys k = ap (λ o. option_or (f k) o) (numbered_on n xs ys k)
    ∙ or_or (f k) (numbered n xs k) (numbered (n + length xs) ys k)

below_by : {R W : Type 0} (f : ℕ → Option (Connection R W)) (n : ℕ) (xs : List (R × W)) (k : ℕ) (o : Connection R W)
    → AreBelow f n → (u : Option (Connection R W)) → f k ≡ u → option_or u (numbered n xs k) ≡ Some o
    → (k < n + length xs) ⊎ (n + length xs ≤ k) → k < n + length xs
below_by f n xs k o below u at is (inl lt) = lt
below_by f n xs k o below None at is (inr le) = absurd (some_none (numbered n xs k) o is (numbered_past n xs k le))
below_by f n xs k o below (Some x) at is (inr le) =
    let lt = below k x at in omega (arith, lt)

begun_below : {R W : Type 0} (f : ℕ → Option (Connection R W)) (n : ℕ) (xs : List (R × W)) (k : ℕ) (o : Connection R W)
    → AreBelow f n → begun f n xs k ≡ Some o → k < n + length xs
begun_below f n xs k o below is = below_by f n xs k o below (f k) refl is (cases_lt k (n + length xs))

module _ {R W : Type 0} (left : R → Option (List ℕ)) (written : W → Option (List ℕ)) where
  -- served, and then open or closed
  abbrev Left : (ℕ → Option (Connection R W)) → ℕ → List Step → Connection R W → Type 0
  Left h k own o = (n : Connection R W) × IsServed left written own o n × ((h k ≡ Some n) ⊎ (h k ≡ None))

  left_then : (ts : List Step) (m : ℕ) (g h : ℕ → Option (Connection R W)) (ys : List (R × W)) (l k : ℕ)
      (own : List Step) (o mid : Connection R W)
      → AreServed left written ys ts m g l h → k < m → IsServed left written own o mid
      → (g k ≡ Some mid) ⊎ (g k ≡ None) → Left h k (own ++ steps_of k ts) o
  left_then ts m g h ys l k own o mid q lt first (inl at) =
      let second = q.each k mid (or_is (g k) (numbered m ys k) mid at) in
      (second.0, served_on left written own (steps_of k ts) o mid second.0 first second.1, second.2)
  left_then ts m g h ys l k own o mid q lt first (inr none) =
      let second = q.none k (or_next (g k) (numbered m ys k) none ∙ numbered_below m ys k lt) in
      let same : own ≡ own ++ steps_of k ts =
      sym (append-nil own) ∙ ap (λ (x : List Step). own ++ x) (sym second.0) in
      (mid, subst (λ (x : List Step). IsServed left written x o mid) same first, inr second.1)

  left_by : (ss ts : List Step) (n m l : ℕ) (f g h : ℕ → Option (Connection R W)) (xs ys : List (R × W)) (k : ℕ)
      (o : Connection R W) → AreBelow f n
      → AreServed left written xs ss n f m g → AreServed left written ys ts m g l h → (u : Option (Connection R W))
      → begun f n xs k ≡ u → option_or u (numbered (n + length xs) ys k) ≡ Some o
      → Left h k (steps_of k ss ++ steps_of k ts) o
  left_by ss ts n m l f g h xs ys k o below p q (Some x) at is =
      let same : x ≡ o = cc is in
      let first = p.each k o (at ∙ ap (λ y. Some y) same) in
      let lt = begun_below f n xs k x below at in
      let number = p.numbers in
      left_then ts m g h ys l k (steps_of k ss) o first.0 q (omega (arith, lt, number)) first.1 first.2
  left_by ss ts n m l f g h xs ys k o below p q None at is =
      let first = p.none k at in
      let here : numbered m ys k ≡ Some o = ap (λ (x : ℕ). numbered x ys k) p.numbers ∙ is in
      let second = q.each k o (or_next (g k) (numbered m ys k) first.1 ∙ here) in
      let same : steps_of k ts ≡ steps_of k ss ++ steps_of k ts =
      ap (λ (x : List Step). x ++ steps_of k ts) (sym first.0) in
      (second.0, subst (λ (x : List Step). IsServed left written x o second.0) same second.1, second.2)

  -- served, and then served again
  pub are_served_on : (ss ts : List Step) (n m l : ℕ) (f g h : ℕ → Option (Connection R W)) (xs ys : List (R × W))
      → AreBelow f n → AreServed left written xs ss n f m g → AreServed left written ys ts m g l h
      → AreServed left written (xs ++ ys) (ss ++ ts) n f l h
  are_served_on ss ts n m l f g h xs ys below p q = record {
    numbers =
        let one = p.numbers in let two = q.numbers in let both = length-append xs ys in omega (arith, one, two, both);
    each = λ k o is.
        subst (λ (x : List Step). Left h k x o) (sym (own_on k ss ts))
        (left_by ss ts n m l f g h xs ys k o below p q (begun f n xs k) refl (sym (begun_on f n xs ys k) ∙ is));
    none = λ k is.
        let both = none_or (begun f n xs k) (numbered (n + length xs) ys k) (sym (begun_on f n xs ys k) ∙ is) in
        let first = p.none k both.0 in
        let here : numbered m ys k ≡ None = ap (λ (x : ℕ). numbered x ys k) p.numbers ∙ both.1 in
        let second = q.none k (or_next (g k) (numbered m ys k) first.1 ∙ here) in
        (own_on k ss ts ∙ both_none (steps_of k ss) (steps_of k ts) first.0 second.0, second.1);
  }

  -- all stay
  pub are_served_same : (n m : ℕ) (f g : ℕ → Option (Connection R W)) → m ≡ n → ((k : ℕ) → g k ≡ f k)
      → AreServed left written [] [] n f m g
  are_served_same n m f g number same = record {
    numbers = omega (arith, number);
    each = λ k o is. (o, served_none left written o, inl (same k ∙ sym (or_none (f k)) ∙ is));
    none = λ k is. (refl, same k ∙ sym (or_none (f k)) ∙ is);
  }

  one_each : (ss : List Step) (conn : ℕ) (f g : ℕ → Option (Connection R W)) (o n : Connection R W)
      → f conn ≡ Some o → (g conn ≡ Some n) ⊎ (g conn ≡ None) → ((k : ℕ) → k ≢ conn → g k ≡ f k)
      → All (IsStepOf conn) ss → IsServed left written ss o n → (k : ℕ) (x : Connection R W) → f k ≡ Some x
      → (b : Bool) → nat_eq k conn ≡ b → Left g k (steps_of k ss) x
  one_each ss conn f g o n was now others all served k x is true e =
      let same : k ≡ conn = eqb-true k conn e in
      let x_is : o ≡ x = some_same (f conn) x o (ap f (sym same) ∙ is) was in
      let own : ss ≡ steps_of k ss = sym (own_all conn ss all) ∙ ap (λ (i : ℕ). steps_of i ss) (sym same) in (
        n,
        subst (λ (y : Connection R W). IsServed left written (steps_of k ss) y n) x_is
            (subst (λ (l : List Step). IsServed left written l o n) own served),
        subst (λ (i : ℕ). (g i ≡ Some n) ⊎ (g i ≡ None)) (sym same) now,
      )
  one_each ss conn f g o n was now others all served k x is false e =
      let ne : k ≢ conn = eqb-false k conn e in
      let none = own_none conn k ss all (λ same. ne (sym same)) in (
        x,
        subst (λ (l : List Step). IsServed left written l x x) (sym none) (served_none left written x),
        inl (others k ne ∙ is),
      )

  -- one was served
  pub are_served_one : (ss : List Step) (conn n m : ℕ) (f g : ℕ → Option (Connection R W)) (o a : Connection R W)
      → m ≡ n → f conn ≡ Some o → (g conn ≡ Some a) ⊎ (g conn ≡ None) → ((k : ℕ) → k ≢ conn → g k ≡ f k)
      → All (IsStepOf conn) ss → IsServed left written ss o a → AreServed left written [] ss n f m g
  are_served_one ss conn n m f g o a number was now others all served = record {
    numbers = omega (arith, number);
    each = λ k x is.
        one_each ss conn f g o a was now others all served k x (sym (or_none (f k)) ∙ is) (nat_eq k conn) refl;
    none = λ k is.
        let none : f k ≡ None = sym (or_none (f k)) ∙ is in
        let ne : k ≢ conn = λ same. some_none (f conn) o was (ap f (sym same) ∙ none) in
        (own_none conn k ss all (λ same. ne (sym same)), others k ne ∙ none);
  }

  new_each : (x : R × W) (n : ℕ) (f g : ℕ → Option (Connection R W)) → AreBelow f n
      → (g n ≡ Some (new_connection x)) ⊎ (g n ≡ None) → ((k : ℕ) → k ≢ n → g k ≡ f k)
      → (k : ℕ) (o : Connection R W) → begun f n (x ∷ []) k ≡ Some o → (b : Bool) → nat_eq k n ≡ b → Left g k [] o
  new_each x n f g below now others k o is true e =
      let same : k ≡ n = eqb-true k n e in
      let free : f k ≡ None = no_value (f k) (λ y at. let lt = below k y at in omega (arith, lt, same)) in
      let here : numbered n (x ∷ []) k ≡ Some (new_connection x) =
      ap (λ (b : Bool). cond b (Some (new_connection x)) None) e in
      let o_is : new_connection x ≡ o =
      some_same (numbered n (x ∷ []) k) o (new_connection x) (sym (or_next (f k) (numbered n (x ∷ []) k) free) ∙ is)
      here in (
        o,
        served_none left written o,
        subst (λ (y : Connection R W). (g k ≡ Some y) ⊎ (g k ≡ None)) o_is
            (subst (λ (i : ℕ). (g i ≡ Some (new_connection x)) ⊎ (g i ≡ None)) (sym same) now),
      )
  new_each x n f g below now others k o is false e =
      let ne : k ≢ n = eqb-false k n e in
      let none : numbered n (x ∷ []) k ≡ None = step_number n x [] k ne in
      let was : f k ≡ Some o =
      sym (or_none (f k)) ∙ ap (λ y. option_or (f k) y) (sym none) ∙ is in
      (o, served_none left written o, inl (others k ne ∙ was))

  -- one was accepted
  pub are_served_new : (x : R × W) (n m : ℕ) (f g : ℕ → Option (Connection R W)) → AreBelow f n → m ≡ n + 1
      → (g n ≡ Some (new_connection x)) ⊎ (g n ≡ None) → ((k : ℕ) → k ≢ n → g k ≡ f k)
      → AreServed left written (x ∷ []) [] n f m g
  are_served_new x n m f g below number now others = record {
    numbers = omega (arith, number);
    each = λ k o is. new_each x n f g below now others k o is (nat_eq k n) refl;
    none = λ k is.
        let both = none_or (f k) (numbered n (x ∷ []) k) is in
        let ne : k ≢ n = λ same. some_none (numbered n (x ∷ []) k) (new_connection x)
        (ap (λ (b : Bool). cond b (Some (new_connection x)) None) (eq-eqb k n same)) both.1 in
        (refl, others k ne ∙ both.0);
  }

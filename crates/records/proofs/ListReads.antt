-- Lists, read item by item.
use Rattle.std.proofs.Common.{◌≡◌, ◌<◌, ◌^◌, ◌+◌, ◌-◌, ◌∷◌, ◌++◌, ℕ, suc, List, [], length, All, Bool, true, false, Ok}
use Rattle.records.specs.Words.{Err, refl, sym, ◌∙◌, ap, subst, arith, append_assoc, append-nil, length-append}
use Rattle.records.specs.Words.{nil_from_length, All-nil, All-head, All-tail, All-push, Fault, count, items, listed}
use Rattle.records.specs.Words.{IsListOf, ReadsField}
use Rattle.records.proofs.FieldReads.{finds_other, gives_up_too}

module _ {X : Type 0} (P : X → Type 0) (spell : X → List ℕ) where
  -- the list zs, which is spelled before the rest, has m items after those in xs
  pub record Goes (xs zs : List X) (left rest : List ℕ) (m : ℕ) : Type 0 where
    pub others : List X
    pub whole : zs ≡ xs ++ others
    pub each : All P others
    pub long : length others ≡ m
    pub spelled : left ≡ items spell others ++ rest

  -- the next of them
  record Next (xs zs : List X) (left rest : List ℕ) (m : ℕ) : Type 0 where
    pub item : X
    pub others : List X
    pub whole : zs ≡ xs ++ item ∷ others
    pub good : P item
    pub each : All P others
    pub long : suc (length others) ≡ m
    pub spelled : left ≡ spell item ++ (items spell others ++ rest)

  -- of n items those in xs are read, and m are missing
  pub record Reading (bytes : List ℕ) (xs : List X) (left : List ℕ) (n m : ℕ) : Type 0 where
    pub few : n < 2 ^ 32
    pub each : All P xs
    pub missing : length xs + m ≡ n
    pub bytes_are : bytes ≡ count n ++ (items spell xs ++ left)
    pub again : (zs : List X) (rest : List ℕ) → IsListOf P zs → bytes ≡ listed spell zs ++ rest → Goes xs zs left rest m

  next : (xs zs : List X) (left rest : List ℕ) (m : ℕ) → 0 < m → Goes xs zs left rest m → Next xs zs left rest m
  next xs zs left rest m some goes = ahead goes.others goes.whole goes.each goes.long goes.spelled
    where
      ahead : (ys : List X) → zs ≡ xs ++ ys → All P ys → length ys ≡ m → left ≡ items spell ys ++ rest
          → Next xs zs left rest m
      ahead [] whole each long spelled = absurd (omega (arith, some, long))
      ahead (y ∷ ys) whole each long spelled =
          record {
            item = y;
            others = ys;
            whole = whole;
            good = All-head P y ys each;
            each = All-tail P y ys each;
            long = long;
            spelled = spelled ∙ append_assoc (spell y) (items spell ys) rest;
          }

  items-push : (xs : List X) (x : X) (rest : List ℕ)
      → items spell (xs ++ x ∷ []) ++ rest ≡ items spell xs ++ (spell x ++ rest)
  items-push [] x rest = ap (λ t. t ++ rest) (append-nil (spell x))
  items-push (y ∷ xs) x rest =
      append_assoc (spell y) (items spell (xs ++ x ∷ [])) rest ∙ ap (λ t. spell y ++ t) (items-push xs x rest)
      ∙ sym (append_assoc (spell y) (items spell xs) (spell x ++ rest))

-- there is no count
pub list_uncounted : {X : Type 0} {P : X → Type 0} (spell : X → List ℕ) {bytes : List ℕ} (e e' : Fault) → e ≡ e'
    → ReadsField false (λ n. n < 2 ^ 32) count bytes (Err e')
    → ReadsField true (IsListOf P) (listed spell) bytes (Err e)
list_uncounted {X = X} spell e e' is r = record {
  again = λ zs rest h row_is. finds_other {X = ℕ × List ℕ} {Y = List X × List ℕ} false true (λ _. refl)
      (length zs, items spell zs ++ rest) (zs, rest) e e' is
      (r.again (length zs) (items spell zs ++ rest) h.few
      (row_is ∙ append_assoc (count (length zs)) (items spell zs) rest));
  exact = tt;
  faults = gives_up_too false true (λ _. refl) e e' is r.faults;
}

module _ {X : Type 0} {P : X → Type 0} {spell : X → List ℕ} {bytes : List ℕ} where
  pub list_begun : {left : List ℕ} {n : ℕ} → ReadsField false (λ n. n < 2 ^ 32) count bytes (Ok (n, left))
      → Reading P spell bytes [] left n n
  list_begun r = record {
    few = r.exact.0;
    each = All-nil P;
    missing = omega arith;
    bytes_are = r.exact.1;
    again = λ zs rest h is.
        let e = r.again (length zs) (items spell zs ++ rest) h.few
        (is ∙ append_assoc (count (length zs)) (items spell zs) rest) in
        record { others = zs; whole = refl; each = h.each; long = sym (ap (λ p. p.0) e); spelled = ap (λ p. p.1) e };
  }

  module _ {xs : List X} {left : List ℕ} {n m : ℕ} (r : Reading P spell bytes xs left n m) where
    pub list_more : {takes_memory : Bool} {x : X} {rest : List ℕ} → 0 < m
        → ReadsField takes_memory P spell left (Ok (x, rest))
        → Reading P spell bytes (xs ++ x ∷ []) rest n (m - 1)
    list_more {x = x} {rest = rest} some f = record {
      few = r.few;
      each = All-push P xs x r.each f.exact.0;
      missing = omega (arith, r.missing, some, length-append xs (x ∷ []));
      bytes_are = r.bytes_are ∙ ap (λ t. count n ++ (items spell xs ++ t)) f.exact.1
          ∙ ap (λ t. count n ++ t) (sym (items-push P spell xs x rest));
      again = λ zs s h is.
          let one = next P spell xs zs left s m some (r.again zs s h is) in
          let e = f.again one.item (items spell one.others ++ s) one.good one.spelled in
          let item : one.item ≡ x = sym (ap (λ p. p.0) e) in
          record {
            others = one.others;
            whole = one.whole ∙ (λ i. xs ++ item i ∷ one.others) ∙ sym (append_assoc xs (x ∷ []) one.others);
            each = one.each;
            long = omega (arith, one.long);
            spelled = ap (λ p. p.1) e;
          };
    }

    pub list_cut : {takes_memory : Bool} (e e' : Fault) → e ≡ e' → 0 < m → ReadsField takes_memory P spell left (Err e')
        → ReadsField true (IsListOf P) (listed spell) bytes (Err e)
    list_cut {takes_memory = takes_memory} e e' is some f = record {
      again = λ zs rest h row_is.
          let one = next P spell xs zs left rest m some (r.again zs rest h row_is) in
          finds_other {X = X × List ℕ} {Y = List X × List ℕ} takes_memory true (λ _. refl)
          (one.item, items spell one.others ++ rest) (zs, rest) e e' is
          (f.again one.item (items spell one.others ++ rest) one.good one.spelled);
      exact = tt;
      faults = gives_up_too takes_memory true (λ _. refl) e e' is f.faults;
    }

    pub list_read : m ≡ 0 → ReadsField true (IsListOf P) (listed spell) bytes (Ok (xs, left))
    list_read none =
        let all : n ≡ length xs = omega (arith, r.missing, none) in
        record {
          again = λ zs rest h is.
              let goes = r.again zs rest h is in
              let no_others = nil_from_length goes.others (goes.long ∙ none) in
              let whole : zs ≡ xs = goes.whole ∙ ap (λ ys. xs ++ ys) no_others ∙ append-nil xs in
              let rest_is : left ≡ rest = goes.spelled ∙ ap (λ ys. items spell ys ++ rest) no_others in
              λ i. (sym whole i, rest_is i);
          exact = (
            record { each = r.each; few = subst (λ k. k < 2 ^ 32) all r.few },
            r.bytes_are ∙ ap (λ k. count k ++ (items spell xs ++ left)) all
                ∙ sym (append_assoc (count (length xs)) (items spell xs) left),
          );
          faults = tt;
        }

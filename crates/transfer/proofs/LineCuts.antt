-- Lines that are cut from the front of bytes.
use Rattle.std.proofs.Common.{◌≡◌, ◌<◌, ◌≤◌, ◌+◌, ◌∷◌, ◌++◌, ◌&&◌, ◌==◌, not, ℕ, zero, suc, List, [], length, take}
use Rattle.std.proofs.Common.{drop, cond}
use Rattle.std.proofs.Common.{Bool, true, false, Option, Some, None, refl, sym, ap, ◌∙◌, arith, append_assoc, get_or}
use Rattle.std.proofs.Common.{nat_lt}
use Rattle.std.proofs.Common.{drop-cons, take-append-drop, take_all, subst}
use Rattle.std.proofs.KnownBytes.{Consumes-trans, Consumes-kept}
use Rattle.std.proofs.lemmas.Bool.{not-false}
use Rattle.std.proofs.lemmas.List.{drop_all}
use Rattle.std.proofs.lemmas.List.Folds.{list_all_more}
use Rattle.std.proofs.lemmas.List.Sums.{prefix_len_passes, prefix_len_stops, prefix_len-le-length}
use Rattle.std.specs.Io.KnownBytes.{Consumes, Keeps, IsAtEnd, prepend_known}
use Rattle.std.specs.List.{position, position_or_len, prefix_len}
use Rattle.std.specs.Prelude.{IfSome, IfNone}
use Rattle.records.specs.Words.{and_parts, list_all-append, lacks, line_feed, nat_tests, eqb-true, none-some, same_Some}
use Rattle.transfer.specs.Files.{fed}
use Rattle.transfer.specs.LineEnds.{IsCutAt, is_line_feed}

-- ---- the first line feed

abbrev other : ℕ → Bool
other x = not (x == line_feed)

lacks_upto : (xs : List ℕ) (i : ℕ) → i ≤ prefix_len other xs → lacks line_feed (take i xs) ≡ true
lacks_upto xs zero le = refl
lacks_upto xs (suc i) le =
    let below : i < prefix_len other xs = omega (arith, le) in
    let within : i < length xs = omega (arith, below, prefix_len-le-length other xs) in
    let on : suc i ≡ i + 1 = omega arith in
    let rest : lacks line_feed (take i xs) ≡ true = lacks_upto xs i (omega (arith, le)) in
    let here : other (get_or xs i 0) ≡ true = prefix_len_passes other xs i 0 below in
    ap (λ n. lacks line_feed (take n xs)) on ∙ list_all_more other xs i 0 within ∙ (λ j. rest j && here j)

cut_first : (xs : List ℕ) → prefix_len other xs < length xs → IsCutAt (prefix_len other xs) xs
cut_first xs within =
    let n = prefix_len other xs in
    let at : get_or xs n 0 ≡ line_feed =
    eqb-true (get_or xs n 0) line_feed (not-false (get_or xs n 0 == line_feed) (prefix_len_stops other xs 0 within)) in
    record {
      within = within;
      front = lacks_upto xs n (omega arith);
      feed = drop-cons xs n 0 within ∙ ap (λ x. x ∷ drop (suc n) xs) at;
    }

found : (xs : List ℕ) (o : Option ℕ) (b : Bool) → nat_lt (prefix_len other xs) (length xs) ≡ b
    → o ≡ cond b (Some (prefix_len other xs)) None
    → IfSome o (λ end. IsCutAt end xs) × IfNone o (lacks line_feed xs ≡ true)
found xs (Some k) true is e =
    let within : prefix_len other xs < length xs = grind (arith, nat_tests, is) in
    (subst (λ n. IsCutAt n xs) (sym (same_Some _ _ e)) (cut_first xs within), tt)
found xs (Some k) false is e = absurd (none-some k (sym e))
found xs None true is e = absurd (none-some _ e)
found xs None false is e =
    let long : length xs ≤ prefix_len other xs = grind (arith, nat_tests, is) in
    (tt, ap (lacks line_feed) (sym (take_all (length xs) xs (omega arith))) ∙ lacks_upto xs (length xs) long)

pub first_feed : (xs : List ℕ) (o : Option ℕ) → o ≡ position is_line_feed xs
    → IfSome o (λ end. IsCutAt end xs) × IfNone o (lacks line_feed xs ≡ true)
first_feed xs o is = found xs o (nat_lt (prefix_len other xs) (length xs)) refl is

-- both parts lack it
pub lacks_both : (xs ys : List ℕ) → lacks line_feed xs ≡ true → lacks line_feed ys ≡ true
    → lacks line_feed (xs ++ ys) ≡ true
lacks_both xs ys one two = list_all-append other xs ys ∙ (λ i. one i && two i)

-- and so do the parts of what lacks it
pub lacks_parts : (xs ys : List ℕ) → lacks line_feed (xs ++ ys) ≡ true
    → (lacks line_feed xs ≡ true) × (lacks line_feed ys ≡ true)
lacks_parts xs ys h = and_parts _ _ (sym (list_all-append other xs ys) ∙ h)

-- ---- bytes that wait before those of a source

-- the first of them were moved to a line
pub moved : (a known after : Option (List ℕ)) (p rest line longer : List ℕ) (n : ℕ) → after ≡ known
    → longer ≡ line ++ take n p → rest ≡ drop n p → Consumes a (prepend_known p known) line
    → Consumes a (prepend_known rest after) longer
moved a None after p rest line longer n same moved_on left so =
    subst (λ (k : Option (List ℕ)). Consumes a (prepend_known rest k) longer) (sym same) (none a so)
  where
    none : (a : Option (List ℕ)) → Consumes a None line → Consumes a None longer
    none None so = tt
    none (Some x) so = absurd so
moved a (Some ys) after p rest line longer n same moved_on left so =
    let one : Consumes (Some (p ++ ys)) (Some (rest ++ ys)) (take n p) =
    ap (λ l. l ++ ys) (sym (take-append-drop n p)) ∙ append_assoc (take n p) (drop n p) ys
    ∙ ap (λ l. take n p ++ (l ++ ys)) (sym left) in
    subst (λ (k : Option (List ℕ)). Consumes a (prepend_known rest k) longer) (sym same)
    (subst (Consumes a (Some (rest ++ ys))) (sym moved_on)
    (Consumes-trans a (Some (p ++ ys)) (Some (rest ++ ys)) line (take n p) so one))

-- and then the line feed behind them
pub fed_line : (a known : Option (List ℕ)) (p rest line : List ℕ) (end : ℕ) → IsCutAt end p → rest ≡ drop end p
    → Consumes a (prepend_known rest known) line → Consumes a (prepend_known (drop 1 rest) known) (fed line)
fed_line None known p rest line end cut is so = tt
fed_line (Some x) None p rest line end cut is so = absurd so
fed_line (Some x) (Some ys) p rest line end cut is so =
    let begins : rest ≡ line_feed ∷ drop (suc end) p = is ∙ cut.feed in
    let after : drop 1 rest ≡ drop (suc end) p = ap (drop 1) begins in
    so ∙ ap (λ l. line ++ (l ++ ys)) begins
    ∙ sym (append_assoc line (line_feed ∷ []) (drop (suc end) p ++ ys)) ∙ ap (λ l. fed line ++ (l ++ ys)) (sym after)

-- a piece was pulled
pub pulled : (old new : Option (List ℕ)) (p q : List ℕ) → p ≡ [] → Consumes old new q
    → Keeps (prepend_known p old) (prepend_known q new)
pulled None new p q none so = tt
pulled (Some xs) None p q none so = absurd so
pulled (Some xs) (Some ys) p q none so = sym so ∙ ap (λ l. l ++ xs) (sym none)

-- nothing was pulled at the end
pub ended_source : (old new : Option (List ℕ)) (p q : List ℕ) → p ≡ [] → q ≡ [] → Consumes old new q → IsAtEnd new
    → IsAtEnd (prepend_known p old)
ended_source None new p q none empty so end = tt
ended_source (Some xs) None p q none empty so end = absurd so
ended_source (Some xs) (Some ys) p q none empty so end =
    ap (λ l. l ++ xs) none ∙ so ∙ ap (λ l. l ++ ys) empty ∙ end

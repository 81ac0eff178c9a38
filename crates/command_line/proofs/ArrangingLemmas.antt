-- Command lines that stay as they are.
use Rattle.std.proofs.Common.{◌≡◌, ◌∙◌, ◌∷◌, ◌++◌, ◌&&◌, ◌||◌, Bool, true, false, not, List, [], refl, sym, ap, subst}
use Rattle.std.specs.Prelude.{if◌then◌else◌}
use Rattle.std.specs.Prelude.{codes, bytes_eq, fold}
use Rattle.std.proofs.lemmas.Bool.{and_parts, not-true}
use Rattle.std.proofs.lemmas.List.{append_assoc, append-nil}
use Rattle.std.proofs.lemmas.Slice.Eq.{bytes_eq-Decides}
use Rattle.broker_types.specs.Words.{Text}
use Rattle.command_line.specs.Arranging.{Placed, arranged, has_one_dash, is_group, is_option, is_valued, joined}
use Rattle.command_line.specs.Arranging.{line_placed, nothing_placed, paired, place}
use Rattle.command_line.specs.Laws.{OrderIsKept, are_in_order, are_others, is_single}

abbrev state : List Text → List Text → Bool → Bool → Placed
state o t waits ended = record { options = o; others = t; waits = waits; ended = ended }

-- after a word `--` each word is another
ended_all : (o t ws : List Text) → fold place (state o t false true) ws ≡ state o (t ++ ws) false true
ended_all o t [] = ap (λ (x : List Text). state o x false true) (sym (append-nil t))
ended_all o t (w ∷ ws) =
    ended_all o (t ++ w ∷ []) ws ∙ ap (λ (x : List Text). state o x false true) (append_assoc t (w ∷ []) ws)

dashes : (o t : List Text) (w : Text) → bytes_eq w (codes "--") ≡ true
    → place (state o t false false) w ≡ state o (t ++ w ∷ []) false true
dashes o t w e = rw e refl

other : (o t : List Text) (w : Text) → bytes_eq w (codes "--") ≡ false → has_one_dash w ≡ false → is_option w ≡ false
    → place (state o t false false) w ≡ state o (t ++ w ∷ []) false false
other o t w e d n = rw (e, d, n) refl

option : (o t : List Text) (w : Text) → bytes_eq w (codes "--") ≡ false → has_one_dash w ≡ false → is_option w ≡ true
    → place (state o t false false) w ≡ state (o ++ w ∷ []) t (is_valued w) false
option o t w e d n = rw (e, d, n) refl

-- options o and other words t, without one that waits
record IsPlaced (p : Placed) (o t : List Text) : Type 0 where
  pub options : p.options ≡ o
  pub others : p.others ≡ t
  pub waits : p.waits ≡ false

or_other : (a b : Bool) → a ≡ false → (a || b) ≡ true → b ≡ true
or_other true b e h = cc
or_other false b e h = h

after_dashes : (p : Placed) (o t ws : List Text) (w : Text) → p ≡ state o ((t ++ w ∷ []) ++ ws) false true
    → IsPlaced p o (t ++ w ∷ ws)
after_dashes p o t ws w e = record {
  options = ap (λ (q : Placed). q.options) e;
  others = ap (λ (q : Placed). q.others) e ∙ append_assoc t (w ∷ []) ws;
  waits = ap (λ (q : Placed). q.waits) e;
}

after_other : (p : Placed) (o t ws : List Text) (w : Text) → IsPlaced p o ((t ++ w ∷ []) ++ ws)
    → IsPlaced p o (t ++ w ∷ ws)
after_other p o t ws w i = record {
  options = i.options;
  others = i.others ∙ append_assoc t (w ∷ []) ws;
  waits = i.waits;
}

placed_as : (p q : Placed) (o t : List Text) → p ≡ q → IsPlaced q o t → IsPlaced p o t
placed_as p q o t e i = record {
  options = ap (λ (x : Placed). x.options) e ∙ i.options;
  others = ap (λ (x : Placed). x.others) e ∙ i.others;
  waits = ap (λ (x : Placed). x.waits) e ∙ i.waits;
}

others_all : (o t ws : List Text) → are_others ws ≡ true
    → IsPlaced (fold place (state o t false false) ws) o (t ++ ws)
others_all o t [] h = record { options = refl; others = sym (append-nil t); waits = refl }
others_all o t (w ∷ ws) h = by (bytes_eq w (codes "--")) refl (λ later. others_all o (t ++ w ∷ []) ws later)
  where
    by : (b : Bool) → bytes_eq w (codes "--") ≡ b
        → (are_others ws ≡ true → IsPlaced (fold place (state o (t ++ w ∷ []) false false) ws) o ((t ++ w ∷ []) ++ ws))
        → IsPlaced (fold place (state o t false false) (w ∷ ws)) o (t ++ w ∷ ws)
    by true e next = after_dashes _ o t ws w
        (ap (λ (p : Placed). fold place p ws) (dashes o t w e) ∙ ended_all o (t ++ w ∷ []) ws)
    by false e next =
        let (single, rest) = and_parts (not (has_one_dash w)) (not (is_option w) && are_others ws)
        (or_other (bytes_eq w (codes "--")) _ e h) in
        let (none, later) = and_parts (not (is_option w)) (are_others ws) rest in
        after_other _ o t ws w
        (placed_as _ _ o _ (ap (λ (p : Placed). fold place p ws)
        (other o t w e (not-true (has_one_dash w) single) (not-true (is_option w) none)))
        (next later))

-- a command of one word is not joined
alone : (w : Text) (ws : List Text) → is_group w ≡ false → paired (w ∷ ws) ≡ w ∷ ws
alone w [] e = refl
alone w (v ∷ vs) e = rw e refl

single : (w : Text) (ws : List Text) → is_single w ≡ true → joined (w ∷ ws) ≡ w ∷ ws
single w ws h =
    let (help, group) = and_parts (not (bytes_eq w (codes "help"))) (not (is_group w)) h in
    let no_help : bytes_eq w (codes "help") ≡ false = not-true (bytes_eq w (codes "help")) help in
    rw no_help (alone w ws (not-true (is_group w) group))

line : (p : Placed) (o ws : List Text) → IsPlaced p o ws → joined ws ≡ ws → line_placed p ≡ o ++ ws
line p o ws i e = rw (i.options, i.waits, i.others, e) refl

-- a word `--` is no option of the client
not_dashes : (w : Text) → is_option w ≡ true → bytes_eq w (codes "--") ≡ false
not_dashes w h = by (bytes_eq w (codes "--")) refl
  where
    by : (b : Bool) → bytes_eq w (codes "--") ≡ b → bytes_eq w (codes "--") ≡ false
    by true e =
        let same : w ≡ codes "--" = (bytes_eq-Decides w (codes "--")).0 e in
        let bad : false ≡ true = subst (λ (x : Text). is_option x ≡ true) same h in
        cc
    by false e = e

kept : (waits : Bool) (o ws : List Text) → are_in_order waits ws ≡ true
    → line_placed (fold place (state o [] waits false) ws) ≡ o ++ ws
kept true o [] h = cc
kept false o [] h = refl
kept true o (w ∷ ws) h = kept false (o ++ w ∷ []) ws h ∙ append_assoc o (w ∷ []) ws
kept false o (w ∷ ws) h = by (is_option w) refl (kept (is_valued w) (o ++ w ∷ []) ws) h
  where
    by : (b : Bool) → is_option w ≡ b
        → (are_in_order (is_valued w) ws ≡ true
        → line_placed (fold place (state (o ++ w ∷ []) [] (is_valued w) false) ws) ≡ (o ++ w ∷ []) ++ ws)
        → (if b then not (has_one_dash w) && are_in_order (is_valued w) ws
        else is_single w && are_others (w ∷ ws)) ≡ true
        → line_placed (fold place (state o [] false false) (w ∷ ws)) ≡ o ++ w ∷ ws
    by true e next h =
        let (two, later) = and_parts (not (has_one_dash w)) (are_in_order (is_valued w) ws) h in
        ap (λ (p : Placed). line_placed (fold place p ws))
        (option o [] w (not_dashes w e) (not-true (has_one_dash w) two) e)
        ∙ next later ∙ append_assoc o (w ∷ []) ws
    by false e next h =
        let (one, others) = and_parts (is_single w) (are_others (w ∷ ws)) h in
        line _ o (w ∷ ws) (others_all o [] (w ∷ ws) others) (single w ws one)

pub order_kept : OrderIsKept
unfolding arranged
order_kept program words h = ap (λ (ws : List Text). program ∷ ws) (kept false [] words h)

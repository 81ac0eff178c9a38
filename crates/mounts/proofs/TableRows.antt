-- Where no two rows have one pattern and verb, each row is found by its own.
use Rattle.std.proofs.Common.{◌≡◌, ◌∷◌, List, [], true, false, cond, All, Some, option_map, refl, sym, ◌∙◌, ap}
use Rattle.records.specs.Words.{list_any, and_parts, and_from, or_parts, not-true, false≢true, false_from_ne_true}
use Rattle.records.specs.Words.{All-nil, All-cons, All-head, All-tail, same_self, same_true, Verb}
use Rattle.std.specs.List.{find}
use Rattle.broker_types.specs.declared.ask.Verb.TheVariants as verb
use Rattle.mounts.specs.Words.{same_verb, is_row, differ, operation_for, RouteRow}

verb_self : (v : Verb) → same_verb v v ≡ true
verb_self verb.Get = refl
verb_self verb.List = refl
verb_self verb.Write = refl
verb_self verb.Delete = refl

one_verb : (v w : Verb) → same_verb v w ≡ true → v ≡ w
one_verb verb.Get verb.Get h = refl
one_verb verb.List verb.List h = refl
one_verb verb.Write verb.Write h = refl
one_verb verb.Delete verb.Delete h = refl
one_verb _ _ h = absurd (false≢true h)

-- a row has its own pattern and verb
is_itself : (r : RouteRow) → is_row r.pattern r.verb r ≡ true
is_itself r = and_from _ _ (same_self r.pattern) (verb_self r.verb)

-- and rows that differ do so both ways
apart : (r s : RouteRow) → is_row r.pattern r.verb s ≡ false → is_row s.pattern s.verb r ≡ false
apart r s h = false_from_ne_true (is_row s.pattern s.verb r) (λ is.
    let parts = and_parts _ _ is in
    let pattern : r.pattern ≡ s.pattern = same_true r.pattern s.pattern parts.0 in
    let its : r.verb ≡ s.verb = one_verb r.verb s.verb parts.1 in
    false≢true (sym h ∙ (λ i. is_row (pattern i) (its i) s) ∙ is_itself s))

-- the verb and the pattern of a row mean its operation
abbrev pub IsRouted : List RouteRow → RouteRow → Type 0
IsRouted rows r = operation_for rows r.pattern r.verb ≡ Some r.operation

after_another : (r : RouteRow) (rows later : List RouteRow) → list_any (is_row r.pattern r.verb) later ≡ false
    → All (λ (s : RouteRow). IsRouted rows s) later
    → All (λ (s : RouteRow). IsRouted (r ∷ rows) s) later
after_another r rows [] h all = All-nil (λ (s : RouteRow). IsRouted (r ∷ rows) s)
after_another r rows (s ∷ later) h all =
    let parts = or_parts (is_row r.pattern r.verb s) (list_any (is_row r.pattern r.verb) later) h in
    let other = apart r s parts.0 in
    All-cons (λ (s : RouteRow). IsRouted (r ∷ rows) s) s later
    (ap (λ v. option_map (λ (x : RouteRow). x.operation) (cond v (Some r) (find (is_row s.pattern s.verb) rows))) other
    ∙ All-head (λ (s : RouteRow). IsRouted rows s) s later all)
    (after_another r rows later parts.1 (All-tail (λ (s : RouteRow). IsRouted rows s) s later all))

pub each_route : (rows : List RouteRow) → differ rows ≡ true → All (λ (r : RouteRow). IsRouted rows r) rows
each_route [] h = All-nil (λ (r : RouteRow). IsRouted [] r)
each_route (r ∷ rows) h =
    let parts = and_parts _ _ h in
    All-cons (λ (s : RouteRow). IsRouted (r ∷ rows) s) r rows
    (ap (λ v. option_map (λ (x : RouteRow). x.operation) (cond v (Some r) (find (is_row r.pattern r.verb) rows)))
    (is_itself r))
    (after_another r rows rows (not-true _ parts.0) (each_route rows parts.1))

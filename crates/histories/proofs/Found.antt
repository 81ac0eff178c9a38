-- Steps of operations that are not refused: what a request names is found, and what it may change is changed.
use Rattle.std.proofs.Common.{◌≡◌, ◌≢◌, ◌||◌, ◌&&◌, ◌∷◌}
use Rattle.broker_model.specs.Words.{same_false, has_accessor, deleted, fixed, set, is_policy, unsupported}
use Rattle.token_tree.specs.Tokens as tree
use Rattle.wrapping.specs.Wrapping as wrapping
use Rattle.histories.specs.Words.{[], Bool, true, false, not, Option, Some, None, Result, Ok, ap, ⊤, List, is_some}
use Rattle.histories.specs.Words.{is_none, option_and_then, option_map, codes, list_any, option_map_or, sym, ◌∙◌, inl}
use Rattle.histories.specs.Words.{inr, false≢true, Text, same, same_self, Map, first_where, get, put, without, is_name}
use Rattle.histories.specs.Words.{reserved_names, first_where_is, first_where_none, Lease, Token, Broker, Engine}
use Rattle.histories.specs.Words.{Mount, Waiting, issued, kv, are_new, found_or_not, ◌>>=◌, some_or, unless, Refusal}
use Rattle.histories.specs.Words.{has_lease, enabled, engine_asked, may_go, plain_mount, is_root, policy_of, Rule}
use Rattle.histories.specs.Words.{MountCreation, holder, Reason, find, MayEnable, Asking, clocked, MeansEngine}

-- ---- an accessor

module _ (b : Broker) (accessor : Text) where
  abbrev of_waiting : Option Text
  of_waiting = wrapping.find_accessor b accessor

  -- the wrapping token that has it is found
  waiting_found : (t : Text) (w : Waiting) → get b.waiting t ≡ Some w → w.accessor ≡ accessor
      → (u : Text) × (of_waiting ≡ Some u)
  waiting_found t w there has = elim (found_or_not (first_where (has_accessor accessor) b.waiting)) [
    | inl none ↦ absurd (false≢true (sym (first_where_none (has_accessor accessor) b.waiting t w none there)
        ∙ ap (λ u. same u accessor) has ∙ same_self accessor))
    | inr e ↦ (e.0.0, ap (option_map (λ e. e.0)) e.1)
  ]

  abbrev held_by : Option Text → Result Text Refusal
  held_by o = some_or (Refusal.BadRequest Reason.InvalidAccessor) (option_map_or Some o of_waiting)

  pub held_by_token : (t : Text) → tree.find_accessor b accessor ≡ Some t → holder b accessor ≡ Ok t
  held_by_token t is = ap held_by is

  -- so what has it is found
  pub held_by_waiting : (t : Text) (w : Waiting) → get b.waiting t ≡ Some w → w.accessor ≡ accessor
      → (u : Text) × (holder b accessor ≡ Ok u)
  held_by_waiting t w there has = elim (found_or_not (tree.find_accessor b accessor)) [
    | inl none ↦
        let u = waiting_found t w there has in
        (u.0, ap held_by none ∙ ap (some_or (Refusal.BadRequest Reason.InvalidAccessor)) u.1)
    | inr u ↦ (u.0, held_by_token u.0 u.1)
  ]

-- ---- a lease

-- a lease that a token has is found by its id
pub lease_found : (b : Broker) (lease_id t : Text) (x : Token) (l : Lease) → get b.tokens t ≡ Some x
    → get x.leases lease_id ≡ Some l → (m : Lease) × (find b lease_id ≡ Some m)
lease_found b lease_id t x l there has =
    let passes : Text → Token → Bool = λ t y. has_lease lease_id y in
    elim (found_or_not (first_where passes b.tokens)) [
      | inl none ↦ absurd (false≢true (sym (first_where_none passes b.tokens t x none there)
          ∙ ap (λ o. not (is_none o)) has))
      | inr e ↦
          let its = first_where_is passes b.tokens e.0 e.1 in
          elim (found_or_not (get e.0.1.leases lease_id)) [
            | inl none ↦ absurd (false≢true (ap (λ o. not (is_none o)) (sym none) ∙ its.1))
            | inr m ↦ (m.0, ap (option_and_then (λ e. get e.1.leases lease_id)) e.1 ∙ m.1)
          ]
    ]

-- ---- names

-- two identifiers that were not given out, and differ, are new
pub both_new : (used : Map ⊤) (one other : Text) → get used one ≡ None → get used other ≡ None → one ≢ other
    → are_new used (one ∷ other ∷ []) ≡ true
both_new used one other first second differ =
    ap (λ o. is_none o && (not (same one other || false) && are_new used (other ∷ []))) first
    ∙ ap (λ v. not (v || false) && are_new used (other ∷ [])) (same_false one other differ)
    ∙ ap (λ o. is_none o && true) second

-- ---- a mount

-- a mount of another name than these may go
pub goes : (name : Text) → name ≢ codes "sys" → name ≢ codes "auth" → name ≢ codes "cubbyhole" → may_go name ≡ Ok tt
goes name sys auth own =
    ap (λ v. unless (not v) (Refusal.BadRequest Reason.MountFixed))
    (ap (λ v. v || list_any (same name) (codes "auth" ∷ codes "cubbyhole" ∷ [])) (same_false name (codes "sys") sys)
    ∙ ap (λ v. v || list_any (same name) (codes "cubbyhole" ∷ [])) (same_false name (codes "auth") auth)
    ∙ ap (λ v. v || false) (same_false name (codes "cubbyhole") own))

-- none of these names is reserved
unreserved : (name : Text) → name ≢ codes "sys" → name ≢ codes "auth" → name ≢ codes "cubbyhole"
    → name ≢ codes "identity" → list_any (same name) reserved_names ≡ false
unreserved name sys auth own identity =
    ap (λ v. v || list_any (same name) (codes "auth" ∷ codes "cubbyhole" ∷ codes "identity" ∷ []))
    (same_false name (codes "sys") sys)
    ∙ ap (λ v. v || list_any (same name) (codes "cubbyhole" ∷ codes "identity" ∷ []))
    (same_false name (codes "auth") auth)
    ∙ ap (λ v. v || list_any (same name) (codes "identity" ∷ [])) (same_false name (codes "cubbyhole") own)
    ∙ ap (λ v. v || false) (same_false name (codes "identity") identity)

-- the engine that is meant is the one that is asked for
engine_is : (asked : MountCreation) (e : Engine) → MeansEngine asked e
    → engine_asked asked.type_name asked.version ≡ Some e
unfolding same
engine_is asked kv (inl v2) = ap (λ t. engine_asked t asked.version) v2
engine_is asked kv (inr (type, two)) = ap (λ t. engine_asked t asked.version) type ∙ ap (engine_asked (codes "kv")) two
engine_is asked issued type = ap (λ t. engine_asked t asked.version) type

-- so it is enabled
pub comes : (a : Asking) (name : Text) (asked : MountCreation) (m : MayEnable a name asked)
    → enabled (clocked a).mounts name asked.type_name asked.version
    ≡ Ok (put (clocked a).mounts name (plain_mount m.engine))
comes a name asked m =
    let here = (clocked a).mounts in
    let put_it : Result Mount Refusal → Result (Map Mount) Refusal = λ r. r >>= (λ x. Ok (put here name x)) in
    let of_engine : Option Engine → Result Mount Refusal = λ o.
    some_or (Refusal.BadRequest Reason.UnsupportedMount) o >>= (λ e. Ok (plain_mount e)) in
    let free : Bool → Result Mount Refusal = λ v.
    unless (not v) (Refusal.BadRequest Reason.PathInUse)
    >>= (λ u. of_engine (engine_asked asked.type_name asked.version)) in
    ap (λ v. put_it (unless v (Refusal.BadRequest Reason.InvalidName)
    >>= (λ u. free (is_some (get here name) || list_any (same name) reserved_names)))) m.is_name
    ∙ ap (λ (o : Option Mount). put_it (free (is_some o || list_any (same name) reserved_names))) m.free
    ∙ ap (λ v. put_it (free (false || v)))
    (unreserved name m.unreserved.0 m.unreserved.1 m.unreserved.2 m.unreserved.3)
    ∙ ap (λ o. put_it (of_engine o)) (engine_is asked m.engine m.means)

-- ---- a policy

-- a policy of another name than `root` is set
pub sets : (policies : Map Text) (name text : Text) → is_name name ≡ true → name ≢ codes "root"
    → is_policy text ≡ true → set policies name text ≡ Ok (put policies name text)
sets policies name text named root is = elim (found_or_not (policy_of text)) [
  | inl none ↦ absurd (false≢true (ap (λ o. is_some o) (sym none) ∙ is))
  | inr rules ↦
      let put_it : Result ⊤ Refusal → Result (Map Text) Refusal = λ r. r >>= (λ u. Ok (put policies name text)) in
      let read : Option (List Rule) → Result ⊤ Refusal = λ o. some_or unsupported o >>= (λ rs. Ok tt) in
      ap (λ v. put_it (unless v (Refusal.BadRequest Reason.InvalidName)
      >>= (λ u. unless (not (is_root name)) fixed >>= (λ w. read (policy_of text))))) named
      ∙ ap (λ v. put_it (unless (not v) fixed >>= (λ w. read (policy_of text)))) (same_false name (codes "root") root)
      ∙ ap (λ o. put_it (read o)) rules.1
]

-- and removed, if it is not `default` either
pub removes : (policies : Map Text) (name : Text) → name ≢ codes "root" → name ≢ codes "default"
    → deleted policies name ≡ Ok (without policies name)
removes policies name root default =
    ap (λ v. unless (not (v || same name (codes "default"))) fixed >>= (λ u. Ok (without policies name)))
    (same_false name (codes "root") root)
    ∙ ap (λ v. unless (not v) fixed >>= (λ u. Ok (without policies name))) (same_false name (codes "default") default)

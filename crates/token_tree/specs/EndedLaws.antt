-- Which tokens end by revocation and by expiry.
use Rattle.std.specs.Prelude.{◌≡◌, ◌&&◌, ℕ, Bool, true, false, not, cond, Option, Some, None, option_map, is_some, refl}
use Rattle.records.specs.Words.{is_none, option_and_then, list_any, list_all, sym, ◌∙◌, ap, inl, inr, not-not, Text}
use Rattle.records.specs.Words.{same, get, keep, without, Token, Tokens, is_under, is_alive, outlasts, orphaned_by}
use Rattle.records.specs.Words.{with_live_leases, Broker, revoke, revoke_orphan, found_or_not, get-keep, get-without}
use Rattle.records.specs.Words.{get-map_values, lineage_none}
use Rattle.token_tree.specs.Tokens.{has_ended, without_expired}

none_changed : (f : Token → Token) (o : Option Token) → is_none (option_map f o) ≡ is_none o
none_changed f None = refl
none_changed f (Some x) = refl

-- of what is kept, the tokens that do not pass end
kept_ended : (ts : Tokens) (p : Text → Bool) (q : Text) → (get ts q ≡ None → p q ≡ true)
    → (is_some (get ts q) && is_none (get (keep p ts) q)) ≡ not (p q)
kept_ended ts p q unknown =
    ap (λ o. is_some (get ts q) && is_none o) (get-keep p ts q)
    ∙ elim (found_or_not (get ts q)) [
      | inl none ↦ ap (λ o. is_some o && is_none (cond (p q) o None)) none ∙ sym (ap not (unknown none))
      | inr x ↦ ap (λ o. is_some o && is_none (cond (p q) o None)) x.1 ∙ by x.0 (p q)
    ]
  where
    by : (x : Token) (v : Bool) → is_none (cond v (Some x) None) ≡ not v
    by x true = refl
    by x false = refl

-- by revocation of t, the tokens under it end
pub ended_by_revocation : (b : Broker) (t q : Text) → has_ended b (revoke b t) q ≡ is_under b.tokens q t
ended_by_revocation b t q =
    kept_ended b.tokens (λ q. not (is_under b.tokens q t)) q
    (λ none. ap (λ l. not (list_any (same t) l)) (lineage_none b.tokens q none))
    ∙ not-not (is_under b.tokens q t)

-- by revocation of t alone, t ends if it is a token
pub ended_by_revocation_alone : (b : Broker) (t q : Text)
    → has_ended b (revoke_orphan b t) q ≡ (is_some (get b.tokens q) && same q t)
ended_by_revocation_alone b t q =
    ap (λ o. is_some (get b.tokens q) && is_none o) (get-map_values (λ q. orphaned_by t) (without b.tokens t) q)
    ∙ ap (λ v. is_some (get b.tokens q) && v) (none_changed (orphaned_by t) (get (without b.tokens t) q))
    ∙ ap (λ o. is_some (get b.tokens q) && is_none o) (get-without b.tokens t q)
    ∙ by (get b.tokens q) (same q t)
  where
    by : (o : Option Token) (v : Bool) → (is_some o && is_none (cond v None o)) ≡ (is_some o && v)
    by None v = refl
    by (Some x) true = refl
    by (Some x) false = refl

-- by now, the tokens that are not alive end
pub ended_by_now : (b : Broker) (now : ℕ) (q : Text)
    → has_ended b (without_expired b now) q ≡ not (is_alive now b.tokens q)
ended_by_now b now q =
    ap (λ o. is_some (get b.tokens q) && is_none o)
    (get-map_values (λ q. with_live_leases now) (keep (is_alive now b.tokens) b.tokens) q)
    ∙ ap (λ v. is_some (get b.tokens q) && v)
    (none_changed (with_live_leases now) (get (keep (is_alive now b.tokens) b.tokens) q))
    ∙ kept_ended b.tokens (is_alive now b.tokens) q (λ none.
    ap (list_all (λ a. outlasts now (option_and_then (λ (x : Token). x.ends) (get b.tokens a))))
    (lineage_none b.tokens q none))

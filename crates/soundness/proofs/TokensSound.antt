-- The tokens of the broker that is read off sound rows are sound.
use Rattle.std.proofs.Common.{◌≡◌, ◌≢◌, ◌+◌, ◌++◌, ◌∷◌, ◌⊎◌, ℕ, zero, suc, [], length, drop, true, is_none, unwrap_or}
use Rattle.broker_model.specs.Words.{Option, Some, None, option_map_or, refl, sym, ◌∙◌, ap, subst, inl, inr}
use Rattle.broker_model.specs.Words.{lt_of_le_of_lt, none-some, Text, ends_within, ParentsExist, ChainsEnd}
use Rattle.broker_model.specs.Words.{ends_in_time, Map, get, found_or_not, mapped, IsIdentifier, IsShortText}
use Rattle.broker_model.specs.Words.{IsPathText, IsObjectText, IsSoundToken, IsSoundLease, SoundTokens, Unspent, Token}
use Rattle.broker_model.specs.Words.{Lease, forms, Row, key_path, few_listed, each_listed, entry_row, token_len, slash}
use Rattle.broker_model.specs.Words.{Table, table_of, TokenEntry, Rows}
use Rattle.records.specs.declared.kind.Kind.TheVariants as kind
use Rattle.soundness.specs.Words.{Owned, AreSound, EndsIn}
use Rattle.soundness.proofs.ReadBack as read
use Rattle.soundness.proofs.TokenFacts.{had_identifier, token_name, token_long, token_is, token_here, entry_row_at}
use Rattle.soundness.proofs.TokenFacts.{held_by}

module _ (rows : Rows) (s : AreSound (table_of rows)) where
  abbrev at : Table
  at = table_of rows

  abbrev tokens : Map Token
  tokens = read.tokens rows s

  accessor_good : (a : Text) (row : Row) → at kind.Accessor a ≡ Some row → IsIdentifier a
  accessor_good a row is =
      had_identifier at s.identifiers.0 (kind.Accessor, a) a (s.identifiers.1 kind.Accessor a row is)

  credential_good : (c : Text) (row : Row) → at kind.Credential c ≡ Some row → IsIdentifier c
  credential_good c row is =
      had_identifier at s.identifiers.0 (kind.Credential, c) c (s.identifiers.1 kind.Credential c row is)

  object_good : (t path object : Text) → length t ≡ token_len → get (read.cubbyhole rows s t) path ≡ Some object
      → IsPathText path × IsObjectText forms object
  object_good t path object long is =
      let kept : read.object_read rows s t path ≡ Some object = sym (read.get-cubbyhole rows s t path long) ∙ is in
      let o = mapped (λ (o : Owned). o.1) (get (read.object_map rows s) (t ++ slash ∷ path)) object kept in
      let good = read.object_good rows s (t ++ slash ∷ path) o.0 o.1 in
      let here = token_here rows s o.0.0 good.owner in
      let own_long = token_long rows s o.0.0 _ (entry_row_at rows s o.0.0 here.0 here.1) in
      let one : good.path ≡ path =
      sym (key_path o.0.0 good.path own_long) ∙ ap (drop (token_len + 1)) (sym good.key) ∙ key_path t path long in
      (subst IsPathText one good.is_path_text, subst (IsObjectText forms) (sym o.2) good.object)

  lease_good : (t lease_id : Text) (l : Lease) → get (read.leases rows s t) lease_id ≡ Some l → IsSoundLease lease_id l
  lease_good t lease_id l is =
      let good = read.held_good rows s lease_id (t, l) (held_by rows s t lease_id l is) in
      record {
        name = good.name;
        issued = good.in_range.issued;
        ttl = good.ttl;
        max_ttl = good.in_range.max_ttl;
        ends = good.in_range.ends;
        renewed = good.in_range.renewed;
        credential = credential_good l.credential _ good.credential;
      }

  entry_sound : (t : Text) (x : TokenEntry) → get (read.entry_map rows s) t ≡ Some x
      → IsSoundToken forms t (read.token_of rows s t x)
  entry_sound t x is =
      let good = read.entry_good rows s t x is in
      let row = entry_row_at rows s t x is in
      let long = token_long rows s t _ row in
      record {
        name = token_name rows s t _ row;
        accessor = accessor_good x.accessor _ good.accessor;
        policy_names = good.policy_names;
        policies_ascend = good.in_range.policies.ascend;
        few_policies = good.in_range.policies.names.few;
        issued = good.in_range.issued;
        ends = good.in_range.ends;
        ttl = good.in_range.ttl;
        explicit_max_ttl = good.in_range.explicit_max_ttl;
        period = good.in_range.period;
        uses_left = good.in_range.uses_left;
        few_meta = lt_of_le_of_lt (few_listed x.meta) good.in_range.meta.members.few;
        meta = each_listed (λ name value. IsShortText name × IsShortText value) x.meta good.in_range.meta.members.each;
        cubbyhole = λ path object at_path. object_good t path object long at_path;
        leases = λ lease_id l at_id. lease_good t lease_id l at_id;
      }

  token_sound : (t : Text) (y : Token) → get tokens t ≡ Some y → IsSoundToken forms t y
  token_sound t y is =
      let x = token_is rows s t y is in subst (IsSoundToken forms t) (sym x.2) (entry_sound t x.0 x.1)

  parents : ParentsExist tokens
  parents t p y is parent none =
      let x = token_is rows s t y is in
      let good = read.entry_good rows s t x.0 x.1 in
      let here = token_here rows s p (good.parent p (ap (λ (z : Token). z.parent) (sym x.2) ∙ parent)) in
      none-some _ (sym none ∙ here.2)

  -- ---- chains of parents

  abbrev step : ℕ → Option Token → Type 0
  step n o = option_map_or (λ (x : Token). option_map_or (ends_within n tokens) x.parent true) o true ≡ true

  climbs : (n : ℕ) → ((p : Text) → EndsIn n at p → ends_within n tokens p ≡ true) → (x : TokenEntry)
      → x.parent ≢ Some []
      → (entry_row x).owner ≡ [] ⊎ EndsIn n at (entry_row x).owner
      → option_map_or (ends_within n tokens) x.parent true ≡ true
  climbs n above x filled ends = elim (found_or_not x.parent) [
    | inl none ↦ ap (λ o. option_map_or (ends_within n tokens) o true) none
    | inr p ↦
        let owner : (entry_row x).owner ≡ p.0 = ap (λ o. unwrap_or o []) p.1 in
        ap (λ o. option_map_or (ends_within n tokens) o true) p.1 ∙ elim ends [
          | inl empty ↦ absurd (filled (p.1 ∙ ap Some (sym owner ∙ empty)))
          | inr further ↦ above p.0 (subst (EndsIn n at) owner further)
        ]
  ]

  ends : (n : ℕ) (t : Text) → EndsIn n at t → ends_within n tokens t ≡ true
  ends zero t e = absurd e
  ends (suc n) t e = elim (found_or_not (get tokens t)) [
    | inl none ↦ subst (step n) (sym none) refl
    | inr y ↦
        let x = token_is rows s t y.0 y.1 in
        let range = (read.entry_good rows s t x.0 x.1).in_range in
        subst (step n) (sym (y.1 ∙ ap Some x.2))
        (climbs n (ends n) x.0 range.parent (e (entry_row x.0) (entry_row_at rows s t x.0 x.1)))
  ]

  chains : ChainsEnd tokens
  chains t = elim (found_or_not (get tokens t)) [
    | inl none ↦ ends_in_time tokens t 0 (ap is_none none)
    | inr y ↦
        let x = token_is rows s t y.0 y.1 in
        let e = s.chains t (entry_row x.0) (entry_row_at rows s t x.0 x.1) in
        ends_in_time tokens t e.0 (ends e.0 t e.1)
  ]

  pub tokens_sound : SoundTokens forms tokens
  tokens_sound = record { each = token_sound; parents_exist = parents; chains_end = chains }

  -- no token has spent its last use
  pub tokens_unspent : Unspent None tokens
  tokens_unspent t y is spent =
      let x = token_is rows s t y is in
      absurd ((read.entry_good rows s t x.0 x.1).unspent (ap (λ (z : Token). z.uses_left) (sym x.2) ∙ spent))

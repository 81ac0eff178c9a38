-- A row that breaks a rule is none of sound rows: identifiers, origins, chains of parents, and each rule.
use Rattle.std.proofs.Common.{◌≡◌, ◌≢◌, [], ℕ, zero, suc, unwrap_or, Some, None, sym, ◌∙◌, ap, subst, inl, inr}
use Rattle.broker_model.specs.Words.{Text, token_text, id, found_or_not, token_identifier, Waiting, Kind, Row, RowKey}
use Rattle.broker_model.specs.Words.{IsWaitingInRange, waiting_row, waiting_row-injective, Table, table_of, Rows}
use Rattle.records.specs.declared.kind.Kind.TheVariants as kind
use Rattle.soundness.specs.Words.{Breaks, BreaksAt, BreaksChain, BreaksMark, BreaksPlace, BreaksOrigin, HasIdentifier}
use Rattle.soundness.specs.Words.{RootedIn, AreOfABroker, RowsOfABrokerAreSound, AreSound, IsHad, EndsIn, Rule, Trouble}
use Rattle.soundness.specs.declared.trouble.Rule.TheVariants as rule
use Rattle.soundness.proofs.IdentifiersSound.{after_prefix}
use Rattle.soundness.proofs.OthersSound.{one_row}
use Rattle.soundness.proofs.TokenFacts.{had_identifier}
use Rattle.soundness.proofs.BrokenLemmas.{in_format, is_key, of_format_2, no_bad_text, no_bad_number, no_spent}
use Rattle.soundness.proofs.BrokenLemmas.{no_lost_parent, no_lost_owner, no_lost_accessor, no_lost_credential}
use Rattle.soundness.proofs.BrokenLemmas.{token_key}

module _ (rows : Table) (s : AreSound rows) where
  -- ---- chains of parents

  filled_row : (k : Kind) (q : Text) → rows k q ≢ None → (row : Row) × (rows k q ≡ Some row)
  filled_row k q here = elim (found_or_not (rows k q)) [
    | inl none ↦ absurd (here none)
    | inr row ↦ row
  ]

  rooted_in : (n : ℕ) (t : Text) (row : Row) → rows kind.Token t ≡ Some row → EndsIn n rows t → RootedIn n rows t
  rooted_in zero t row here ends = absurd ends
  rooted_in (suc n) t row here ends =
      let x = s.each kind.Token t row here in
      let owner : row.owner ≡ unwrap_or x.0.parent [] = ap (λ (r : Row). r.owner) x.2 in (
        token_key rows s t row here,
        (
          row,
          here,
          elim (found_or_not x.0.parent) [
            | inl none ↦ inl (owner ∙ ap (λ o. unwrap_or o []) none)
            | inr p ↦
                let is : row.owner ≡ p.0 = owner ∙ ap (λ o. unwrap_or o []) p.1 in
                let parent = filled_row kind.Token p.0 (x.1.parent p.0 p.1) in
                elim (ends row here) [
                  | inl empty ↦ inl empty
                  | inr further ↦ inr (subst (RootedIn n rows) (sym is)
                      (rooted_in n p.0 parent.0 parent.1 (subst (EndsIn n rows) is further)))
                ]
          ],
        ),
      )

  no_lost_chain : (k : Kind) (q : Text) (row : Row) → rows k q ≡ Some row → BreaksChain rows k q → ⊥
  no_lost_chain kind.Token q row is bad =
      let e = s.chains q row is in bad (e.0, rooted_in e.0 q row is e.1)
  no_lost_chain _ q row is bad = absurd bad

  -- ---- identifiers

  -- a token has one identifier
  of_text : (q i j : Text) → q ≡ token_text i → q ≡ token_text j → i ≡ j
  of_text q i j is_i is_j =
      sym (after_prefix i) ∙ ap token_identifier (sym is_i ∙ is_j) ∙ after_prefix j

  -- each that a row has is had by it
  had_by : (k : Kind) (q : Text) (row : Row) (i : Text) → rows k q ≡ Some row → HasIdentifier k q i
      → IsHad rows s.identifiers.0 (k, q) i
  had_by kind.Token q row i here has =
      let had = s.identifiers.1 kind.Token q row here in
      subst (IsHad rows s.identifiers.0 (kind.Token, q)) (of_text q had.0 i had.1 has) had.2
  had_by kind.Waiting q row i here has =
      let had = s.identifiers.1 kind.Waiting q row here in
      subst (IsHad rows s.identifiers.0 (kind.Waiting, q)) (of_text q had.0 i had.1 has) had.2
  had_by kind.Accessor q row i here has =
      subst (IsHad rows s.identifiers.0 (kind.Accessor, q)) has (s.identifiers.1 kind.Accessor q row here)
  had_by kind.Credential q row i here has =
      subst (IsHad rows s.identifiers.0 (kind.Credential, q)) has (s.identifiers.1 kind.Credential q row here)
  had_by kind.Lease q row i here has =
      subst (IsHad rows s.identifiers.0 (kind.Lease, q)) has (s.identifiers.1 kind.Lease q row here)
  had_by _ q row i here has = absurd has

  each_marked : (k : Kind) (q : Text) (row : Row) → rows k q ≡ Some row → BreaksMark rows k q → ⊥
  each_marked k q row is bad = (had_by k q row bad.0 is bad.1).3 bad.2

  in_one_place : (k : Kind) (q : Text) (row : Row) → rows k q ≡ Some row → BreaksPlace rows k q → ⊥
  in_one_place k q row is bad =
      let there = filled_row bad.other.0 bad.other.1 bad.there in
      bad.is_other (one_row rows s.identifiers.0 bad.other (k, q) (id bad.word)
      (had_by bad.other.0 bad.other.1 there.0 (id bad.word) there.1 bad.has_it)
      (had_by k q row (id bad.word) is bad.here))

  -- ---- origins

  origin_of : (t : Text) (w : Waiting) → IsWaitingInRange w → rows kind.Waiting t ≡ Some (waiting_row w)
      → IsHad rows s.origins.0 (kind.Waiting, t) w.origin
  origin_of t w range is =
      let o = s.origins.1 t (waiting_row w) is in
      let one : o.0 ≡ w = sym (waiting_row-injective w o.0 range o.1.0 o.2) in
      subst (λ (v : Waiting). IsHad rows s.origins.0 (kind.Waiting, t) v.origin) one o.1.1

  no_bad_origin : (k : Kind) (q : Text) (row : Row) → rows k q ≡ Some row → BreaksOrigin rows k q row → ⊥
  no_bad_origin kind.Waiting q row is bad =
      let had = origin_of q bad.0 bad.1.0 (is ∙ ap Some bad.2) in
      elim (bad.1.1) [
        | inl none ↦ none (had_identifier rows s.origins.0 (kind.Waiting, q) bad.0.origin had)
        | inr further ↦ elim further [
          | inl unmarked ↦ had.3 unmarked
          | inr other ↦
              let it = origin_of other.0 other.1 other.3 other.4 in
              other.2 (ap (λ (key : RowKey). key.1)
              (one_row rows s.origins.0 (kind.Waiting, other.0) (kind.Waiting, q) bad.0.origin
              (subst (IsHad rows s.origins.0 (kind.Waiting, other.0)) other.5 it) had))
        ]
      ]
  no_bad_origin _ q row is bad = absurd bad

  -- ---- each rule

  no_rule_broken : (r : Rule) (k : Kind) (q : Text) (row : Row) → rows k q ≡ Some row → BreaksAt rows r k q row → ⊥
  no_rule_broken rule.Missing k q row is bad = absurd bad
  no_rule_broken rule.Format k q row is bad = bad (in_format rows s k q row is)
  no_rule_broken rule.OldFormat k q row is bad =
      of_format_2 rows s q row (ap (λ (l : Kind). rows l q) (sym bad.0) ∙ is) bad.1.0 bad.1.2
  no_rule_broken rule.Key k q row is bad = bad (is_key rows s k q row is)
  no_rule_broken rule.Text k q row is bad = no_bad_text rows s k q row is bad
  no_rule_broken rule.Number k q row is bad = no_bad_number rows s k q row is bad
  no_rule_broken rule.Uses k q row is bad = no_spent rows s k q row is bad
  no_rule_broken rule.Parent k q row is bad = no_lost_parent rows s k q row is bad
  no_rule_broken rule.Chain k q row is bad = no_lost_chain k q row is bad
  no_rule_broken rule.Owner k q row is bad = no_lost_owner rows s k q row is bad
  no_rule_broken rule.Accessor k q row is bad = no_lost_accessor rows s k q row is bad
  no_rule_broken rule.Credential k q row is bad = no_lost_credential rows s k q row is bad
  no_rule_broken rule.Mark k q row is bad = each_marked k q row is bad
  no_rule_broken rule.Place k q row is bad = in_one_place k q row is bad
  no_rule_broken rule.Origin k q row is bad = no_bad_origin k q row is bad

  -- sound rows break none
  pub none_broken : (t : Trouble) → Breaks rows t → ⊥
  none_broken t bad = elim bad [
    | inl missing ↦ s.clock (sym (λ i. rows (missing.of_clock i) (missing.no_key i)) ∙ missing.no_row)
    | inr row ↦ no_rule_broken t.rule t.kind t.key row.0 row.1 row.2
  ]

-- so rows that break one are not those of a broker
pub of_no_broker : RowsOfABrokerAreSound → (rows : Rows) (t : Trouble) → Breaks (table_of rows) t → AreOfABroker rows
    → ⊥
of_no_broker law rows t bad broker = none_broken (table_of rows) (law rows broker) t bad

-- What a walk over all rows tells of them.
use Rattle.std.proofs.Common.{◌≡◌, ◌≢◌, ◌<◌, ◌&&◌, ◌++◌, ◌⊎◌, ◌∷◌, [], ℕ, suc, List, All, Bool, true, false, cond, None}
use Rattle.std.proofs.Common.{Some, length, nat_eq, refl, sym, ap, subst, ◌∙◌, inl, arith}
use Rattle.broker_model.specs.Words.{All-contains, All-nil, All-push, Contains-get_or, and_parts, filter, get, get_or}
use Rattle.broker_model.specs.Words.{is_le, is_of_kind, none-some, passing_each, same_kind, starts_with, Text, text_cmp}
use Rattle.broker_model.specs.Words.{Kind, Row, RowKey, table_of, Rows, rows_under}
use Rattle.records.specs.Words.{rows_upto}
use Rattle.records.specs.declared.kind.Kind.TheVariants as kind
use Rattle.soundness.specs.declared.trouble.Rule.TheVariants as rule
use Rattle.soundness.specs.Words.{Trouble, Walk, AreOfABroker, EachEnds, HasEachRooted, IsEntry}
use Rattle.soundness.specs.Words.{IsListed, SoundRowsAreOfABroker, Tells, Walked, WasPassed, noted}
use Rattle.soundness.proofs.VisitLemmas.{passed_sound}
use Rattle.soundness.proofs.WalkLemmas.{empty_before, longer}

-- ---- a row that is not there

filter_none : {X : Type 0} (p : X → Bool) (xs : List X) → All (λ x. p x ≡ false) xs → filter p xs ≡ []
filter_none p [] all = refl
filter_none p (x ∷ xs) all =
    ap (λ b. cond b (x ∷ filter p xs) (filter p xs)) (all 0 x (omega arith))
    ∙ filter_none p xs (λ i d below. all (suc i) d (omega (arith, below)))

abbrev is_under_clock : RowKey × Row → Bool
is_under_clock e = is_of_kind kind.Clock e.0 && starts_with nat_eq e.0.1 []

module _ (rows : Rows) (none : table_of rows kind.Clock [] ≡ None) where
  low : (q : Text) (row : Row) → table_of rows kind.Clock q ≡ Some row → is_le (text_cmp q []) ≡ false
  low [] row here = absurd (none-some row (sym none ∙ here))
  low (c ∷ q) row here = refl

  -- no row of the clock is not above the empty key
  none_there : 0 ≡ length (rows_upto rows kind.Clock [] [])
  none_there =
      let under = rows_under rows kind.Clock [] in
      sym
      (ap length
      (filter_none (λ e. is_le (text_cmp e.0.1 [])) under
      (λ i d below.
      let e = get_or under i d in
      let row = All-contains
      (λ (f : RowKey × Row). (get rows f.0 ≡ Some f.1) × (is_under_clock f ≡ true)) under e
      (passing_each rows is_under_clock) (Contains-get_or under i d below) in
      let of_kind : e.0.0 ≡ kind.Clock = same_kind e.0.0 kind.Clock (and_parts _ _ row.1).0 in
      low e.0.1 e.1 (subst (λ (k : Kind). table_of rows k e.0.1 ≡ Some e.1) of_kind row.0))))

  -- the trouble tells that it is missing
  pub missing_told : (t : Trouble) → t.kind ≡ kind.Clock → t.key ≡ [] → t.rule ≡ rule.Missing → t.number ≡ 0
      → (old new : List Trouble) → old ≡ [] → new ≡ old ++ t ∷ [] → All (Tells rows) new
  missing_told t is_kind is_key is_rule is_number old new empty pushed =
      subst (All (Tells rows)) (sym (pushed ∙ ap (λ l. l ++ t ∷ []) empty))
      (All-push (Tells rows) [] t (All-nil (Tells rows)) (record {
        breaks = inl (record {
          of_rule = is_rule;
          of_clock = is_kind;
          no_key = is_key;
          no_row = (λ i. table_of rows (is_kind i) (is_key i)) ∙ none;
        });
        number = is_number ∙ none_there ∙ (λ i. length (rows_upto rows (sym is_kind i) [] (sym is_key i)));
      }))

-- ---- all rows

module _ (first one two : Rows) (same_one : one ≡ first) (same_two : two ≡ one) (a b : Walk)
    (w : Walked two (IsEntry (table_of two)) a b) where
  walked : Walked first (IsEntry (table_of first)) a b
  walked = subst (λ (m : Rows). Walked m (IsEntry (table_of m)) a b) (same_two ∙ same_one) w

  module _ (ends_one : EachEnds (table_of one) a.notes.rooted) where
    ends : EachEnds (table_of first) a.notes.rooted
    ends = subst (λ (m : Rows). EachEnds (table_of m) a.notes.rooted) same_one ends_one

    -- if none is in trouble, the rows are those of a broker
    pub checked : SoundRowsAreOfABroker → (a.troubles.items ≡ [] → table_of first kind.Clock [] ≢ None)
        → 0 < a.most → b.troubles.items ≡ [] → AreOfABroker first
    checked law clock some empty =
        let before = empty_before a.troubles.items b.troubles.items
        (longer a.troubles.items walked.at_end.0 b.troubles.items walked.at_end.1) empty in
        law first (passed_sound (table_of first) (noted b.notes.identifiers) (noted b.notes.origins) (clock before)
        (walked.passed ends some empty).1)

    -- each is listed or was passed
    pub each_told : length b.troubles.items < a.most → (k : Kind) (q : Text) (row : Row)
        → table_of first k q ≡ Some row
        → IsListed b.troubles.items (k, q) ⊎ WasPassed (table_of first) ((k, q), row)
    each_told room k q row here = walked.each ends room ((k, q), row) here

  -- what is listed breaks a rule
  pub all_tell : ((word : ℕ) → noted a.notes.identifiers word ≡ None)
      → ((word : ℕ) → noted a.notes.origins word ≡ None) → HasEachRooted (table_of one) a.notes.rooted
      → All (Tells first) a.troubles.items → All (Tells first) b.troubles.items
  all_tell no_identifiers no_origins rooted all =
      walked.tells
      (record {
        rooted = subst (λ (m : Rows). HasEachRooted (table_of m) a.notes.rooted) same_one rooted;
        identifiers = λ word key is. absurd (none-some key (sym (no_identifiers word) ∙ is));
        origins = λ word key is. absurd (none-some key (sym (no_origins word) ∙ is));
      })
      (λ e has. record {
        identifiers = λ word is. none-some e.0 (sym (no_identifiers word) ∙ is);
        origins = λ word is. none-some e.0 (sym (no_origins word) ∙ is);
      }) all

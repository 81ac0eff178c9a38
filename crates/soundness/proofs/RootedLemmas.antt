-- Each token whose chain of parents ends is found from those without an owner.
use Rattle.std.proofs.Common.{◌≡◌, ◌<◌, ◌≤◌, ◌+◌, ◌^◌, ◌&&◌, ◌⊎◌, ◌++◌, ◌∷◌, [], ℕ, zero, suc, List, length, drop, Bool}
use Rattle.broker_model.specs.Words.{true, false, cond, Some, Contains, BTreeSet, contains, eq_by_cmp_equiv}
use Rattle.broker_model.specs.Words.{nat_cmp_total, nat_cmp-IsAntisymmetric, list_any, nat_cmp, is_eq, refl, sym, ◌∙◌}
use Rattle.broker_model.specs.Words.{ap, subst, inl, inr, get_or, arith, append_assoc, below_more, get_or-append}
use Rattle.broker_model.specs.Words.{false≢true, append-nil, get_or_default, All-contains, Contains-append_left}
use Rattle.broker_model.specs.Words.{Contains-push, tells_apart, Text, id, id-same, IsTokenText, token_text, Row}
use Rattle.broker_model.specs.Words.{passing_whole, RowKey, kind_number, eqb_self, Table, table_of, Rows, rows_owned}
use Rattle.std.specs.Prelude.{All}
use Rattle.records.specs.declared.kind.Kind.TheVariants as kind
use Rattle.soundness.specs.Words.{RootedIn, HasWordOf, HasEachRooted, AreQueued, OnlyAdds}
use Rattle.soundness.proofs.ChainLemmas.{is_owned}
use Rattle.soundness.proofs.ReadLemmas.{same_of}

-- ---- words

-- a token has one word
pub one_word : (t : Text) (v w : ℕ) → v < 2 ^ 128 → w < 2 ^ 128 → t ≡ token_text (id v) → t ≡ token_text (id w) → v ≡ w
one_word t v w small_v small_w is_v is_w =
    let same : id v ≡ id w = ap (drop 4) (sym is_v ∙ is_w) in id-same v w small_v small_w same

module _ (old new : BTreeSet ℕ) (word : ℕ)
    (more : (q : ℕ) → contains nat_cmp new q ≡ cond (is_eq (nat_cmp word q)) true (contains nat_cmp old q)) where
  word_there : contains nat_cmp new word ≡ true
  word_there =
      more word ∙ ap (λ b. cond b true (contains nat_cmp old word)) ((eq_by_cmp_equiv nat_cmp_total).refl word)

  pub words_stay : (q : ℕ) → contains nat_cmp old q ≡ true → contains nat_cmp new q ≡ true
  words_stay q has = more q ∙ kept (is_eq (nat_cmp word q))
    where
      kept : (b : Bool) → cond b true (contains nat_cmp old q) ≡ true
      kept true = refl
      kept false = has

  -- no other word is there
  word_or_old : (q : ℕ) → contains nat_cmp new q ≡ true → (word ≡ q) ⊎ (contains nat_cmp old q ≡ true)
  word_or_old q has =
      elim (is_eq (nat_cmp word q))
      as (λ b. is_eq (nat_cmp word q) ≡ b → cond b true (contains nat_cmp old q) ≡ true
      → (word ≡ q) ⊎ (contains nat_cmp old q ≡ true)) [
        | true ↦ λ met _. inl (tells_apart nat_cmp-IsAntisymmetric word q met)
        | false ↦ λ _ kept. inr kept
      ] refl (sym (more q) ∙ has)

  module _ (token : Text) (small : word < 2 ^ 128) (is : token ≡ token_text (id word)) where
    -- the word of the token is there
    pub token_there : HasWordOf new token
    token_there w small_w is_w =
        subst (λ v. contains nat_cmp new v ≡ true) (one_word token word w small small_w is is_w) word_there

    -- a new token is queued
    pub adds_token : (queue longer : List Text) → longer ≡ queue ++ token ∷ [] → OnlyAdds old new queue longer
    adds_token queue longer at_end =
        record {
          words = words_stay;
          at_end = (token ∷ [], at_end);
          queued = λ queued q has. subst (λ ts. Contains ts (token_text (id q))) (sym at_end)
              (elim (word_or_old q has) [
                | inl met ↦ subst (Contains (queue ++ token ∷ [])) (is ∙ ap (λ w. token_text (id w)) met)
                    (Contains-push queue token)
                | inr kept ↦ Contains-append_left queue (token ∷ []) (token_text (id q)) (queued q kept)
              ]);
        }

  -- one that was there is queued
  pub adds_none : contains nat_cmp old word ≡ true → (queue : List Text) → OnlyAdds old new queue queue
  adds_none there queue =
      record {
        words = words_stay;
        at_end = ([], sym (append-nil queue));
        queued = λ queued q has. elim (word_or_old q has) [
          | inl met ↦ queued q (subst (λ w. contains nat_cmp old w ≡ true) met there)
          | inr kept ↦ queued q kept
        ];
      }

pub adds_further : (a b c : BTreeSet ℕ) (p q r : List Text) → OnlyAdds a b p q → OnlyAdds b c q r → OnlyAdds a c p r
adds_further a b c p q r ab bc =
    record {
      words = λ w has. bc.words w (ab.words w has);
      at_end = (
        ab.at_end.0 ++ bc.at_end.0,
        bc.at_end.1 ∙ ap (λ ts. ts ++ bc.at_end.0) ab.at_end.1 ∙ append_assoc p ab.at_end.0 bc.at_end.0,
      );
      queued = λ queued. bc.queued (ab.queued queued);
    }

-- no word is in an empty set
pub none_queued : (words : BTreeSet ℕ) (queue : List Text) → words.keys ≡ [] → AreQueued words queue
none_queued words queue none word has =
    absurd (false≢true (sym (ap (λ ks. list_any (λ k. is_eq (nat_cmp word k)) ks) none) ∙ has))

-- what is queued stays so
pub still_queued : (old new : BTreeSet ℕ) (queue longer : List Text) → OnlyAdds old new queue longer → (t : Text)
    → Contains queue t → Contains longer t
still_queued old new queue longer adds t has =
    subst (λ ts. Contains ts t) (sym adds.at_end.1) (Contains-append_left queue adds.at_end.0 t has)

-- ---- the walk

-- the words of the children of those before a place of the queue are there
abbrev pub AreDone : Table → BTreeSet ℕ → List Text → ℕ → Type 0
AreDone rows words queue next =
    (k : ℕ) (d : Text) → k < next → (t : Text) (row : Row) → rows kind.Token t ≡ Some row
    → row.owner ≡ get_or queue k d → HasWordOf words t

-- a child is listed
child_listed : (rows : Rows) (t owner : Text) (row : Row) → table_of rows kind.Token t ≡ Some row → row.owner ≡ owner
    → Contains (rows_owned rows kind.Token owner) ((kind.Token, t), row)
child_listed rows t owner row here of =
    passing_whole rows (is_owned rows owner) (kind.Token, t) row here
    (λ i. eqb_self (kind_number kind.Token) i && same_of row.owner owner of i)

module _ (rows : Rows) (old new : BTreeSet ℕ) (queue longer : List Text) (next : ℕ) (owner : Text)
    (below : next < length queue) (at : get_or queue next owner ≡ owner) (adds : OnlyAdds old new queue longer)
    (all : All (λ (e : RowKey × Row). HasWordOf new e.0.1) (rows_owned rows kind.Token owner)) where
  stays : (k : ℕ) (d : Text) → k < length queue → get_or longer k d ≡ get_or queue k d
  stays k d low = ap (λ ts. get_or ts k d) adds.at_end.1 ∙ get_or-append queue adds.at_end.0 d k low

  pub one_more_done : AreDone (table_of rows) old queue next → AreDone (table_of rows) new longer (next + 1)
  one_more_done done k d upto =
      below_more
      (λ (k : ℕ). (d : Text) (t : Text) (row : Row) → table_of rows kind.Token t ≡ Some row
      → row.owner ≡ get_or longer k d → HasWordOf new t) next
      (λ k low d t row here of w small is.
      adds.words w (done k d low t row here (of ∙ stays k d (omega (arith, low, below))) w small is))
      (λ d t row here of.
      All-contains (λ (e : RowKey × Row). HasWordOf new e.0.1) (rows_owned rows kind.Token owner)
      ((kind.Token, t), row) all
      (child_listed rows t owner row here (of ∙ stays next d below ∙ get_or_default queue next d owner below ∙ at)))
      k upto d

-- ---- the end of the walk

pub token_of_root : (n : ℕ) (rows : Table) (t : Text) → RootedIn n rows t → IsTokenText t
token_of_root zero rows t r = absurd r
token_of_root (suc n) rows t r = r.0

module _ (rows : Table) (words : BTreeSet ℕ) (queue : List Text) (next : ℕ) (past : length queue ≤ next)
    (root : Contains queue []) (queued : AreQueued words queue) (done : AreDone rows words queue next) where
  of_queued : (owner : Text) → Contains queue owner → (t : Text) (row : Row) → rows kind.Token t ≡ Some row
      → row.owner ≡ owner → HasWordOf words t
  of_queued owner has t row here of =
      let low : has.0 < next = omega (arith, has.1, past) in
      done has.0 owner low t row here (of ∙ sym has.2)

  rooted_found : (n : ℕ) (t : Text) → RootedIn n rows t → HasWordOf words t
  rooted_found zero t r = absurd r
  rooted_found (suc n) t r =
      let row = r.1.0 in
      elim (r.1.2) [
        | inl none ↦ of_queued [] root t row r.1.1 none
        | inr further ↦
            let owner = token_of_root n rows row.owner further in
            let word = owner.1.0 in
            let is : row.owner ≡ token_text (id word) = owner.2 ∙ ap token_text owner.1.2 in
            let there = rooted_found n row.owner further word owner.1.1 is in
            of_queued (token_text (id word)) (queued word there) t row r.1.1 is
      ]

  pub each_found : HasEachRooted rows words
  each_found t rooted = rooted_found rooted.0 t rooted.1

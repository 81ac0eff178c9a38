-- The identifiers that a command needs: its own, and those of a wrapping.
use Rattle.std.proofs.Common.{◌≡◌, if◌then◌else◌, ◌∷◌, List, drop, All, true, sym, ◌∙◌, ap, subst}
use Rattle.broker_model.specs.Words.{⊤, All-cons, All-head, All-tail, Map, Names, IsIdentifier, Text, are_new, Ask}
use Rattle.broker_model.specs.Words.{rest_new, Command, is_wrapped, needed_by, traits}
use Rattle.broker_rows.specs.Words.{ArePrinted}

-- ---- what is wrapped

-- and so without those of the wrapping token and of its accessor
pub own_new : (used : Map ⊤) (i j : Text) (own : List Text) → are_new used (i ∷ j ∷ own) ≡ true
    → are_new used own ≡ true
own_new used i j own new = rest_new used j own (rest_new used i (j ∷ own) new)

module _ (a : Ask) (names : Names) (command : Command) (wraps : is_wrapped a command ≡ true) where
  -- those of the wrapping token and of its accessor come first
  pub needed_is : needed_by a names command ≡ names.wrapping_token ∷ names.wrapping_accessor ∷
      (traits command).own names
  needed_is =
      ap (λ v. if v then names.wrapping_token ∷ names.wrapping_accessor ∷ (traits command).own names else
      (traits command).own names) wraps

  module _ (needed : List Text) (printed : ArePrinted needed (needed_by a names command)) where
    pub printed_is : needed ≡ names.wrapping_token ∷ names.wrapping_accessor ∷ (traits command).own names
    printed_is = printed.are ∙ needed_is

    all_good : All IsIdentifier (names.wrapping_token ∷ names.wrapping_accessor ∷ (traits command).own names)
    all_good = subst (All IsIdentifier) printed_is printed.good

    pub token_good : IsIdentifier names.wrapping_token
    token_good = All-head IsIdentifier names.wrapping_token
        (names.wrapping_accessor ∷ (traits command).own names) all_good

    pub accessor_good : IsIdentifier names.wrapping_accessor
    accessor_good =
        All-head IsIdentifier names.wrapping_accessor ((traits command).own names)
        (All-tail IsIdentifier names.wrapping_token (names.wrapping_accessor ∷ (traits command).own names) all_good)

    pub own_printed : ArePrinted (drop 2 needed) ((traits command).own names)
    own_printed = record {
      are = ap (drop 2) printed_is;
      good = subst (All IsIdentifier) (sym (ap (drop 2) printed_is))
          (All-tail IsIdentifier names.wrapping_accessor ((traits command).own names)
          (All-tail IsIdentifier names.wrapping_token (names.wrapping_accessor ∷ (traits command).own names) all_good));
    }

-- the identifiers of the words are printed in this order
pub needed_printed : (a : Ask) (names : Names) (command : Command) → is_wrapped a command ≡ true → (own : List Text)
    → ArePrinted own ((traits command).own names) → IsIdentifier names.wrapping_token
    → IsIdentifier names.wrapping_accessor
    → ArePrinted (names.wrapping_token ∷ names.wrapping_accessor ∷ own) (needed_by a names command)
needed_printed a names command wraps own printed token accessor = record {
  are = (λ i. names.wrapping_token ∷ names.wrapping_accessor ∷ printed.are i) ∙ sym (needed_is a names command wraps);
  good = All-cons IsIdentifier names.wrapping_token (names.wrapping_accessor ∷ own) token
      (All-cons IsIdentifier names.wrapping_accessor own accessor printed.good);
}

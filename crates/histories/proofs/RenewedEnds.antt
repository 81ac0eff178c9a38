-- The end of a token that is renewed is as documented.
use Rattle.std.proofs.Common.{◌≡◌, ◌≢◌, ◌+◌, ◌==◌, if◌then◌else◌, ℕ, min, Bool, true, sym, ◌∙◌, ap, ne_eqb}
use Rattle.broker_model.specs.Words.{longest_ttl, Token, token_entry, or_longest, new_end, periodic_end, prolonged_end}
use Rattle.histories.specs.Words.{IsNewEnd}

module _ (now increment : ℕ) (x : Token) where
  -- how far ahead, of one that is not periodic, and of any
  abbrev time : ℕ
  time = if increment == 0 then x.ttl else increment

  abbrev ahead : ℕ
  ahead = if x.period == 0 then time else x.period

  is_zero : (n : ℕ) → n ≡ 0 → (n == 0) ≡ true
  is_zero n none = ap (λ m. m == 0) none

  plain_ahead : x.period ≡ 0 → ahead ≡ time
  plain_ahead none = ap (λ v. if v then time else x.period) (is_zero x.period none)

  periodic_ahead : x.period ≢ 0 → ahead ≡ x.period
  periodic_ahead some = ap (λ v. if v then time else x.period) (ne_eqb x.period 0 some)

  abbrev end_ : ℕ
  end_ = new_end now (token_entry x) increment

  abbrev either : Bool → ℕ
  either v = if v then prolonged_end now (token_entry x) increment else periodic_end now (token_entry x)

  plain_end : x.period ≡ 0 → end_ ≡ min (now + ahead) (x.issued + min longest_ttl (or_longest x.explicit_max_ttl))
  plain_end none =
      ap either (is_zero x.period none)
      ∙ ap (λ t. min (now + t) (x.issued + min longest_ttl (or_longest x.explicit_max_ttl))) (sym (plain_ahead none))

  abbrev bounded : Bool → ℕ
  bounded v = if v then now + x.period else min (now + x.period) (x.issued + x.explicit_max_ttl)

  periodic_is : x.period ≢ 0 → end_ ≡ bounded (x.explicit_max_ttl == 0)
  periodic_is some = ap either (ne_eqb x.period 0 some)

  pub is_new_end : IsNewEnd now increment x end_
  is_new_end = record {
    ahead = ahead;
    asked = λ none some. plain_ahead none ∙ ap (λ v. if v then x.ttl else increment) (ne_eqb increment 0 some);
    not_asked = λ none zero_. plain_ahead none
        ∙ ap (λ v. if v then x.ttl else increment) (is_zero increment zero_);
    periodic = periodic_ahead;
    own = λ none some. plain_end none
        ∙ ap (λ v. min (now + ahead) (x.issued + min longest_ttl (if v then longest_ttl else x.explicit_max_ttl)))
        (ne_eqb x.explicit_max_ttl 0 some);
    longest = λ none zero_. plain_end none
        ∙ ap (λ v. min (now + ahead) (x.issued + min longest_ttl (if v then longest_ttl else x.explicit_max_ttl)))
        (is_zero x.explicit_max_ttl zero_);
    own_periodic = λ some longest. periodic_is some ∙ ap bounded (ne_eqb x.explicit_max_ttl 0 longest)
        ∙ ap (λ t. min (now + t) (x.issued + x.explicit_max_ttl)) (sym (periodic_ahead some));
    unbounded = λ some none. periodic_is some ∙ ap bounded (is_zero x.explicit_max_ttl none)
        ∙ ap (λ t. now + t) (sym (periodic_ahead some));
  }

-- A request that is printed with CR LF at the end of its lines: its first empty line ends its head.
use Rattle.std.proofs.Common.{◌≡◌, ◌≢◌, ◌+◌, ◌-◌, ◌<◌, ◌⊎◌, ◌∷◌, ◌++◌, refl, ℕ, zero, suc, inl, inr, Bool, true, false}
use Rattle.broker_types.specs.Words.{cond, List, [], length, take, drop, get_or, codes, sym, ap, ◌∙◌, subst, arith}
use Rattle.broker_types.specs.Words.{append_assoc, append-nil, length-append, All, All-head, All-tail, All-append}
use Rattle.broker_types.specs.Words.{All-cons, All-nil, All-weaker, drop-append_seam, false≢true, or_from, ne_eqb}
use Rattle.broker_types.specs.Words.{prefix_len, flat_map}
use Rattle.httparse.specs.Grammar.{is_token_byte, is_uri_byte, is_value_byte, LineEnd, crlf, Field, IsField}
use Rattle.httparse.specs.Grammar.{IsRequestHead, print_field, print_section, print_end, print_version, print_request}
use Rattle.httparse.proofs.GrammarLemmas.{print_request-append}
use Rattle.httparse.proofs.PieceLemmas.{print_field-append}
use Rattle.http_layer.specs.Words.{HasEmptyLineAt, is_line_byte, HeadEnds, HasEmptyLineAt-fits, printed_head}

-- ---- texts without CR and LF

-- the byte is neither CR nor LF
abbrev IsInLine : ℕ → Type 0
IsInLine b = is_line_byte b ≡ false

-- no byte of the text is CR or LF
abbrev IsLineText : List ℕ → Type 0
IsLineText text = All IsInLine text

-- the line of the field ends in CR LF
abbrev EndsInCrlf : Field → Type 0
EndsInCrlf f = f.end ≡ crlf

token_byte : (b : ℕ) → is_token_byte b ≡ true → is_line_byte b ≡ false
unfolding is_token_byte
token_byte b token =
    let not_cr : b ≢ 13 = λ e. false≢true (subst (λ (v : ℕ). is_token_byte v ≡ true) e token) in
    let not_lf : b ≢ 10 = λ e. false≢true (subst (λ (v : ℕ). is_token_byte v ≡ true) e token) in
    or_from _ _ (ne_eqb b 13 not_cr) (ne_eqb b 10 not_lf)

other_byte : (test : ℕ → Bool) → test 13 ≡ false → test 10 ≡ false → (b : ℕ) → test b ≡ true → is_line_byte b ≡ false
other_byte test cr lf b passes =
    let not_cr : b ≢ 13 = λ e. false≢true (sym cr ∙ subst (λ (v : ℕ). test v ≡ true) e passes) in
    let not_lf : b ≢ 10 = λ e. false≢true (sym lf ∙ subst (λ (v : ℕ). test v ≡ true) e passes) in
    or_from _ _ (ne_eqb b 13 not_cr) (ne_eqb b 10 not_lf)

no_return : (b : ℕ) → is_line_byte b ≡ false → b ≢ 13
no_return b is e = false≢true (sym is ∙ ap is_line_byte e)

-- ---- empty lines

-- every empty line in s ends s
abbrev EndsAtLines : List ℕ → Type 0
EndsAtLines s = (k : ℕ) → HasEmptyLineAt s k → k + 4 ≡ length s

-- s is CR LF, or does not begin with CR
abbrev StartsLine : List ℕ → Type 0
StartsLine s = (s ≡ 13 ∷ 10 ∷ []) ⊎ (take 1 s ≢ 13 ∷ [])

-- an empty line in a text and what follows begins after the text
past_text : (t r : List ℕ) → IsLineText t → (k : ℕ) → HasEmptyLineAt (t ++ r) k → (j : ℕ) × (k ≡ length t + j)
    × HasEmptyLineAt r j
past_text [] r plain k h = (k, omega arith, h)
past_text (b ∷ t) r plain zero h =
    absurd (no_return b (All-head IsInLine b t plain) (ap (λ (l : List ℕ). get_or l 0 0) h))
past_text (b ∷ t) r plain (suc k) h =
    let (j, is, g) = past_text t r (All-tail IsInLine b t plain) k h in
    (j, omega (arith, is), g)

starts_text : (t r : List ℕ) → 0 < length t → IsLineText t → take 1 (t ++ r) ≢ 13 ∷ []
starts_text [] r some plain e = absurd (omega (arith, some))
starts_text (b ∷ t) r some plain e = no_return b (All-head IsInLine b t plain) (ap (λ (l : List ℕ). get_or l 0 0) e)

no_blank : (t r : List ℕ) → 0 < length t → IsLineText t → prefix_len is_line_byte (t ++ r) ≡ 0
no_blank [] r some plain = absurd (omega (arith, some))
no_blank (b ∷ t) r some plain = ap (λ (x : Bool). cond x (1 + prefix_len is_line_byte (t ++ r)) 0)
    (All-head IsInLine b t plain)

first_of_two : (s : List ℕ) → take 1 (take 2 s) ≡ take 1 s
first_of_two [] = refl
first_of_two (b ∷ s) = refl

-- a line before them
line_before : (t s : List ℕ) → IsLineText t → StartsLine s → EndsAtLines s → EndsAtLines (t ++ 13 ∷ 10 ∷ s)
line_before t s plain starts ends k h = let (j, is, g) = past_text t (13 ∷ 10 ∷ s) plain k h in at j is g starts
  where
    all : length (t ++ 13 ∷ 10 ∷ s) ≡ length t + (2 + length s)
    all = omega (arith, length-append t (13 ∷ 10 ∷ s))

    at : (j : ℕ) → k ≡ length t + j → HasEmptyLineAt (13 ∷ 10 ∷ s) j → StartsLine s → k + 4 ≡ length (t ++ 13 ∷ 10 ∷ s)
    at zero is g (inl last) = omega (arith, is, all, ap length last)
    at zero is g (inr other) = absurd (other (sym (first_of_two s) ∙ ap (λ (l : List ℕ). take 1 (drop 2 l)) g))
    at (suc zero) is g starts = absurd (omega (arith, ap (λ (l : List ℕ). get_or l 0 0) g))
    at (suc (suc i)) is g starts = omega (arith, is, all, ends i g)

-- ---- the lines of a head

-- the text of a field's line
abbrev field_text : Field → List ℕ
field_text f = f.name ++ 58 ∷ f.raw

field_line_text : (f : Field) → IsField f → IsLineText (field_text f)
field_line_text f is =
    All-append IsInLine f.name (58 ∷ f.raw) (All-weaker _ IsInLine token_byte f.name is.name.1)
    (All-cons IsInLine 58 f.raw refl (All-weaker _ IsInLine (other_byte is_value_byte refl refl) f.raw is.raw))

section_more : (f : Field) (fs : List Field) → f.end ≡ crlf
    → print_section (f ∷ fs) crlf ≡ field_text f ++ 13 ∷ 10 ∷ print_section fs crlf
section_more f fs end =
    append_assoc (print_field f) (flat_map print_field fs) (print_end crlf)
    ∙ print_field-append f (print_section fs crlf)
    ∙ ap (λ (e : LineEnd). f.name ++ 58 ∷ (f.raw ++ (print_end e ++ print_section fs crlf))) end
    ∙ sym (append_assoc f.name (58 ∷ f.raw) (13 ∷ 10 ∷ print_section fs crlf))

section_lines : (fs : List Field) → All IsField fs → All EndsInCrlf fs
    → StartsLine (print_section fs crlf) × EndsAtLines (print_section fs crlf)
section_lines [] valid ends = (inl refl, λ k h. absurd (omega (arith, HasEmptyLineAt-fits (13 ∷ 10 ∷ []) k h)))
section_lines (f ∷ fs) valid ends =
    let is : IsField f = All-head IsField f fs valid in
    let text : IsLineText (field_text f) = field_line_text f is in
    let rest = section_lines fs (All-tail IsField f fs valid) (All-tail EndsInCrlf f fs ends) in
    let some : 0 < length (field_text f) = omega (arith, is.name.0, length-append f.name (58 ∷ f.raw)) in
    subst (λ (s : List ℕ). StartsLine s × EndsAtLines s) (sym (section_more f fs (All-head EndsInCrlf f fs ends))) (
      inr (starts_text (field_text f) (13 ∷ 10 ∷ print_section fs crlf) some text),
      line_before (field_text f) (print_section fs crlf) text rest.0 rest.1,
    )

-- what stands before the empty line at the end
section_end : (t : List ℕ) (fs : List Field) → All EndsInCrlf fs
    → (y : List ℕ) × (t ++ 13 ∷ 10 ∷ print_section fs crlf ≡ y ++ 13 ∷ 10 ∷ 13 ∷ 10 ∷ [])
section_end t [] ends = (t, refl)
section_end t (f ∷ fs) ends =
    let (y, is) = section_end (t ++ 13 ∷ 10 ∷ field_text f) fs (All-tail EndsInCrlf f fs ends) in (
      y,
      ap (λ (l : List ℕ). t ++ 13 ∷ 10 ∷ l) (section_more f fs (All-head EndsInCrlf f fs ends))
          ∙ sym (append_assoc t (13 ∷ 10 ∷ field_text f) (13 ∷ 10 ∷ print_section fs crlf)) ∙ is,
    )

-- ---- the whole head

-- the text of the request line
abbrev line_text : List ℕ → List ℕ → List ℕ
line_text method target = method ++ 32 ∷ (target ++ 32 ∷ print_version 1)

request_line_text : (method target : List ℕ) (fields : List Field) → IsRequestHead (printed_head method target fields)
    → IsLineText (line_text method target)
request_line_text method target fields is =
    All-append IsInLine method (32 ∷ (target ++ 32 ∷ print_version 1))
    (All-weaker _ IsInLine token_byte method is.method.1)
    (All-cons IsInLine 32 (target ++ 32 ∷ print_version 1) refl
    (All-append IsInLine target (32 ∷ print_version 1)
    (All-weaker _ IsInLine (other_byte is_uri_byte refl refl) target is.target.1) version))
  where
    more : (b : ℕ) (bytes : List ℕ) → IsInLine b → IsLineText bytes → IsLineText (b ∷ bytes)
    more b bytes is rest = All-cons IsInLine b bytes is rest

    version : IsLineText (32 ∷ print_version 1)
    version =
        more 32 (codes "HTTP/1.1") refl
        (more 72 (codes "TTP/1.1") refl (more 84 (codes "TP/1.1") refl (more 84 (codes "P/1.1") refl
        (more 80 (codes "/1.1") refl (more 47 (codes "1.1") refl (more 49 (codes ".1") refl (more 46 (codes "1") refl
        (more 49 [] refl (All-nil IsInLine)))))))))

head_lines : (method target : List ℕ) (fields : List Field)
    → print_request (printed_head method target fields) ≡ line_text method target ++ 13 ∷ 10 ∷ print_section fields crlf
head_lines method target fields =
    sym (append-nil (print_request (printed_head method target fields)))
    ∙ print_request-append (printed_head method target fields) []
    ∙ ap (λ (l : List ℕ). method ++ 32 ∷ (target ++ 32 ∷ (print_version 1 ++ 13 ∷ 10 ∷ l)))
    (append-nil (print_section fields crlf))
    ∙ regroup method target (print_version 1) (13 ∷ 10 ∷ print_section fields crlf)
  where
    regroup : (a b c r : List ℕ) → a ++ 32 ∷ (b ++ 32 ∷ (c ++ r)) ≡ (a ++ 32 ∷ (b ++ 32 ∷ c)) ++ r
    regroup a b c r =
        ap (λ (l : List ℕ). a ++ 32 ∷ l) (sym (append_assoc b (32 ∷ c) r)) ∙ sym (append_assoc a (32 ∷ (b ++ 32 ∷ c)) r)

-- an empty line at the end of the text
empty_line_last : (y : List ℕ) → HasEmptyLineAt (y ++ 13 ∷ 10 ∷ 13 ∷ 10 ∷ []) (length y)
empty_line_last y = ap (take 4) (drop-append_seam y (13 ∷ 10 ∷ 13 ∷ 10 ∷ []))

ends_by_lines : (t s : List ℕ) → 0 < length t → IsLineText t → StartsLine s → EndsAtLines s
    → (y : List ℕ) × (t ++ 13 ∷ 10 ∷ s ≡ y ++ 13 ∷ 10 ∷ 13 ∷ 10 ∷ [])
    → HeadEnds (t ++ 13 ∷ 10 ∷ s) (length (t ++ 13 ∷ 10 ∷ s))
ends_by_lines t s some text starts ends (y, is) =
    let all : length (t ++ 13 ∷ 10 ∷ s) ≡ length y + 4 = ap length is ∙ length-append y (13 ∷ 10 ∷ 13 ∷ 10 ∷ []) in
    let start : prefix_len is_line_byte (t ++ 13 ∷ 10 ∷ s) ≡ 0 = no_blank t (13 ∷ 10 ∷ s) some text in
    let before : length (t ++ 13 ∷ 10 ∷ s) - 4 ≡ length y = omega (arith, all) in
    record {
      started = omega (arith, all, start);
      ended = subst (λ (k : ℕ). HasEmptyLineAt (t ++ 13 ∷ 10 ∷ s) k) (sym before)
          (subst (λ (l : List ℕ). HasEmptyLineAt l (length y)) (sym is) (empty_line_last y));
      first = λ k low high here. absurd (omega (arith, high, line_before t s text starts ends k here));
    }

-- a printed head ends with its first empty line
pub printed_ends : (method target : List ℕ) (fields : List Field) → IsRequestHead (printed_head method target fields)
    → All EndsInCrlf fields
    → HeadEnds (print_request (printed_head method target fields))
    (length (print_request (printed_head method target fields)))
printed_ends method target fields valid ends =
    let lines = section_lines fields valid.fields ends in
    let some : 0 < length (line_text method target) =
    omega (arith, valid.method.0, length-append method (32 ∷ (target ++ 32 ∷ print_version 1))) in
    subst (λ (l : List ℕ). HeadEnds l (length l)) (sym (head_lines method target fields))
    (ends_by_lines (line_text method target) (print_section fields crlf) some
    (request_line_text method target fields valid)
    lines.0 lines.1 (section_end (line_text method target) fields ends))

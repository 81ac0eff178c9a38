-- Replies: texts that are added one after another.
use Rattle.std.proofs.Common.{◌≡◌, ◌++◌, ℕ, List, [], refl, ap, ◌∙◌, append_assoc, decimal, codes}
use Rattle.http_layer.specs.Words.{Status, body_lines, crlf}
use Rattle.broker_types.specs.declared.status.Status.TheVariants as is

-- ---- texts that are added one after another

pub appended_3 : (h a b c x1 x2 x3 : List ℕ) → x1 ≡ h ++ a → x2 ≡ x1 ++ b → x3 ≡ x2 ++ c → x3 ≡ h ++ (a ++ b ++ c)
appended_3 h a b c x1 x2 x3 p1 p2 p3 =
    p3 ∙ ap (λ (l : List ℕ). l ++ c) (p2 ∙ ap (λ (l : List ℕ). l ++ b) p1) ∙ regroup
  where
    regroup : ((h ++ a) ++ b) ++ c ≡ h ++ ((a ++ b) ++ c)
    regroup = simp append_assoc

pub appended_5 : (h a b c d e x1 x2 x3 x4 x5 : List ℕ) → x1 ≡ h ++ a → x2 ≡ x1 ++ b → x3 ≡ x2 ++ c → x4 ≡ x3 ++ d
    → x5 ≡ x4 ++ e
    → x5 ≡ h ++ (a ++ b ++ c ++ d ++ e)
appended_5 h a b c d e x1 x2 x3 x4 x5 p1 p2 p3 p4 p5 =
    p5 ∙ ap (λ (l : List ℕ). l ++ e) (p4 ∙ ap (λ (l : List ℕ). l ++ d)
    (p3 ∙ ap (λ (l : List ℕ). l ++ c) (p2 ∙ ap (λ (l : List ℕ). l ++ b) p1))) ∙ regroup
  where
    regroup : ((((h ++ a) ++ b) ++ c) ++ d) ++ e ≡ h ++ ((((a ++ b) ++ c) ++ d) ++ e)
    regroup = simp append_assoc

-- the fields on a body that has a type
abbrev pub typed_lines : ℕ → List ℕ
typed_lines len = codes "Content-Type: application/json" ++ crlf ++ codes "Content-Length: " ++ decimal len ++ crlf

pub body_lines_other : (s : Status) (len : ℕ) → (s ≡ is.NoContent → ⊥) → (s ≡ is.NotImplemented → ⊥)
    → body_lines s len ≡ typed_lines len
body_lines_other is.NoContent len a b = absurd (a refl)
body_lines_other is.NotImplemented len a b = absurd (b refl)
body_lines_other is.Success len a b = refl
body_lines_other is.BadRequest len a b = refl
body_lines_other is.Forbidden len a b = refl
body_lines_other is.NotFound len a b = refl
body_lines_other is.MethodNotAllowed len a b = refl
body_lines_other is.PayloadTooLarge len a b = refl
body_lines_other is.HeaderFieldsTooLarge len a b = refl
body_lines_other is.InternalServerError len a b = refl

pub appended_7 : (a b c d e f g x0 x1 x2 x3 x4 x5 x6 x7 : List ℕ) → x0 ≡ [] → x1 ≡ x0 ++ a → x2 ≡ x1 ++ b → x3 ≡ x2 ++ c
    → x4 ≡ x3 ++ d → x5 ≡ x4 ++ e → x6 ≡ x5 ++ f → x7 ≡ x6 ++ g
    → x7 ≡ a ++ b ++ c ++ d ++ e ++ f ++ g
appended_7 a b c d e f g x0 x1 x2 x3 x4 x5 x6 x7 p0 p1 p2 p3 p4 p5 p6 p7 =
    let q1 : x1 ≡ a = p1 ∙ ap (λ (l : List ℕ). l ++ a) p0 in
    let q2 : x2 ≡ a ++ b = p2 ∙ ap (λ (l : List ℕ). l ++ b) q1 in
    let q3 : x3 ≡ a ++ b ++ c = p3 ∙ ap (λ (l : List ℕ). l ++ c) q2 in
    let q4 : x4 ≡ a ++ b ++ c ++ d = p4 ∙ ap (λ (l : List ℕ). l ++ d) q3 in
    let q5 : x5 ≡ a ++ b ++ c ++ d ++ e = p5 ∙ ap (λ (l : List ℕ). l ++ e) q4 in
    let q6 : x6 ≡ a ++ b ++ c ++ d ++ e ++ f = p6 ∙ ap (λ (l : List ℕ). l ++ f) q5 in
    p7 ∙ ap (λ (l : List ℕ). l ++ g) q6

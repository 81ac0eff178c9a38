-- The order of keys: it is total, and keys that compare alike are one (this project's).
use Rattle.std.proofs.Common.{◌≡◌, ◌==◌, if◌then◌else◌, ℕ, List, true, refl, sym, ap, ◌∙◌, eqb-true}
use Rattle.broker_types.specs.Words.{nat_cmp, IsTotalOrder, nat_cmp_total, slice_cmp, nat_list_cmp_total}
use Rattle.broker_types.specs.Words.{IsAntisymmetric, slice_cmp-IsAntisymmetric, nat_cmp-IsAntisymmetric, on_total}
use Rattle.broker_types.specs.Words.{then_total, exact_pairs, exact_unsigned}
use Rattle.records.specs.declared.kind.Kind.{Kind}
use Rattle.records.specs.declared.kind.Kind.TheVariants as kind
use Rattle.records.specs.Kind.{kind_number, key_cmp}

-- the kind of a number, and the last one for any other number
abbrev pub kind_of : ℕ → Kind
kind_of n =
    if n == 1 then kind.Clock else (if n == 2 then kind.Used else (if n == 3 then kind.Token
    else (if n == 4 then kind.Accessor else (if n == 5 then kind.Cubby else (if n == 6 then kind.Lease
    else (if n == 7 then kind.Credential else (if n == 8 then kind.KvKey else (if n == 9 then kind.KvVersion
    else (if n == 10 then kind.Waiting else (if n == 11 then kind.Mount else (if n == 12 then kind.Policy
    else kind.Role)))))))))))

-- each kind has its own number
pub kind_of-number : (kind : Kind) → kind_of (kind_number kind) ≡ kind
kind_of-number kind.Clock = refl
kind_of-number kind.Used = refl
kind_of-number kind.Token = refl
kind_of-number kind.Accessor = refl
kind_of-number kind.Cubby = refl
kind_of-number kind.Lease = refl
kind_of-number kind.Credential = refl
kind_of-number kind.KvKey = refl
kind_of-number kind.KvVersion = refl
kind_of-number kind.Waiting = refl
kind_of-number kind.Mount = refl
kind_of-number kind.Policy = refl
kind_of-number kind.Role = refl

-- kinds with one number are one
pub same_kind : (k l : Kind) → (kind_number k == kind_number l) ≡ true → k ≡ l
same_kind k l h =
    sym (kind_of-number k) ∙ ap kind_of (eqb-true (kind_number k) (kind_number l) h) ∙ kind_of-number l

-- the order of keys is total
pub key_cmp_total : IsTotalOrder key_cmp
key_cmp_total = then_total (on_total (λ k. kind_number k.0) nat_cmp_total) (on_total (λ k. k.1) nat_list_cmp_total)

-- keys that compare alike are one
pub key_cmp_exact : IsAntisymmetric key_cmp
key_cmp_exact a b h =
    let same =
    exact_pairs nat_cmp (slice_cmp nat_cmp) exact_unsigned (slice_cmp-IsAntisymmetric nat_cmp-IsAntisymmetric)
    (kind_number a.0, a.1) (kind_number b.0, b.1) h in
    let kinds : a.0 ≡ b.0 = sym (kind_of-number a.0) ∙ ap (λ (p : ℕ × List ℕ). kind_of p.0) same ∙ kind_of-number b.0 in
    λ i. (kinds i, (same i).1)

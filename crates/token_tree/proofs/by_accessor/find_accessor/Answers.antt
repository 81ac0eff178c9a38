use Rattle.records.specs.Words.{Some, refl, sym, ap, ◌∙◌, option_and_then, err_from_is_err_and, get, mapped}
use Rattle.records.specs.Words.{mapped_none, accessor_row, none_of, ok_inj}
use Rattle.records.specs.declared.holder.Holder.TheVariants as holder
use Rattle.records.specs.declared.kind.Kind.TheVariants as kind
use Rattle.token_tree.specs.Words.{Row, named_row, token_of}
use Rattle.token_tree.proofs.Names.{all_named, row_named, token_named}
use Rattle.token_tree.proofs.by_accessor.find_accessor.Goals as goal

pub returns-in_default-clause-told : goal.returns-in_default-clause-told
returns-in_default-clause-told g c honest forms b stands =
    let a = c.args.accessor.now in
    let row = stands.tells kind.Accessor a refl ∙ row_named b a in
    let none = mapped_none named_row (get (all_named b) a)
    (sym row ∙ sym (c.in_ok-kept.ensures.found honest) ∙ none_of _ c.in_default.not-Some) in
    sym (token_named b a ∙ ap (option_and_then token_of) none)

pub returns-in_err-holder-clause-wants : goal.returns-in_err-holder-clause-wants
returns-in_err-holder-clause-wants g c honest forms b stands =
    let a = c.args.accessor.now in
    let row = stands.tells kind.Accessor a refl ∙ row_named b a in
    let x = mapped named_row (get (all_named b) a) c.in-Some.kept
    (sym row ∙ sym (c.in_ok-kept.ensures.found honest) ∙ c.in-Some.is) in
    absurd (let e = c.in_err-holder.ensures.again x.0.1 tt
    (x.2 ∙ ap (λ t. accessor_row t x.0.1) (ap (λ (r : Row). r.owner) (sym x.2))) in cc)

pub returns-in-Token-clause-told : goal.returns-in-Token-clause-told
returns-in-Token-clause-told g c honest forms b stands =
    let a = c.args.accessor.now in
    let row = stands.tells kind.Accessor a refl ∙ row_named b a in
    let x = mapped named_row (get (all_named b) a) c.in-Some.kept
    (sym row ∙ sym (c.in_ok-kept.ensures.found honest) ∙ c.in-Some.is) in
    let read = ok_inj (c.in_ok-holder.ensures.again x.0.1 tt
    (x.2 ∙ ap (λ t. accessor_row t x.0.1) (ap (λ (r : Row). r.owner) (sym x.2)))) in
    sym (token_named b a ∙ ap (option_and_then token_of) x.1 ∙ ap (λ h. token_of (x.0.0, h)) (sym read ∙ c.in-Token.is)
    ∙ ap Some (ap (λ (r : Row). r.owner) (sym x.2)))

pub returns-in-WrappingToken-clause-told : goal.returns-in-WrappingToken-clause-told
returns-in-WrappingToken-clause-told g c honest forms b stands =
    let a = c.args.accessor.now in
    let row = stands.tells kind.Accessor a refl ∙ row_named b a in
    let x = mapped named_row (get (all_named b) a) c.in-Some.kept
    (sym row ∙ sym (c.in_ok-kept.ensures.found honest) ∙ c.in-Some.is) in
    let read = ok_inj (c.in_ok-holder.ensures.again x.0.1 tt
    (x.2 ∙ ap (λ t. accessor_row t x.0.1) (ap (λ (r : Row). r.owner) (sym x.2)))) in
    sym (token_named b a ∙ ap (option_and_then token_of) x.1
    ∙ ap (λ h. token_of (x.0.0, h)) (sym read ∙ c.in-WrappingToken.is))

pub returns-in-Token-clause-found : goal.returns-in-Token-clause-found
returns-in-Token-clause-found g c honest =
    let row = sym (c.in_ok-kept.ensures.found honest) ∙ c.in-Some.is in (
      Some (c.in-Some.kept.owner, holder.Token),
      row ∙ ap Some (c.in_ok-holder.ensures.exact.1 ∙ ap (accessor_row c.in-Some.kept.owner) c.in-Token.is),
      refl,
    )

pub returns-in-WrappingToken-clause-found : goal.returns-in-WrappingToken-clause-found
returns-in-WrappingToken-clause-found g c honest =
    let row = sym (c.in_ok-kept.ensures.found honest) ∙ c.in-Some.is in (
      Some (c.in-Some.kept.owner, holder.WrappingToken),
      row ∙ ap Some (c.in_ok-holder.ensures.exact.1 ∙ ap (accessor_row c.in-Some.kept.owner) c.in-WrappingToken.is),
      refl,
    )

pub returns-in_err-holder-clause-call : goal.returns-in_err-holder-clause-call
returns-in_err-holder-clause-call g c =
    let p = err_from_is_err_and c.from_residual-in_err-holder.result c.from_residual-in_err-holder.ensures.1 in
    rw (p.1, p.2, c.in_err-holder.ensures.damaged) (record {
      same = λ _. tt;
      faults = λ honest named at.
          let x = mapped named_row named c.in-Some.kept
          (sym at ∙ sym (c.in_ok-kept.ensures.found honest) ∙ c.in-Some.is) in
          let again = c.in_err-holder.ensures.again x.0.1 tt
          (x.2 ∙ ap (λ t. accessor_row t x.0.1) (ap (λ (r : Row). r.owner) (sym x.2))) in cc;
      goes_on = c.in_ok-kept.ensures.call.goes_on;
    })

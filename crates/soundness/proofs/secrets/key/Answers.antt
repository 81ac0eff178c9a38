use Rattle.std.proofs.Common.{◌≡◌, true, sym, ap, ◌∙◌}
use Rattle.broker_model.specs.Words.{false≢true, MatchOption-at_some, MatchOption-at_none, KeyEntry, IsKeyInRange}
use Rattle.broker_model.specs.Words.{key_entry_row}
use Rattle.soundness.specs.Words.{are_fit}
use Rattle.soundness.proofs.AnswerLemmas.{from_true, fit_metadata}
use Rattle.soundness.proofs.ReadLemmas.{fails}
use Rattle.soundness.proofs.secrets.key.Goals as goal

pub returns-clause-sound : goal.returns-clause-sound
returns-clause-sound c =
    let k = c.in-Some.found in
    let read = MatchOption-at_some _ (λ (k : KeyEntry). IsKeyInRange k × (c.args.row.now ≡ key_entry_row k)) k
    c.in-Some.is
    c.in_ok-found.ensures.found in
    let fits : are_fit k.custom_metadata ≡ true =
    ap (λ (k : KeyEntry). are_fit k.custom_metadata) (sym c.found.view_is)
    ∙ ap are_fit (sym c.deref.ensures.value) ∙ sym c.are_fit.ensures ∙ c.if-not-are_fit.false in
    let meta = fit_metadata k.custom_metadata fits read.0.custom_metadata in (
      k,
      record {
        in_range = read.0;
        name = from_true c.is_secret_name.result c.if-not-is_secret_name.false c.is_secret_name.ensures.sound;
        few_metadata = meta.0;
        metadata = meta.1;
      },
      read.1,
    )

pub returns-in_default-clause-broken : goal.returns-in_default-clause-broken
returns-in_default-clause-broken c = λ rows.
    c.form.ensures (MatchOption-at_none _ _ c.in_default.is c.in_ok-found.ensures.whole) rows c.args.key.now

pub returns-then-not-is_secret_name-clause-broken : goal.returns-then-not-is_secret_name-clause-broken
returns-then-not-is_secret_name-clause-broken c = λ rows.
    fails c.is_secret_name.result c.if-not-is_secret_name.true c.is_secret_name.ensures.whole

pub returns-then-not-are_fit-clause-broken : goal.returns-then-not-are_fit-clause-broken
returns-then-not-are_fit-clause-broken c = λ rows.
    let k = c.in-Some.found in
    let read = MatchOption-at_some _ (λ (k : KeyEntry). IsKeyInRange k × (c.args.row.now ≡ key_entry_row k)) k
    c.in-Some.is
    c.in_ok-found.ensures.found in
    let fits : c.are_fit.result ≡ are_fit k.custom_metadata =
    c.are_fit.ensures ∙ ap are_fit c.deref.ensures.value
    ∙ ap (λ (k : KeyEntry). are_fit k.custom_metadata) c.found.view_is in
    (k, (read.0, λ good. false≢true (sym c.if-not-are_fit.true ∙ fits ∙ good)), read.1)

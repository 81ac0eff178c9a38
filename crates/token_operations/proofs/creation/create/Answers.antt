use Rattle.std.proofs.Common.{◌≢◌, ◌==◌, ◌≡◌, ◌∷◌, All, List, [], false, Ok, Err, Some, ap, get_or, length, refl, sym}
use Rattle.broker_model.specs.Words.{◌∙◌, subst, false≢true, All-head, All-tail, none-some, err_from_is_err_and, get}
use Rattle.broker_model.specs.Words.{Names, names_of, mapped, IsIdentifier, IsShortText, Text, IsTokenInRange}
use Rattle.broker_model.specs.Words.{TokenEntry, token_entry, allows, allowed, forms, token_names, making_path}
use Rattle.broker_model.specs.Words.{is_privileged, new_policies, may_make, new_parent, new_token}
use Rattle.broker_types.specs.declared.ask.Verb.TheVariants as verb
use Rattle.policies.specs.declared.capability.Capability.TheVariants as capability
use Rattle.broker_rows.specs.Words.{Asker, Caller, Context, ArePrinted, named_policies_there}
use Rattle.token_operations.specs.TokenEntries.{token_told, new_entry}
use Rattle.token_operations.specs.TokenRanges.{AreTokenNames, IsInRange}
use Rattle.token_operations.proofs.TokenCreations.{each_pair, parent_named, sudo_told, create_refused, create_made}
use Rattle.token_operations.proofs.TokenCreations.{same_may, same_policies_told}
use Rattle.token_operations.proofs.TokenMade.{no_empty_token}
use Rattle.token_operations.proofs.TokenPolicies.{ArePolicies, IsPolicyName, each_passes, new_policies_are}
use Rattle.token_operations.proofs.TokenRecords.{new_in_range, new_policies_short, same_new}
use Rattle.token_operations.proofs.TokenSound.{may_be_made, sound_policies}
use Rattle.token_operations.proofs.creation.create.Goals as goal

-- the identifiers that were printed are those of a token and of its accessor
printed : (own : List Text) (names : Names) → ArePrinted own (token_names names) → AreTokenNames names
printed own names are =
    let both = subst (All IsIdentifier) are.are are.good in
    record {
      token = All-head IsIdentifier names.token (names.accessor ∷ []) both;
      accessor = All-head IsIdentifier names.accessor [] (All-tail IsIdentifier names.token (names.accessor ∷ []) both);
    }

-- what is not empty is not the empty text
not_empty : (t : Text) → false ≡ (length t == 0) → t ≢ []
not_empty t some none = false≢true (some ∙ ap (λ (x : Text). length x == 0) none)

pub make-requires : goal.make-requires
make-requires g c =
    let asked = c.args.asked.now in
    let making = c.args.making in
    let privileged = c.has_sudo-privileged.result in
    let e = c.caller.inside.known in
    let told = token_told e in
    let may : may_make privileged making told c.deref.result.now asked ≡ Ok c.in_ok-check.field-0 =
    sym c.check.ensures ∙ c.in_ok-check.was in
    let names = (allowed privileged making told c.deref.result.now asked c.in_ok-check.field-0 may).named in
    let known : e ≡ c.args.asker.now.caller.known =
    ap (λ (x : Caller). x.known) (c.caller.view_is ∙ ap (λ (a : Asker). a.caller) c.asker.view_is) in
    let read : IsTokenInRange e = subst IsTokenInRange (sym known) c.requires.known in
    let made = c.in_ok-token.ensures in
    let range : IsInRange asked =
    record {
      kept = c.requires.storable;
      explicit_max_ttl = made.long;
      num_uses = made.wide;
      texts = each_pair asked.meta made.texts;
    } in
    let accessor : c.in_ok-accessor.accessor ≡ (names_of c.args.context.now.words).accessor =
    c.in_ok-accessor.ensures ∙ c.as_str.ensures ∙ c.index-own-1.is
    ∙ ap (λ (own : List Text). get_or own 1 c.index-own-1.result) c.requires.own.are in
    subst IsTokenInRange (sym made.entry)
    (new_in_range c.context.inside.clock c.in_ok-parent.parent c.in_ok-accessor.accessor
    c.in_ok-policies.policies.items asked made.within
    (parent_named c.caller.inside.token.now making asked c.in_ok-parent.parent c.in_ok-parent.ensures
    (not_empty c.caller.inside.token.now c.if-is_empty.ensures))
    (subst IsIdentifier (sym accessor) (printed c.args.own.now (names_of c.args.context.now.words)
    c.requires.own).accessor)
    (subst (ArePolicies IsShortText) (sym c.in_ok-policies.ensures)
    (new_policies_short privileged e asked read names range)) range)

pub returns-then-is_empty-clause-told : goal.returns-then-is_empty-clause-told
returns-then-is_empty-clause-told g c are honest b starts fresh =
    let rows = (g.T.RecordsTx.seen c.args.tx.now).rows in
    let none = c.if-is_empty.ensures ∙ ap (λ (x : Caller). length x.token == 0)
    (c.caller.view_is ∙ ap (λ (a : Asker). a.caller) c.asker.view_is) in
    absurd (none-some _
    (no_empty_token b rows starts.begins.represents c.args.asker.now.caller.token none ∙ sym starts.caller))

pub returns-in_err-check-clause-told : goal.returns-in_err-check-clause-told
returns-in_err-check-clause-told g c are honest b starts fresh =
    let asked = c.args.asked.now in
    let making = c.args.making in
    let asker = c.args.asker.now in
    let caller = asker.caller.token in
    let e = asker.caller.known in
    let privileged = c.has_sudo-privileged.result in
    let rows = (g.T.RecordsTx.seen c.args.tx.now).rows in
    let names = names_of c.args.context.now.words in
    let st = starts.begins.represents in
    let p = err_from_is_err_and c.from_residual-in_err-check.result c.from_residual-in_err-check.ensures.1 in
    let known : c.caller.inside.known ≡ e =
    ap (λ (x : Caller). x.known) (c.caller.view_is ∙ ap (λ (a : Asker). a.caller) c.asker.view_is) in
    let said = c.has_sudo-privileged.ensures
    ∙ ap (λ (a : Asker). allows (record a.rules { verb = verb.Write }) (making_path making) capability.Sudo)
    c.asker.view_is in
    let sudo = sudo_told rows e.policies are.0 asker.rules b.policies (making_path making) privileged are.1
    (named_policies_there b rows e.policies st) said in
    let x = mapped token_entry (get b.tokens caller) e (sym starts.caller) in
    let given =
    c.in_ok-policies.ensures ∙ ap (λ (y : TokenEntry). new_policies privileged (token_told y) asked) known in
    let may = same_may b caller names making asked x.0 x.1 e x.2 privileged sudo c.in_ok-policies.policies.items given
    c.check.result (c.check.ensures ∙ (λ i. may_make privileged making (token_told (known i))
    (c.deref.ensures.value i) asked)) in
    let refused =
    create_refused b caller names making asked x.0 x.1 c.in_err-check.field-0.0 (may ∙ c.in_err-check.was) in
    rw (p.1 ∙ ap Err p.2) (rw refused (refl, st))

pub returns-clause-told : goal.returns-clause-told
returns-clause-told g c are honest b starts fresh =
    let asked = c.args.asked.now in
    let making = c.args.making in
    let asker = c.args.asker.now in
    let caller = asker.caller.token in
    let e = asker.caller.known in
    let privileged = c.has_sudo-privileged.result in
    let rows = (g.T.RecordsTx.seen c.args.tx.now).rows in
    let names = names_of c.args.context.now.words in
    let st = starts.begins.represents in
    let row = c.in_ok-token.ensures in
    let range : IsInRange asked =
    record {
      kept = c.requires.storable;
      explicit_max_ttl = row.long;
      num_uses = row.wide;
      texts = each_pair asked.meta row.texts;
    } in
    let seen_as = c.caller.view_is ∙ ap (λ (a : Asker). a.caller) c.asker.view_is in
    let known : c.caller.inside.known ≡ e = ap (λ (x : Caller). x.known) seen_as in
    let parent : c.in_ok-parent.parent ≡ new_parent caller making asked = c.in_ok-parent.ensures
    ∙ ap (λ (x : Caller). new_parent x.token making asked) seen_as in
    let token : c.as_str-2.result.now ≡ names.token = c.as_str-2.ensures ∙ c.index-own-0.is
    ∙ ap (λ (own : List Text). get_or own 0 c.index-own-0.result) c.requires.own.are in
    let accessor : c.in_ok-accessor.accessor ≡ names.accessor = c.in_ok-accessor.ensures ∙ c.as_str.ensures
    ∙ c.index-own-1.is
    ∙ ap (λ (own : List Text). get_or own 1 c.index-own-1.result) c.requires.own.are in
    let clock : b.clock ≡ c.context.inside.clock =
    starts.begins.clock ∙ sym (ap (λ (x : Context). x.clock) c.context.view_is) in
    let said = c.has_sudo-privileged.ensures
    ∙ ap (λ (a : Asker). allows (record a.rules { verb = verb.Write }) (making_path making) capability.Sudo)
    c.asker.view_is in
    let sudo = sudo_told rows e.policies are.0 asker.rules b.policies (making_path making) privileged are.1
    (named_policies_there b rows e.policies st) said in
    let x = mapped token_entry (get b.tokens caller) e (sym starts.caller) in
    let ps = c.in_ok-policies.policies.items in
    let gives =
    c.in_ok-policies.ensures ∙ ap (λ (y : TokenEntry). new_policies privileged (token_told y) asked) known in
    let may = same_may b caller names making asked x.0 x.1 e x.2 privileged sudo ps gives
    c.check.result (c.check.ensures ∙ (λ i. may_make privileged making (token_told (known i))
    (c.deref.ensures.value i) asked))
    ∙ c.in_ok-check.was in
    let given = new_policies (is_privileged b (making_path making) x.0) x.0 asked in
    let same = same_policies_told b caller names making asked x.0 x.1 e x.2 privileged sudo ps gives in
    let new = new_token b.clock (new_parent caller making asked) names.accessor given asked in
    let entry : token_entry new ≡ c.in_ok-token.token =
    same_new b.clock (new_parent caller making asked) names.accessor given asked range
    ∙ (λ i. new_entry (clock i) (sym parent i) (sym accessor i) (sym same i) asked) ∙ sym row.entry in
    let names_given =
    (allowed (is_privileged b (making_path making) x.0) making x.0 given asked c.in_ok-check.field-0 may).named in
    let policies_are = new_policies_are IsPolicyName refl refl (is_privileged b (making_path making) x.0) x.0 asked
    (sound_policies forms caller x.0 (st.sound.tokens.each caller x.0 x.1))
    (each_passes asked.policies names_given) c.requires.storable.few_policies in
    let good = printed c.args.own.now names c.requires.own in
    let can = may_be_made forms (Some caller) b st.sound names good fresh caller making given asked range
    (starts.begins.here caller refl) policies_are in
    rw (create_made b caller names making asked x.0 x.1 c.in_ok-check.field-0 may)
    (c.make.ensures.told (Some caller) token honest b starts.begins new entry can refl refl)

pub returns-clause-call : goal.returns-clause-call
returns-clause-call g c = c.make.ensures.call

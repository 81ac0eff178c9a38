use Rattle.std.proofs.Common.{◌≡◌, ◌++◌, ◌∷◌, [], ap, sym, subst, ◌∙◌, get_or, map, take, Err, arith, take_all}
use Rattle.records.specs.Words.{map_more, map_push, err_from_is_err_and}
use Rattle.kv2.specs.Words.{version_metadata, versions_prefix, AreEntriesOf}
use Rattle.kv2.proofs.EntryLists.{no_version, as_long, as_far, numbered_at, entry_at, one_more}
use Rattle.kv2.proofs.describing.versions_in.Goals as goal

pub returns-in_err-version-clause-told : goal.returns-in_err-version-clause-told
returns-in_err-version-clause-told c vs are =
    let name = c.args.name.now in
    let listed = c.args.listed.now in
    let i = c.loop-entry.entry-index in
    let prefix : c.as_str.result.now ≡ versions_prefix name = c.as_str.ensures.value ∙ c.in_ok-prefix.ensures in
    let p = err_from_is_err_and c.from_residual-in_err-version.result c.from_residual-in_err-version.ensures.1 in
    rw (p.1 ∙ ap Err p.2) (c.in_err-version.ensures.told prefix (get_or vs i no_version)
    (numbered_at name listed vs are i c.loop-entry-test.true)
    (entry_at name listed vs are i c.loop-entry-test.true c.entry-item.result c.entry-item.is))

pub loop-entry-preserved : goal.loop-entry-preserved
loop-entry-preserved c =
    let name = c.args.name.now in
    let listed = c.args.listed.now in
    let i = c.loop-entry.entry-index in
    let prefix : c.as_str.result.now ≡ versions_prefix name = c.as_str.ensures.value ∙ c.in_ok-prefix.ensures in
    let old = c.loop-entry.invariant in
    let one = c.in_ok-version.ensures.exact in
    record {
      told = λ vs are.
          let next : c.in_ok-version.version ≡ version_metadata (get_or vs i no_version) =
          c.in_ok-version.ensures.told prefix (get_or vs i no_version)
          (numbered_at name listed vs are i c.loop-entry-test.true)
          (entry_at name listed vs are i c.loop-entry-test.true c.entry-item.result c.entry-item.is) in
          c.in_ok-push.ensures.items ∙ (λ j. old.told vs are j ++ next j ∷ [])
          ∙ sym (map_more version_metadata vs i no_version (as_far name listed vs are i c.loop-entry-test.true));
      exact = (
        old.exact.0 ++ one.0 ∷ [],
        one_more name listed i old.exact.0 old.exact.1 c.loop-entry-test.true c.entry-item.result c.entry-item.is one.0
            one.1 one.2,
        c.in_ok-push.ensures.items ∙ (λ j. old.exact.2 j ++ one.3 j ∷ [])
            ∙ sym (map_push version_metadata old.exact.0 one.0),
      );
    }

pub returns-clause-told : goal.returns-clause-told
returns-clause-told c vs are =
    c.loop-entry.invariant.told vs are ∙ ap (map version_metadata) (take_all c.loop-entry.entry-index vs
    (omega (arith, as_long c.args.name.now c.args.listed.now vs are, c.loop-entry-test.false)))

pub returns-clause-exact : goal.returns-clause-exact
returns-clause-exact c =
    let name = c.args.name.now in
    let listed = c.args.listed.now in
    let old = c.loop-entry.invariant.exact in
    let all : take c.loop-entry.entry-index listed ≡ listed =
    take_all c.loop-entry.entry-index listed (omega (arith, c.loop-entry-test.false)) in
    (old.0, subst (λ es. AreEntriesOf name es old.0) all old.1, old.2)

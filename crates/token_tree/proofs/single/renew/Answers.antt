use Rattle.records.specs.Words.{Some, sym, ◌∙◌, subst, refl, same_Some, get, mapped, IsEnd, IsTokenInRange, token_entry}
use Rattle.token_tree.specs.Words.{with_end}
use Rattle.token_tree.proofs.single.renew.Goals as goal

pub rewrite-requires : goal.rewrite-requires
rewrite-requires g c =
    let here = subst IsTokenInRange (sym c.found.view_is) c.requires.in_range in
    record {
      parent = here.parent;
      accessor = here.accessor;
      policies = here.policies;
      issued = here.issued;
      ends = λ n e. subst IsEnd (same_Some _ _ e) c.requires.near;
      ttl = here.ttl;
      explicit_max_ttl = here.explicit_max_ttl;
      period = here.period;
      uses_left = here.uses_left;
      meta = here.meta;
    }

pub returns-clause-told : goal.returns-clause-told
returns-clause-told g c honest forms b stands here =
    let x = mapped token_entry (get b.tokens c.args.token.now) c.args.found (sym here) in
    let whole = c.found.view_is ∙ x.2 in
    c.in_ok-rewrite.ensures.told honest b x.0 (with_end c.args.ends) stands.tells x.1
    (λ i. record (sym whole i) { ends = Some c.args.ends }) (λ y. refl)

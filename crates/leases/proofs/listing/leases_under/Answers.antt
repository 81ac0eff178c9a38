use Rattle.std.proofs.Common.{◌&&◌, ◌++◌, ◌∷◌, [], ◌∙◌, nat_eq, refl, sym, ap, subst}
use Rattle.records.specs.Words.{starts_with, IfOk-weaker, is_of_kind, slash, table, rows_under}
use Rattle.records.specs.declared.kind.Kind.TheVariants as kind
use Rattle.leases.specs.Words.{ids_under, leases_among, AreThoseThatEnd}
use Rattle.leases.proofs.ListedLeases.{those_passing}
use Rattle.leases.proofs.listing.leases_under.Goals as goal

pub returns-clause-entries : goal.returns-clause-entries
returns-clause-entries g c honest =
    let old = g.T.RecordsTx.seen c.args.tx.now in
    let prefix = c.args.prefix.now in
    let key = c.as_str.ensures.value ∙ c.in_ok-key.ensures in
    IfOk-weaker c.under.result _ _ (λ list is.
    subst (λ es. AreThoseThatEnd (ids_under prefix) (table old) (leases_among es))
    (sym (is ∙ ap (rows_under old.rows kind.Lease) key))
    (those_passing old.rows (ids_under prefix)
    (λ e. is_of_kind kind.Lease e.0 && starts_with nat_eq e.0.1 (prefix ++ slash ∷ [])) (λ q row. refl)))
    (c.under.ensures.entries honest)

use Rattle.std.proofs.Common.{◌&&◌, refl, sym, subst}
use Rattle.records.specs.Words.{IfOk-weaker, same, is_of_kind, table}
use Rattle.records.specs.declared.kind.Kind.TheVariants as kind
use Rattle.leases.specs.Words.{is_owned, leases_among, AreThoseThatEnd}
use Rattle.leases.proofs.ListedLeases.{those_passing}
use Rattle.leases.proofs.listing.leases_of.Goals as goal

pub returns-clause-entries : goal.returns-clause-entries
returns-clause-entries g c honest =
    let old = g.T.RecordsTx.seen c.args.tx.now in
    let t = c.args.token.now in
    IfOk-weaker c.by_owner.result _ _ (λ list is.
    subst (λ es. AreThoseThatEnd (is_owned t) (table old) (leases_among es)) (sym is)
    (those_passing old.rows (is_owned t) (λ e. is_of_kind kind.Lease e.0 && same e.1.owner t) (λ q row. refl)))
    (c.by_owner.ensures.entries honest)

use Rattle.std.proofs.Common.{◌≡◌, ◌∙◌, List, Option, Some, None, IfErr, IsErrAnd, Result, Ok, Err, map, option_map}
use Rattle.std.proofs.Common.{string_bytes, refl, sym, ap, subst, true}
use Rattle.clap.specs.Words.{App, Row, Text, found_of, is_simple, rows_of, subcommand_of, subcommand_rows_of, takes}
use Rattle.clap.proofs.OnLiterals.{clap_on_literals}
use Rattle.brokerd.specs.CommandLine.{program_app, IsMeant, IsCommandOf}
use Rattle.brokerd.specs.declared.command.Command.{Command}
use Rattle.brokerd.proofs.command.command_of.Goals as goal

simple : (a : App) → a ≡ program_app → is_simple a ≡ true
unfolding clap_on_literals program_app
simple a e = rw e refl

both : (o : Option (Text × List Row)) (name : Text) (rows : List Row)
    → Some name ≡ option_map (λ p. p.0) o → Some rows ≡ option_map (λ p. p.1) o → Some (name, rows) ≡ o
both None name rows e f = cc e
both (Some p) name rows e f = let n : name ≡ p.0 = cc in let r : rows ≡ p.1 = cc in rw (n, r) refl

meant_of : (o : Option (Text × List Row)) (name : Text) (rows : List Row) (r : Option Command)
    → Some (name, rows) ≡ o → IsMeant name rows r → IsCommandOf o r
meant_of o name rows r e meant = rw (← e) meant

none_of : (o : Option (Text × List Row)) → None ≡ option_map (λ p. p.0) o → IsCommandOf o None
none_of None e = tt
none_of (Some p) e = cc e

via : {X : Type 0} (o : Option X) (f : X → Text) (g : X → List Row)
    → option_map f o ≡ option_map {T = Text × List Row} (λ p. p.0) (option_map (λ x. (f x, g x)) o)
via None f g = refl
via (Some x) f g = refl

err_of : {A E : Type 0} (r : Result A E) (e : E) (P : E → Type 0) → IsErrAnd r (λ x. x ≡ e) → P e → IfErr r P
err_of (Ok a) e P is p = tt
err_of (Err x) e P is p = subst P (sym is) p

pub returns-in_err-matches-clause-err : goal.returns-in_err-matches-clause-err
returns-in_err-matches-clause-err c =
    let k = c.in_err-matches.ensures.passes in
    err_of c.from_residual-in_err-matches.result c.in_err-matches.field-0.0 _ c.from_residual-in_err-matches.ensures.1
    (λ taken. k (ap (λ (a : App). takes a (map string_bytes c.args.words.now)) c.in_ok-program.ensures ∙ taken))

pub returns-in-Some-clause-ok : goal.returns-in-Some-clause-ok
returns-in-Some-clause-ok c =
    let m = c.in_ok-matches.matches in
    let words : List Text = map string_bytes c.args.words.now in
    let rows = rows_of (found_of c.in-Some.found.now) in
    let given = c.in_ok-matches.ensures.matches (simple _ c.in_ok-program.ensures) in
    let found = both (subcommand_rows_of m) c.in-Some.name.now rows
    (c.in-Some.ensures.name ∙ via _ _ _) c.in-Some.ensures.rows in
    meant_of _ c.in-Some.name.now rows c.meant.result
    (found ∙ given.1 ∙ ap (λ (a : App). subcommand_of a words) c.in_ok-program.ensures) c.meant.ensures

pub returns-clause-ok : goal.returns-clause-ok
returns-clause-ok c =
    let m = c.in_ok-matches.matches in
    let words : List Text = map string_bytes c.args.words.now in
    let given = c.in_ok-matches.ensures.matches (simple _ c.in_ok-program.ensures) in
    none_of _ (c.in-None.ensures.name ∙ via _ _ _ ∙ ap (option_map (λ (p : Text × List Row). p.0))
    (given.1 ∙ ap (λ (a : App). subcommand_of a words) c.in_ok-program.ensures))

-- What was made ready of rows is so of the files that kept them.
use Rattle.std.proofs.Common.{◌≡◌, ◌≤◌, ℕ, Bool, Option, Ok, Err, Result, sym, subst, IfOk, IfErr, OnErr}
use Rattle.sqlite.specs.Recovery.{Image}
use Rattle.records.specs.Words.{IfOk-weaker, Kept, IsHonestStore, Rows, Text, Words}
use Rattle.records_sql.specs.Words.{IsKeptIn}
use Rattle.database_check.specs.declared.defect.Defect.{Defect}
use Rattle.broker_server.specs.Ready.{AreReadyOf, AreRefusedFor, IsReady, IsRefusedFor}
use Rattle.broker_server.specs.Starting.{IfRefused}
use Rattle.broker_server.specs.declared.serve_error.ServeError.{ServeError}
use Rattle.broker_server.specs.declared.serve_error.ServeError.TheVariants.{Unsound, Faulted}
use Rattle.broker_server.proofs.PreparedLemmas.{honest_checked}

pub of_ok : {A E : Type 0} (P : A → Type 0) (r : Result A E) (x : A) → r ≡ Ok x → IfOk r P → P x
of_ok {A} {E} P r x is p = subst (λ (q : Result A E). IfOk q P) is p

if_refused : {A : Type 0} {P Q : Defect → Type 0} (r : Result A ServeError) → ((d : Defect) → P d → Q d)
    → IfErr r (λ e. IfRefused e P) → IfErr r (λ e. IfRefused e Q)
if_refused (Ok x) f p = tt
if_refused (Err (Unsound defect)) f p = f defect p
if_refused (Err (Faulted fault)) f p = tt

on_err : {A E P Q : Type 0} (r : Result A E) → (P → Q) → OnErr r P → OnErr r Q
on_err (Ok x) f p = tt
on_err (Err e) f p = f p

module _ (image : Image) (opened after : Kept) (less : opened.mismatches ≤ after.mismatches)
    (found : IsHonestStore opened → IsKeptIn image opened.rows) (honest : IsHonestStore after) where
  kept_before : IsKeptIn image opened.rows
  kept_before = found (honest_checked opened after less honest)

  pub ready_of : {E : Type 0} (checks : Bool) (moment : ℕ) (words : Words) (r : Result (Option Text) E)
      → IfOk r (IsReady checks moment words opened.rows after.rows)
      → IfOk r (AreReadyOf image checks moment words after.rows)
  ready_of checks moment words r = IfOk-weaker r _ _ (λ root ready. (opened.rows, kept_before, ready))

  pub refused_for : {A : Type 0} (checks : Bool) (r : Result A ServeError)
      → IfErr r (λ e. IfRefused e (IsRefusedFor checks opened.rows))
      → IfErr r (λ e. IfRefused e (AreRefusedFor image checks))
  refused_for checks r = if_refused r (λ defect refused. (opened.rows, kept_before, refused))

  pub kept_in : {A E : Type 0} (r : Result A E) → OnErr r (after.rows ≡ opened.rows)
      → OnErr r (IsKeptIn image after.rows)
  kept_in r = on_err r (λ same. subst (λ (rows : Rows). IsKeptIn image rows) (sym same) kept_before)

-- A statement that ends a transaction has ended it, whatever it answers.
use Rattle.std.proofs.Common.{◌≡◌, ◌⊎◌, ◌&&◌, ◌||◌, inl, inr, ℕ, Bool, true, false, not, IsTrue, List, [], length, None}
use Rattle.records.specs.Words.{Option, Ok, Err, sym, ap, ◌∙◌, arith, is_some, cases_Bool}
use Rattle.sqlite.specs.Command.{Command}
use Rattle.sqlite.specs.Command.TheVariants.{Begin, Commit, Rollback, Release, RollbackTo}
use Rattle.sqlite.specs.declared.error.Error.{Error}
use Rattle.sqlite_schema.specs.declared.command.Returning.{Returning}
use Rattle.sqlite_resolve.specs.declared.compiled.Compiled.{Compiled}
use Rattle.sqlite.specs.Effect.{is_query}
use Rattle.sqlite.specs.Listing.{understood}
use Rattle.sqlite.specs.State.{State, IsMisplaced, IsNoStatement, IsNotRun, IsRolledBack, MayChange, Executes}
use Rattle.sqlite.specs.State.{ExecutesIn, is_pragma, shows_rows}
use Rattle.records_sql.proofs.Texts.{IsEnd}

abbrev Ends : Command → Type 0
Ends command = (command ≡ Commit) ⊎ (command ≡ Rollback)

pub both_modes : (b : Bool) → IsTrue b → b ≡ false → ⊥
both_modes true t e = absurd cc
both_modes false t e = let x = t in cc

-- ---- it is understood, and runs

not_refused : (sql : List ℕ) (s : State) (e : Error) → IsEnd sql (understood s.now.schema sql)
    → IsNoStatement s sql [] e → ⊥
not_refused sql s e is (inl h) = rw h.1 at is
not_refused sql s e is (inr h) =
    let it : IsEnd sql (Ok h.0) = rw h.1 at is in
    elim h.2 [
      | inl cut ↦ cut.0 (omega (arith, it.4))
      | inr more ↦ elim more [ inl given ↦ given.0 (sym (ap length it.3)) | inr late ↦ late.0 it.2 ]
    ]

shows_none : (k : Command) (r : Option Returning) → Ends k → r ≡ None
    → (is_query k || (not false && (is_pragma k || is_some r))) ≡ true → ⊥
shows_none k r (inl is) none shows = absurd (let e = rw (is, none) at shows in cc)
shows_none k r (inr is) none shows = absurd (let e = rw (is, none) at shows in cc)

never_begins : (k : Command) → Ends k → k ≡ Begin → ⊥
never_begins k (inl is) e = absurd (let z = sym is ∙ e in cc)
never_begins k (inr is) e = absurd (let z = sym is ∙ e in cc)

never_releases : (k : Command) (name : List ℕ) → Ends k → (k ≡ Release name) ⊎ (k ≡ RollbackTo name) → ⊥
never_releases k name (inl is) (inl e) = absurd (let z = sym is ∙ e in cc)
never_releases k name (inl is) (inr e) = absurd (let z = sym is ∙ e in cc)
never_releases k name (inr is) (inl e) = absurd (let z = sym is ∙ e in cc)
never_releases k name (inr is) (inr e) = absurd (let z = sym is ∙ e in cc)

never_changes : (c : Compiled) → Ends c.command → c.returning ≡ None → MayChange c → ⊥
never_changes c (inl is) none (inl w) = rw is at w
never_changes c (inr is) none (inl w) = rw is at w
never_changes c ends none (inr some) = absurd (let e = rw none at some in cc)

-- nor is it out of place in a transaction
never_misplaced : (s : State) (c : Compiled) (e : Error) → Ends c.command → IsTrue s.in_transaction
    → IsMisplaced s c.command e → ⊥
never_misplaced s c e ends inside (inl h) = elim h.1 [
  | inl begins ↦ never_begins c.command ends begins.0
  | inr outside ↦ both_modes s.in_transaction inside outside.1
]
never_misplaced s c e ends inside (inr h) = never_releases c.command h.1 ends h.2

-- So an error of it rolls back: nothing but memory or the storage can fail.
pub undoes : (sql : List ℕ) (old new : State) (e : Error)
    → (IsTrue old.is_open → IsEnd sql (understood old.now.schema sql)) → IsTrue old.in_transaction
    → Executes sql [] old new (Err e) → IsRolledBack old new
unfolding ExecutesIn IsNotRun
undoes sql old new e known inside (inl (inl h)) = absurd (not_refused sql old e (known h.1.0.was_open) h.0)
undoes sql old new e known inside (inl (inr h)) = h.3
undoes sql old new e known inside (inr h) = elim (cases_Bool (shows_rows false h.0)) [
  | inl shows ↦
      let same = (rw shows at h.2).1 in
      let it : IsEnd sql (Ok h.0) = rw h.1.is at (known same.0.was_open) in
      absurd (shows_none h.0.command h.0.returning it.0 it.1 shows)
  | inr runs ↦ elim (rw runs at h.2) [
    | inl r ↦
        let it : IsEnd sql (Ok h.0) = rw h.1.is at (known r.1.0.was_open) in
        absurd (elim r.0 [
          | inl out ↦ never_misplaced old h.0 e it.0 inside out
          | inr change ↦ never_changes h.0 it.0 it.1 change.0
        ])
    | inr f ↦ f.3
  ]
]

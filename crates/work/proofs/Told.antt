-- An entry, and a state of the run of a broken work, told by its number. Assumes nothing.
use Rattle.std.proofs.Common.{◌≡◌, ℕ, zero, suc, true, false, List, [], ◌∷◌, length, take, Ok, Option, Result, sym, refl, ap, subst, ◌∙◌, inl, inr, arith, nat_eq, slice_get}
use Rattle.std.specs.Bool.{then_some}
use Rattle.std.specs.Option.{ok_or}
use Rattle.std.proofs.lemmas.Bool.{cases_lt, lt-ltb, le-ltb}
use Rattle.std.proofs.lemmas.Option.{slice_get-get_or, slice_get_past}
use Rattle.faults.specs.declared.work.WorkFault.{WorkFault}
use Rattle.faults.specs.declared.work.WorkFault.TheVariants.{NoSuchState}
use Rattle.faults.specs.Firsts.{unless}
use Rattle.faults.proofs.Firsts.{unless_ok}
use Rattle.books.specs.declared.entry.Entry.{Entry}
use Rattle.books.specs.Targets.{run_of}
use Rattle.histories.specs.declared.verdict.Verdict.TheVariants.{BrokenAt, BrokenByEntry}
use Rattle.histories.specs.Calls.{Progress}
use Rattle.histories.specs.Histories.{is_broken}
use Rattle.histories.specs.Reads.{read_fault, run_read, entry_at, state_at}
use Rattle.histories.specs.Promises.{EntryPromises}
use Rattle.histories.proofs.Promised.{entry_promises}

-- an entry told of a work as it is seen
pub entry_told : {v w : Progress} → v ≡ w → (book : List Entry) (j : ℕ) (r : Result Entry WorkFault) → r ≡ entry_at v book j → EntryPromises w book r
entry_told {w = w} same book j r e = subst (EntryPromises w book) (sym (subst (λ w. r ≡ entry_at w book j) same e)) (entry_promises w book j)

module _ (w : Progress) (book : List Entry) (j : ℕ) (u : Unit {0}) (readable : Ok u ≡ unless (read_fault w book) tt) (r : Result ℕ WorkFault) (state : Option ℕ) (told : r ≡ ok_or state (NoSuchState j)) where
  -- where the run that is read out has the state
  told_of : is_broken w.verdict ≡ true → state ≡ slice_get (run_read w book) j → r ≡ state_at w book j
  told_of b e = told ∙ ap (λ o. ok_or o (NoSuchState j)) e ∙
      elim (cases_lt j (length (run_read w book))) [
        | inl l ↦ rw (unless_ok (read_fault w book) tt u readable, b, lt-ltb j (length (run_read w book)) l, slice_get-get_or (run_read w book) j 0 l) refl
        | inr g ↦ rw (unless_ok (read_fault w book) tt u readable, b, le-ltb j (length (run_read w book)) g, slice_get_past (run_read w book) j g) refl
      ]

  -- the state found at opening, which is the only one
  pub told_at : (s : ℕ) → w.verdict ≡ BrokenAt s → state ≡ then_some (nat_eq j 0) s → r ≡ state_at w book j
  told_at s v e = told_of (rw v refl) (e ∙ rw v (go j))
    where
      go : (i : ℕ) → then_some (nat_eq i 0) s ≡ slice_get (s ∷ []) i
      go zero = refl
      go (suc i) = rw (let z : nat_eq (suc i) 0 ≡ false = grind arith in z) refl

  -- a state of the last entry's run
  pub told_by_entry : w.verdict ≡ BrokenByEntry → state ≡ slice_get (run_of w.system (take w.used book)) j → r ≡ state_at w book j
  told_by_entry v e = told_of (rw v refl) (e ∙ rw v refl)

-- What a taking does, from what its parts did. Assumes nothing.
use Rattle.std.proofs.Common.{◌≡◌, ℕ, ◌+◌, ◌-◌, ◌<◌, ◌≤◌, List, [], length, map, take, None, Ok, Err, Result, sym, refl, ap, ◌∙◌, subst, arith}
use Rattle.std.proofs.lemmas.List.{length-map}
use Rattle.solver.specs.declared.capacity.Capacity.{Capacity}
use Rattle.std.specs.Result.{IsErrAnd}
use Rattle.std.proofs.lemmas.Result.{err_from_is_err_and}
use Rattle.faults.specs.declared.work.WorkFault.{WorkFault}
use Rattle.faults.specs.Firsts.{unless}
use Rattle.faults.specs.declared.work.WorkFault.TheVariants.{NoPlace}
use Rattle.faults.proofs.Firsts.{unless_err}
use Rattle.clauses.specs.Candidates.{read_candidates, CandidateList}
use Rattle.clauses.proofs.CandidateLaw.{candidates_as_spelled}
use Rattle.candidate_sieve.specs.Candidates.{chosen}
use Rattle.books.specs.declared.entry.Entry.{Entry}
use Rattle.books.specs.declared.entry.Kind.TheVariants.{Taken}
use Rattle.books.specs.Entries.{entry_of}
use Rattle.books.specs.Books.{Ready}
use Rattle.taking.specs.Taking.{Sieved, taken_entries}
use Rattle.histories.specs.declared.verdict.Verdict.TheVariants.{Undecided}
use Rattle.histories.specs.Calls.{Progress, Stage, entries, checked, written, Took, take_refused, take_unread, take_full, take_stores}
use Rattle.work.proofs.Checked.{checked_ready}
use Rattle.work.proofs.Storing.{chosen_take}

-- candidates that were read are a list of candidates
pub read_listed : (n : ℕ) (bs : List ℕ) (ds : List (List ℕ)) → Ok ds ≡ read_candidates n bs → CandidateList n ds
read_listed n bs ds e = ((candidates_as_spelled n bs (Ok ds) e ds).0 refl).0

-- refused by a check
pub refused : (capacity : Capacity) (x : Stage) (read : Result (List (List ℕ)) WorkFault) (r : Result (Unit {0}) WorkFault) (f : WorkFault)
    → Err f ≡ unless (checked capacity x) (tt {0}) → IsErrAnd r (λ y. y ≡ f) → Took capacity x read r x
refused capacity x read r f e a =
    let p = err_from_is_err_and r a in take_refused f (unless_err (checked capacity x) tt f e) (p.1 ∙ ap Err p.2) refl

-- or by the list, read for the work v as it is seen
pub unread : (capacity : Capacity) (x : Stage) (bs : List ℕ) (r : Result (Unit {0}) WorkFault) (f : WorkFault) (v : Progress)
    → checked capacity x ≡ None → Err f ≡ read_candidates v.system.n bs → v ≡ x.work → IsErrAnd r (λ y. y ≡ f)
    → Took capacity x (read_candidates x.work.system.n bs) r x
unread capacity x bs r f v h e same a =
    let p = err_from_is_err_and r a in
    let read = e ∙ ap (λ (w : Progress). read_candidates w.system.n bs) same in
    take_unread h f (sym read) (p.1 ∙ ap Err p.2) refl

-- a work as it is seen, v, that was checked
module _ (capacity : Capacity) (x : Stage) (h : checked capacity x ≡ None) (v : Progress) (same : v ≡ x.work) (within : v.used ≤ v.places) where
  seen_used : v.used ≡ x.work.used
  seen_used = ap (λ (w : Progress). w.used) same

  seen_places : v.places ≡ x.work.places
  seen_places = ap (λ (w : Progress). w.places) same

  pub handed_sieved : (ds : List (List ℕ)) (M : List ℕ) → CandidateList x.work.system.n ds
      → (Ready v.system (take v.used x.book) capacity → CandidateList v.system.n ds → Sieved v.system (take v.used x.book) ds M) → Sieved x.work.system (entries x) ds M
  handed_sieved ds M list f =
      subst (λ (w : Progress). Sieved w.system (take w.used x.book) ds M) same
      (f (subst (λ (w : Progress). Ready w.system (take w.used x.book) capacity) (sym same) (checked_ready capacity x h (omega (arith, seen_used, seen_places)))) (subst (λ (w : Progress). CandidateList w.system.n ds) (sym same) list))

  -- the marked ones of the candidates ds, which are the clauses cs of a list
  module _ (cs ds : List (List ℕ)) (marks : List ℕ) (listed : cs ≡ ds) (sieved : Sieved x.work.system (entries x) ds (take (length ds) marks)) where
    same_chosen : chosen (take (length ds) marks) ds ≡ chosen marks cs
    same_chosen = chosen_take marks ds ∙ ap (chosen marks) (sym listed)

    same_entries : taken_entries ds (take (length ds) marks) ≡ taken_entries cs marks
    same_entries = ap (map (entry_of Taken)) same_chosen

    same_count : length (taken_entries ds (take (length ds) marks)) ≡ length (chosen marks cs)
    same_count = length-map (chosen (take (length ds) marks) ds) (entry_of Taken) ∙ ap length same_chosen

    pub took_full : (held : List (List ℕ)) → held ≡ [] → v.places - v.used < length (chosen marks cs)
        → Took capacity x (Ok ds) (Err NoPlace) (record { work = x.work; book = x.book; held = held })
    took_full held e l =
        take_full h ds refl (take (length ds) marks) sieved (omega (arith, same_count, seen_used, seen_places)) refl (ap (λ fs. record { work = x.work; book = x.book; held = fs }) e)

    pub took_stored : (w : Progress) (book : List Entry) (held : List (List ℕ)) → length (chosen marks cs) ≤ v.places - v.used
        → w ≡ record { system = x.work.system; places = x.work.places; used = x.work.used + length (chosen marks cs); verdict = Undecided }
        → book ≡ written x.book x.work.used (taken_entries cs marks) → held ≡ []
        → Took capacity x (Ok ds) (Ok tt) (record { work = w; book = book; held = held })
    took_stored w book held l e f z =
        take_stores h ds refl (take (length ds) marks) sieved (omega (arith, same_count, seen_used, seen_places)) refl (search (same_entries, same_count, e, f, z))

-- What any list of calls leaves: the work and its used entries, and how many turns were accepted.
use Rattle.std.specs.Prelude.{◌≡◌, ℕ, ◌+◌, Bool, true, false, cond, List, [], length, Ok, Err, Result, ◌==◌}
use Rattle.system.specs.Systems.{System}
use Rattle.solver.specs.declared.capacity.Capacity.{Capacity}
use Rattle.faults.specs.declared.work.WorkFault.{WorkFault}
use Rattle.layout.specs.Spelling.{Admitted}
use Rattle.clauses.specs.Candidates.{read_candidates}
use Rattle.books.specs.declared.entry.Entry.{Entry}
use Rattle.histories.specs.declared.verdict.Verdict.{Verdict}
use Rattle.histories.specs.declared.verdict.Verdict.TheVariants.{Undecided, Holds, BrokenAt, BrokenByEntry}
use Rattle.histories.specs.Calls.{Progress, Stage, entries, Opened, Turned, Took}

-- 1 for an accepted call
abbrev pub counted : Result (Unit {0}) WorkFault → ℕ
counted (Ok x) = 1
counted (Err f) = 0

-- the used entries of a book of the work's size; a book of another size has none to tell, and they are as before
abbrev pub kept : List Entry → Stage → List Entry
kept es x = cond (length x.book == x.work.places) (entries x) es

-- the work w with its used entries es came from an opening of c by any list of turns, takings and looks, refused ones included,
-- over any solvers, and k of the turns were accepted. Each call finds the work and its used entries as the one before left
-- them; the other places may hold anything, and the book may have another size
pub data Lived (c : System) : ℕ → Progress → List Entry → Type 0 where
  opens : {w : Progress} → Admitted c
      → (capacity : Capacity) (places : ℕ) (held after : List (List ℕ)) → Opened capacity c places held (Ok w) after → Lived c 0 w []
  turns : {k : ℕ} {w : Progress} {es : List Entry} → Lived c k w es
      → (capacity : Capacity) (x : Stage) (r : Result (Unit {0}) WorkFault) (y : Stage) → x.work ≡ w → kept es x ≡ es
      → Turned capacity x r y → Lived c (k + counted r) y.work (kept es y)
  takes : {k : ℕ} {w : Progress} {es : List Entry} → Lived c k w es
      → (capacity : Capacity) (x : Stage) (bs : List ℕ) (r : Result (Unit {0}) WorkFault) (y : Stage) → x.work ≡ w → kept es x ≡ es
      → Took capacity x (read_candidates c.n bs) r y → Lived c k y.work (kept es y)
  looks : {k : ℕ} {w : Progress} {es : List Entry} → Lived c k w es → Lived c k w es

abbrev pub is_broken : Verdict → Bool
is_broken Undecided = false
is_broken Holds = false
is_broken (BrokenAt s) = true
is_broken BrokenByEntry = true

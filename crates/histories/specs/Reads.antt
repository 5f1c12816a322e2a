-- Reading entries and the states of the run, with what is refused.
use Rattle.std.specs.Prelude.{ℕ, ◌-◌, Bool, false, not, List, [], ◌∷◌, length, take, Option, Result, ◌==◌, nat_lt, slice_index_or}
use Rattle.system.specs.Systems.{System}
use Rattle.faults.specs.Firsts.{unmet, or_else, first_of, unless}
use Rattle.faults.specs.declared.work.WorkFault.{WorkFault}
use Rattle.faults.specs.declared.work.WorkFault.TheVariants.{NoSuchEntry, NoSuchState, BookSize, AgainstRules, NotBroken}
use Rattle.books.specs.declared.entry.Entry.{Entry}
use Rattle.books.specs.Entries.{is_subgoal, blank}
use Rattle.books.specs.Books.{rules_fault}
use Rattle.books.specs.Targets.{run_of}
use Rattle.histories.specs.declared.verdict.Verdict.{Verdict}
use Rattle.histories.specs.declared.verdict.Verdict.TheVariants.{Undecided, Holds, BrokenAt, BrokenByEntry}
use Rattle.histories.specs.Calls.{Progress}
use Rattle.histories.specs.Histories.{is_broken}

-- the run read out of a broken work: the state found at opening, or the run of the last entry
abbrev pub read_out : System → Verdict → List Entry → List ℕ
read_out c Undecided es = []
read_out c Holds es = []
read_out c (BrokenAt s) es = s ∷ []
read_out c BrokenByEntry es = run_of c es

-- broken by the last entry, which is no subgoal
abbrev pub stray : Verdict → List Entry → Bool
stray Undecided es = false
stray Holds es = false
stray (BrokenAt s) es = false
stray BrokenByEntry es = not (is_subgoal (slice_index_or es (length es - 1) blank).kind)

-- why a book cannot be read: it has another size than at opening, or an entry is against the rules
abbrev pub read_fault : Progress → List Entry → Option WorkFault
read_fault w book =
    first_of
    (unmet (length book == w.places) BookSize
    ∷ rules_fault w.system (take w.used book)
    ∷ unmet (not (stray w.verdict (take w.used book))) (AgainstRules 0)
    ∷ [])

-- used entry j
abbrev pub entry_at : Progress → List Entry → ℕ → Result Entry WorkFault
entry_at w book j =
    unless (or_else (read_fault w book) (unmet (nat_lt j (length (take w.used book))) (NoSuchEntry j))) (slice_index_or (take w.used book) j blank)

-- state j of the run of a closed work
abbrev pub run_read : Progress → List Entry → List ℕ
run_read w book = read_out w.system w.verdict (take w.used book)

abbrev pub state_at : Progress → List Entry → ℕ → Result ℕ WorkFault
state_at w book j =
    unless
    (first_of (read_fault w book ∷ unmet (is_broken w.verdict) NotBroken ∷ unmet (nat_lt j (length (run_read w book))) (NoSuchState j) ∷ []))
    (slice_index_or (run_read w book) j 0)

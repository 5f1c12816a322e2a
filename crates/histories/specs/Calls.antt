-- The work on a system with its book: opening, a turn, a taking. Each is a relation between what a call finds, what it answers
-- and what it leaves, at every input, refusals included.
use Rattle.std.specs.Prelude.{◌≡◌, ℕ, ◌+◌, ◌<◌, ◌≤◌, Bool, true, false, not, ◌⊎◌, List, [], ◌∷◌, ◌++◌, length, take, drop, Some, None, Ok, Err, Option, Result, ◌==◌}
use Rattle.system.specs.Systems.{System, Initial, Broken}
use Rattle.solver.specs.declared.capacity.Capacity.{Capacity}
use Rattle.faults.specs.Firsts.{unmet, first_of}
use Rattle.faults.specs.declared.case.CaseFault.{CaseFault}
use Rattle.faults.specs.declared.case.CaseFault.TheVariants.{NoMemory}
use Rattle.faults.specs.declared.work.WorkFault.{WorkFault}
use Rattle.faults.specs.declared.work.WorkFault.TheVariants.{InCase, Decided, BookSize, NoPlace, NoCapacity}
use Rattle.layout.specs.Reading.{read_case}
use Rattle.books.specs.declared.entry.Entry.{Entry}
use Rattle.books.specs.Entries.{subgoal}
use Rattle.books.specs.Books.{rules_fault, book_loaded, enough, room_fault}
use Rattle.books.specs.Targets.{FirstCounterexample, NoCounterexample}
use Rattle.learning.specs.Learning.{LearnedClause, NothingLearned}
use Rattle.taking.specs.Taking.{Sieved, taken_entries}
use Rattle.histories.specs.declared.verdict.Verdict.{Verdict}
use Rattle.histories.specs.declared.verdict.Verdict.TheVariants.{Undecided, Holds, BrokenAt, BrokenByEntry}

abbrev pub decided : Verdict → Bool
decided Undecided = false
decided Holds = true
decided (BrokenAt s) = true
decided BrokenByEntry = true

-- what a work keeps: its system, the places of its book, how many of them are used, and the verdict
pub record Progress : Type 0 where
  pub system : System
  pub places : ℕ
  pub used : ℕ
  pub verdict : Verdict

-- what a call finds or leaves: the work, the book handed to it, and the clauses that the solver holds
pub record Stage : Type 0 where
  pub work : Progress
  pub book : List Entry
  pub held : List (List ℕ)

-- the used entries
abbrev pub entries : Stage → List Entry
entries x = take x.work.used x.book

-- why a turn or a taking is refused before it begins: a verdict was given, the book has another size than at opening, an
-- entry is against the rules, or the solver has too little room
abbrev pub checked : Capacity → Stage → Option WorkFault
checked capacity x =
    first_of
    (unmet (not (decided x.work.verdict)) Decided
    ∷ unmet (length x.book == x.work.places) BookSize
    ∷ rules_fault x.work.system (entries x)
    ∷ unmet (enough capacity x.work.system x.work.places) NoCapacity
    ∷ [])

-- the book with entries written from place i on
abbrev pub written : List Entry → ℕ → List Entry → List Entry
written book i new = take i book ++ (new ++ drop (i + length new) book)

-- the stage after storing entries, with a verdict and nothing held
abbrev pub storing : Stage → List Entry → Verdict → Stage
storing x new v = record {
  work = record { system = x.work.system; places = x.work.places; used = x.work.used + length new; verdict = v };
  book = written x.book x.work.used new;
  held = [];
}

-- the stage after the verdict that all runs are safe, with system and book left in the solver
abbrev pub holding : Stage → Stage
holding x = record {
  work = record { system = x.work.system; places = x.work.places; used = x.work.used; verdict = Holds };
  book = x.book;
  held = book_loaded x.work.system (entries x);
}

-- the stage after a refusal for want of a place: only the solver is wiped
abbrev pub wiped : Stage → Stage
wiped x = record { work = x.work; book = x.book; held = [] }

-- a new work
abbrev pub fresh : System → ℕ → Verdict → Progress
fresh c places v = record { system = c; places = places; used = 0; verdict = v }

-- opening a system: refused for too many places and then for too little room, broken where an initial state is, which one is
-- free, and undecided otherwise. The solver then holds nothing, and where it is refused what it held
pub data Opened (capacity : Capacity) (c : System) (places : ℕ) (held : List (List ℕ)) (r : Result Progress WorkFault) (after : List (List ℕ)) : Type 0 where
  open_refused : (f : WorkFault) → room_fault capacity c places ≡ Some f → r ≡ Err f → after ≡ held → Opened capacity c places held r after
  open_broken : room_fault capacity c places ≡ None
      → (s : ℕ) → Initial c s → Broken c s
      → r ≡ Ok (fresh c places (BrokenAt s)) → after ≡ [] → Opened capacity c places held r after
  open_sound : room_fault capacity c places ≡ None
      → ((s : ℕ) → Initial c s → Broken c s → ⊥)
      → r ≡ Ok (fresh c places Undecided) → after ≡ [] → Opened capacity c places held r after

-- opening bytes: their first fault, or what opening their system gives; want of memory only where nothing is refused
pub data OpenedFrom (capacity : Capacity) (bs : List ℕ) (places : ℕ) (held : List (List ℕ)) (r : Result Progress WorkFault) (after : List (List ℕ)) : Type 0 where
  open_unread : (f : CaseFault) → read_case bs ≡ Err f → r ≡ Err (InCase f) → after ≡ held → OpenedFrom capacity bs places held r after
  open_scarce : (c : System) → read_case bs ≡ Ok c → room_fault capacity c places ≡ None
      → r ≡ Err (InCase NoMemory) → after ≡ held → OpenedFrom capacity bs places held r after
  open_read : (c : System) → read_case bs ≡ Ok c → Opened capacity c places held r after → OpenedFrom capacity bs places held r after

-- a subgoal decides exactly where its state is initial
abbrev pub SubgoalVerdict : System → ℕ → Verdict → Type 0
SubgoalVerdict c s v = (Initial c s × (v ≡ BrokenByEntry)) ⊎ ((Initial c s → ⊥) × (v ≡ Undecided))

-- the entry that a turn makes of a counterexample, with the verdict: the trimmed clause, or the state as a subgoal
pub data Learned (c : System) (es : List Entry) (k s t : ℕ) (e : Entry) (v : Verdict) : Type 0 where
  learned_clause : LearnedClause c es s e → v ≡ Undecided → Learned c es k s t e v
  learned_subgoal : NothingLearned c es s → e ≡ subgoal s t k → SubgoalVerdict c s v → Learned c es k s t e v

-- a turn: refused by a check, decided as holding, refused for want of a place, or one entry stored
pub data Turned (capacity : Capacity) (x : Stage) (r : Result (Unit {0}) WorkFault) (y : Stage) : Type 0 where
  turn_refused : (f : WorkFault) → checked capacity x ≡ Some f → r ≡ Err f → y ≡ x → Turned capacity x r y
  turn_holds : checked capacity x ≡ None → NoCounterexample x.work.system (entries x)
      → r ≡ Ok tt → y ≡ holding x → Turned capacity x r y
  turn_full : checked capacity x ≡ None
      → (k s t : ℕ) → FirstCounterexample x.work.system (entries x) k s t
      → x.work.places ≤ x.work.used
      → r ≡ Err NoPlace → y ≡ wiped x → Turned capacity x r y
  turn_stores : checked capacity x ≡ None
      → (k s t : ℕ) → FirstCounterexample x.work.system (entries x) k s t
      → x.work.used < x.work.places
      → (e : Entry) (v : Verdict) → Learned x.work.system (entries x) k s t e v
      → r ≡ Ok tt → y ≡ storing x (e ∷ []) v → Turned capacity x r y

-- a taking of what reading a list of candidates gave: refused by a check or by the list, refused for want of places, or the
-- outcome stored
pub data Took (capacity : Capacity) (x : Stage) (read : Result (List (List ℕ)) WorkFault) (r : Result (Unit {0}) WorkFault) (y : Stage) : Type 0 where
  take_refused : (f : WorkFault) → checked capacity x ≡ Some f → r ≡ Err f → y ≡ x → Took capacity x read r y
  take_unread : checked capacity x ≡ None → (f : WorkFault) → read ≡ Err f → r ≡ Err f → y ≡ x → Took capacity x read r y
  take_full : checked capacity x ≡ None
      → (ds : List (List ℕ)) → read ≡ Ok ds → (M : List ℕ) → Sieved x.work.system (entries x) ds M
      → x.work.places < x.work.used + length (taken_entries ds M)
      → r ≡ Err NoPlace → y ≡ wiped x → Took capacity x read r y
  take_stores : checked capacity x ≡ None
      → (ds : List (List ℕ)) → read ≡ Ok ds → (M : List ℕ) → Sieved x.work.system (entries x) ds M
      → x.work.used + length (taken_entries ds M) ≤ x.work.places
      → r ≡ Ok tt → y ≡ storing x (taken_entries ds M) Undecided → Took capacity x read r y

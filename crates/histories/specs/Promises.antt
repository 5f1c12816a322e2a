-- What each call promises over any list of calls that came before it.
use Rattle.std.specs.Prelude.{◌≡◌, ℕ, suc, ◌+◌, ◌^◌, ◌<◌, ◌≤◌, not, T, List, [], length, take, Some, None, Ok, Err, Option, Result, ◌≢◌}
use Rattle.system.specs.Literals.{bit, clause}
use Rattle.system.specs.Systems.{System, Reached, Safe}
use Rattle.solver.specs.declared.capacity.Capacity.{Capacity}
use Rattle.faults.specs.declared.work.WorkFault.{WorkFault}
use Rattle.faults.specs.declared.work.WorkFault.TheVariants.{NoPlace}
use Rattle.layout.specs.Spelling.{spell, Admitted}
use Rattle.clauses.specs.Candidates.{read_candidates}
use Rattle.books.specs.declared.entry.Entry.{Entry}
use Rattle.books.specs.Entries.{is_clause, clause_of}
use Rattle.histories.specs.Calls.{Progress, Stage, decided, OpenedFrom, Turned}
use Rattle.histories.specs.Histories.{counted, kept, Lived, is_broken}
use Rattle.histories.specs.Laws.{Lawful, taken_count, Learns, Takes, ReadsRun}

-- a work that was opened is of the admitted system that the bytes spell, and begins a list of calls
pub record OpeningPromises (bs : List ℕ) (r : Result Progress WorkFault) : Type 0 where
  pub spelled : (w : Progress) → r ≡ Ok w → Admitted w.system × (bs ≡ spell w.system)
  pub lived : (w : Progress) → r ≡ Ok w → Lived w.system 0 w []
  pub lawful : (w : Progress) → r ≡ Ok w → Lawful w.system w []

-- a turn, where it finds the work and its used entries as any list of calls left them: the list goes on, what holds after any
-- list holds, it is not refused for want of a place where there are enough, and decides after 2 ^ n accepted turns. What
-- it stores stands in the words of induction
pub record TurnPromises (x : Stage) (r : Result (Unit {0}) WorkFault) (y : Stage) : Type 0 where
  pub lived : (c : System) (k : ℕ) (es : List Entry) → Lived c k x.work es → kept es x ≡ es → Lived c (k + counted r) y.work (kept es y)
  pub lawful : (c : System) (k : ℕ) (es : List Entry) → Lived c k x.work es → kept es x ≡ es → Lawful c y.work (kept es y)
  pub places : (c : System) (k : ℕ) (es : List Entry) → Lived c k x.work es → kept es x ≡ es → taken_count es + 2 ^ c.n ≤ x.work.places → r ≢ Err NoPlace
  pub decides : (c : System) (k : ℕ) (es : List Entry) → Lived c k x.work es → kept es x ≡ es → 2 ^ c.n ≤ k → r ≡ Ok tt → T (decided y.work.verdict)
  pub learns : r ≡ Ok tt → Learns x y

-- a taking: the list of calls goes on, what holds after any list holds, and what it stores is the largest set of its
-- candidates that is inductive together
pub record TakingPromises (x : Stage) (bs : List ℕ) (r : Result (Unit {0}) WorkFault) (y : Stage) : Type 0 where
  pub lived : (c : System) (k : ℕ) (es : List Entry) → Lived c k x.work es → kept es x ≡ es → Lived c k y.work (kept es y)
  pub lawful : (c : System) (k : ℕ) (es : List Entry) → Lived c k x.work es → kept es x ≡ es → Lawful c y.work (kept es y)
  pub takes : (ds : List (List ℕ)) → read_candidates x.work.system.n bs ≡ Ok ds → r ≡ Ok tt → Takes x ds y

-- closing after any list of calls: the verdict is right
abbrev pub ClosingPromises : Progress → Type 0
ClosingPromises w = (c : System) (k : ℕ) (es : List Entry) → Lived c k w es → Lawful c w es

-- a book as a call finds it
abbrev pub found : Progress → List Entry → Stage
found w book = record { work = w; book = book; held = [] }

-- an entry read after any list of calls: a clause of it is true in every reached state of a safe system
abbrev pub EntryPromises : Progress → List Entry → Result Entry WorkFault → Type 0
EntryPromises w book r =
    (c : System) (k : ℕ) (es : List Entry) → Lived c k w es → kept es (found w book) ≡ es → Safe c
    → (e : Entry) → r ≡ Ok e → T (is_clause e.kind) → (s : ℕ) → Reached c s → T (clause (bit s) (clause_of e))

-- reading the states of a broken work after any list of calls: from 0 until none is left they are a run that contains a broken
-- state
abbrev pub RunPromises : Progress → List Entry → Type 0
RunPromises w book =
    (c : System) (k : ℕ) (es : List Entry) → Lived c k w es → kept es (found w book) ≡ es → T (is_broken w.verdict) → length book ≡ w.places
    → ReadsRun c w book

-- so many accepted turns lead from one stage to another
pub data Turns (capacity : Capacity) (x : Stage) : ℕ → Stage → Type 0 where
  turns_none : Turns capacity x 0 x
  turns_more : {k : ℕ} {y : Stage} → Turns capacity x k y → (z : Stage) → Turned capacity y (Ok tt) z → Turns capacity x (suc k) z

-- turning ends where a verdict was given, or with a turn that is refused
abbrev pub Ended : Capacity → Stage → Option WorkFault → Stage → Type 0
Ended capacity last None y = T (decided last.work.verdict) × (y ≡ last)
Ended capacity last (Some f) y = T (not (decided last.work.verdict)) × Turned capacity last (Err f) y

-- judging: a work is opened, and turns are accepted until one decides or is refused
pub record Judging (capacity : Capacity) (bs : List ℕ) (book : List Entry) (held : List (List ℕ)) (f : Option WorkFault) (y : Stage) : Type 0 where
  pub opened : Progress
  pub after : List (List ℕ)
  pub opening : OpenedFrom capacity bs (length book) held (Ok opened) after
  pub accepted : ℕ
  pub last : Stage
  pub turns : Turns capacity (record { work = opened; book = book; held = after }) accepted last
  pub ends : Ended capacity last f y

-- what judging promises: the system is the admitted one that the bytes spell, all places of the book are the work's, a list of
-- calls left them so, and the verdict is right; one was given, or a turn was refused for want of a place, all were used, and there were fewer than 2 ^ n
pub record JudgingPromises (bs : List ℕ) (f : Option WorkFault) (w : Progress) (book : List Entry) : Type 0 where
  pub admitted : Admitted w.system
  pub spelled : bs ≡ spell w.system
  pub size : length book ≡ w.places
  pub lived : (k : ℕ) × Lived w.system k w (take w.used book)
  pub lawful : Lawful w.system w (take w.used book)
  pub given : f ≡ None → T (decided w.verdict)
  pub refused : (g : WorkFault) → f ≡ Some g → (g ≡ NoPlace) × T (not (decided w.verdict)) × (w.used ≡ w.places) × (w.places < 2 ^ w.system.n)
  pub run : T (is_broken w.verdict) → ReadsRun w.system w book

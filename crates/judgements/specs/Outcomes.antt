-- What judging a case comes to, in numbers, and what they say of its system.
use Rattle.std.specs.Prelude.{◌≡◌, ◌⊎◌, ℕ, ◌^◌, ◌<◌, List, [], length, Ok, Err, Result, Some, None, Option, nat_le}
use Rattle.system.specs.Systems.{System, BrokenRun, Safe}
use Rattle.solver.specs.declared.capacity.Capacity.{Capacity}
use Rattle.faults.specs.Firsts.{unmet}
use Rattle.faults.specs.Refusals.{work_refusal, error_code}
use Rattle.faults.specs.declared.case.CaseFault.{CaseFault}
use Rattle.faults.specs.declared.case.CaseFault.TheVariants.{NoMemory}
use Rattle.faults.specs.declared.work.WorkFault.{WorkFault}
use Rattle.faults.specs.declared.work.WorkFault.TheVariants.{InCase, TooManyPlaces}
use Rattle.layout.specs.Spelling.{spell, Admitted}
use Rattle.layout.specs.Reading.{read_case}
use Rattle.books.specs.declared.entry.Entry.{Entry}
use Rattle.histories.specs.declared.verdict.Verdict.{Verdict}
use Rattle.histories.specs.declared.verdict.Verdict.TheVariants.{Undecided, Holds, BrokenAt, BrokenByEntry}
use Rattle.histories.specs.Calls.{Stage}
use Rattle.histories.specs.Promises.{Judging}
use Rattle.judgements.specs.declared.told.JudgeTold.{JudgeTold}

-- the room of the solver
abbrev pub room : Capacity
room = record { clauses = 10241; literals = 311328 }

-- the number of a verdict
abbrev pub verdict_number : Verdict → ℕ
verdict_number Undecided = 0
verdict_number Holds = 1
verdict_number (BrokenAt s) = 2
verdict_number BrokenByEntry = 2

-- how many turns were accepted that stored no entry
abbrev pub storeless : Verdict → ℕ
storeless Undecided = 0
storeless Holds = 1
storeless (BrokenAt s) = 0
storeless BrokenByEntry = 0

-- what the number of a verdict says: that there were fewer places than states, that no run is broken, or that one is
pub data Right (c : System) (places verdict : ℕ) : Type 0 where
  right_undecided : verdict ≡ 0 → places < 2 ^ c.n → Right c places verdict
  right_holds : verdict ≡ 1 → Safe c → Right c places verdict
  right_broken : verdict ≡ 2 → (r : List ℕ) → BrokenRun c r → Right c places verdict

-- the numbers are those of judging, with so many places, the admitted system that the bytes spell, and the verdict is right
pub record Judgement (bs : List ℕ) (places : ℕ) (told : JudgeTold) : Type 0 where
  pub system : System
  pub admitted : Admitted system
  pub spelled : bs ≡ spell system
  pub right : Right system places told.verdict
  pub book : List Entry
  pub size : length book ≡ places
  pub refused : Option WorkFault
  pub last : Stage
  pub judging : Judging room bs book [] refused last
  pub verdict : told.verdict ≡ verdict_number last.work.verdict
  pub turns : told.turns ≡ judging.accepted
  pub used : told.used ≡ last.work.used

-- first the fault of the case, then too many places
abbrev pub judge_fault : Result System CaseFault → ℕ → Option WorkFault
judge_fault (Err f) places = Some (InCase f)
judge_fault (Ok c) places = unmet (nat_le places 8192) TooManyPlaces

-- a case is judged exactly where nothing is refused and there was memory
abbrev pub Outcome : List ℕ → ℕ → Result JudgeTold WorkFault → Type 0
Outcome bs places (Ok told) = (judge_fault (read_case bs) places ≡ None) × Judgement bs places told
Outcome bs places (Err f) = (judge_fault (read_case bs) places ≡ Some f) ⊎ ((f ≡ InCase NoMemory) × (judge_fault (read_case bs) places ≡ None))

-- it is told with 0; else the number of the refusal is returned, 1 where it has none, and nothing is told
abbrev pub Told : JudgeTold → Result JudgeTold WorkFault → ℕ → JudgeTold → Type 0
Told given (Ok told) code out = (code ≡ 0) × (out ≡ told)
Told given (Err f) code out = (code ≡ error_code (work_refusal f)) × (out ≡ given)

-- What the program answers to any bytes.
use Rattle.std.specs.Prelude.{◌≡◌, ℕ, List, [], take, replicate, Ok, Err, Option, Result}
use Rattle.system.specs.Systems.{System}
use Rattle.solver.specs.declared.capacity.Capacity.{Capacity}
use Rattle.faults.specs.Refusals.{case_refusal}
use Rattle.faults.specs.declared.case.CaseFault.{CaseFault}
use Rattle.faults.specs.declared.work.WorkFault.{WorkFault}
use Rattle.books.specs.Entries.{blank}
use Rattle.histories.specs.declared.verdict.Look.{Look}
use Rattle.histories.specs.Calls.{Progress, Stage}
use Rattle.histories.specs.Promises.{Judging, JudgingPromises}
use Rattle.report.specs.Lines.{refusal_line, judged_lines}

-- what a look at a work shows
abbrev pub look_of : Progress → Look
look_of w = record { verdict = w.verdict; used = w.used; places = w.places }

-- the room of the program's solver
abbrev pub room : Capacity
room = record { clauses = 2113; literals = 51232 }

-- the text tells the judging of the system with 64 places, over a solver that held nothing: turns were accepted until one
-- decided, and the verdict is right, or until one was refused
pub record Judgement (bs : List ℕ) (c : System) (text : List ℕ) : Type 0 where
  pub refused : Option WorkFault
  pub ended : Stage
  pub lines : text ≡ judged_lines refused c (look_of ended.work) (take ended.work.used ended.book)
  pub system : ended.work.system ≡ c
  pub places : ended.work.places ≡ 64
  pub judging : Judging room bs (replicate 64 blank) [] refused ended
  pub promises : JudgingPromises bs refused ended.work ended.book

-- of bytes that spell no system, the refusal; of others the judgement
abbrev pub AnswerTo : List ℕ → Result System CaseFault → List ℕ → Type 0
AnswerTo bs (Err f) text = text ≡ refusal_line (case_refusal f)
AnswerTo bs (Ok c) text = Judgement bs c text

-- The number of what a call comes to.
use Rattle.std.specs.Prelude.{ℕ, Result, Ok, Err}
use Rattle.faults.specs.declared.work.WorkFault.{WorkFault}
use Rattle.faults.specs.Refusals.{work_refusal, error_code}

-- 0 for no fault, else the number of the refusal, and 1 where it has none
abbrev pub code : Result (Unit {0}) WorkFault → ℕ
code (Ok x) = 0
code (Err fault) = error_code (work_refusal fault)

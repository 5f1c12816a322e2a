-- What asking comes to, and its number for C.
use Rattle.std.specs.Prelude.{ℕ, List, [], Result, Ok, Err, if◌then◌else◌}
use Rattle.solver.specs.Answers.{need_of, spare}
use Rattle.solver.specs.declared.capacity.Capacity.{Capacity}
use Rattle.exported.specs.declared.fault.AskFault.{AskFault}
use Rattle.exported.specs.declared.fault.AskFault.TheVariants.{NoMemory, NoCapacity}

-- with a solver of this capacity, all is asked where the clauses fit, and else nothing
abbrev pub outcome : List (List ℕ) → Capacity → Result (Unit {0}) AskFault
outcome held capacity = if spare (need_of held) [] capacity then Ok tt else Err NoCapacity

-- the number of what it comes to
abbrev pub code : Result (Unit {0}) AskFault → ℕ
code (Ok _) = 0
code (Err NoMemory) = 1
code (Err NoCapacity) = 2

-- The layer, number and place of every fault.
-- A fault of a lower layer keeps its own inside one of an upper layer.
use Rattle.std.specs.Prelude.{ℕ, max, List, ◌++◌, codes, decimal}
use Rattle.faults.specs.declared.refusal.Refusal.{Refusal}
use Rattle.faults.specs.declared.clause.ClauseFault.{ClauseFault}
use Rattle.faults.specs.declared.clause.ClauseFault.TheVariants.{PastEnd, Variable, Order}
use Rattle.faults.specs.declared.case.CaseFault.{CaseFault}
use Rattle.faults.specs.declared.case.CaseFault.TheVariants.{Short, Relays, Inputs, Count, Total, Offset, InClause, LeftOver, NoMemory}
use Rattle.faults.specs.declared.case.ListName.{ListName}
use Rattle.faults.specs.declared.case.ListName.TheVariants.{Start, Step, Safety}
use Rattle.faults.specs.declared.work.WorkFault.{WorkFault}
use Rattle.faults.specs.declared.work.WorkFault.TheVariants.{InCase, InCandidates, TooManyCandidates, NoSuchClause, NoSuchEntry, NoSuchState, TooManyPlaces, Marks, Decided, BookSize, NoPlace, AgainstRules, NoCapacity, NotBroken}

-- layer, number and place as text, with a space between
abbrev pub told : Refusal → List ℕ
told r = decimal r.layer ++ (codes " " ++ (decimal r.number ++ (codes " " ++ decimal r.place)))

-- the number by which C is told of a refusal, 1 where it has none
abbrev pub error_code : Refusal → ℕ
error_code r = max r.number 1

abbrev pub clause_refusal : ClauseFault → Refusal
clause_refusal (PastEnd at) = record { layer = 1; number = 17; place = at }
clause_refusal (Variable at) = record { layer = 1; number = 18; place = at }
clause_refusal (Order at) = record { layer = 1; number = 19; place = at }

-- where the header has the count of a list, and where it begins
abbrev pub count_place : ListName → ℕ
count_place Start = 4
count_place Step = 6
count_place Safety = 8

abbrev pub offset_place : ListName → ℕ
offset_place Start = 10
offset_place Step = 12
offset_place Safety = 14

abbrev pub case_refusal : CaseFault → Refusal
case_refusal (Short count) = record { layer = 2; number = 11; place = count }
case_refusal Relays = record { layer = 2; number = 12; place = 0 }
case_refusal Inputs = record { layer = 2; number = 13; place = 2 }
case_refusal (Count list) = record { layer = 2; number = 14; place = count_place list }
case_refusal Total = record { layer = 2; number = 15; place = 16 }
case_refusal (Offset list) = record { layer = 2; number = 16; place = offset_place list }
case_refusal (InClause fault) = clause_refusal fault
case_refusal (LeftOver at) = record { layer = 2; number = 20; place = at }
case_refusal NoMemory = record { layer = 2; number = 0; place = 0 }

abbrev pub work_refusal : WorkFault → Refusal
work_refusal (InCase fault) = case_refusal fault
work_refusal (InCandidates fault) = clause_refusal fault
work_refusal (TooManyCandidates at) = record { layer = 3; number = 21; place = at }
work_refusal (NoSuchClause given) = record { layer = 3; number = 31; place = given }
work_refusal (NoSuchEntry given) = record { layer = 3; number = 31; place = given }
work_refusal (NoSuchState given) = record { layer = 3; number = 31; place = given }
work_refusal TooManyPlaces = record { layer = 3; number = 32; place = 0 }
work_refusal (Marks at) = record { layer = 3; number = 33; place = at }
work_refusal Decided = record { layer = 3; number = 41; place = 0 }
work_refusal BookSize = record { layer = 3; number = 42; place = 0 }
work_refusal NoPlace = record { layer = 3; number = 43; place = 0 }
work_refusal (AgainstRules entry) = record { layer = 3; number = 44; place = entry }
work_refusal NoCapacity = record { layer = 3; number = 45; place = 0 }
work_refusal NotBroken = record { layer = 3; number = 46; place = 0 }

-- Clauses that do not fit within two capacities. Assumes nothing.
use Rattle.std.proofs.Common.{◌≡◌, ℕ, ◌<◌, ◌≤◌, false, List, [], length, arith}
use Rattle.std.proofs.lemmas.Bool.Decides.{nat_tests}
use Rattle.system.specs.Literals.{size}
use Rattle.lists.proofs.Spelled.{clauses_length}
use Rattle.solver.specs.Answers.{need_of, spare}
use Rattle.solver.specs.declared.capacity.Capacity.{Capacity}

-- where there are no more clauses than fit, those that do not fit have more literals than fit
pub too_long : (held : List (List ℕ)) (capacity : Capacity) → length held ≤ capacity.clauses → spare (need_of held) [] capacity ≡ false → capacity.literals < size held
too_long held capacity l h = grind (arith, nat_tests)

-- what an answer needs of clauses that are read from bytes
pub ruleset filling = (clauses_length, too_long)

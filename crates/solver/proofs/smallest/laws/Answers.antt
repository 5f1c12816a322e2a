use Rattle.solver.proofs.Smallness.{yes_exactly, smallest_questions}
use Rattle.solver.proofs.smallest.laws.Goals as goal

pub returns : goal.returns
returns c = record { exactly = yes_exactly; smallest = smallest_questions }

use Rattle.std.proofs.Common.{◌≡◌}
use Rattle.std.specs.Iterator.Adapters.{zip_first, zip_second}
use Rattle.std.specs.Slice.Iter.{iter_rest}
use Rattle.lists.specs.Lists.{clauses_of}
use Rattle.candidate_sieve.specs.Candidates.{chosen}
use Rattle.candidate_sieve.proofs.Asking.{Asking}
use Rattle.candidate_sieve.proofs.questions.find_broken.Given as goal

abbrev pub invariant-loop-candidate : goal.invariant-loop-candidate
invariant-loop-candidate g l = record {
  can : (goal.iterator-loop-candidate g).can_next l.candidate-iterator;
  finite : (goal.iterator-loop-candidate g).is_finite l.candidate-iterator;
  held : g.S.Solver.held l.solver ≡ g.S.Solver.held l.fn.solver;
  capacity : g.S.Solver.capacity l.solver ≡ g.S.Solver.capacity l.fn.solver;
  asking : Asking (g.S.Solver.held l.fn.solver) (chosen l.fn.marks (clauses_of l.fn.list)) (iter_rest (zip_second l.candidate-iterator)) (clauses_of (zip_first l.candidate-iterator));
}

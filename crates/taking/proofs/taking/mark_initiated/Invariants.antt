use Rattle.std.proofs.Common.{◌≡◌, [], true}
use Rattle.std.specs.Iterator.Adapters.{enumerate_source, enumerate_count}
use Rattle.solver.specs.Answers.{need_of, spare}
use Rattle.lists.specs.Lists.{clauses_of}
use Rattle.taking.proofs.Initiating.{Initiating}
use Rattle.taking.proofs.taking.mark_initiated.Given as goal

abbrev pub invariant-loop-i : goal.invariant-loop-i
invariant-loop-i g l = record {
  can : (goal.iterator-loop-i g).can_next l.i-iterator;
  finite : (goal.iterator-loop-i g).is_finite l.i-iterator;
  capacity : g.S.Solver.capacity l.solver ≡ g.S.Solver.capacity l.fn.solver;
  held : spare (need_of l.case.start) [] (g.S.Solver.capacity l.fn.solver) ≡ true → g.S.Solver.held l.solver ≡ l.case.start;
  initiating : Initiating l.case (g.S.Solver.capacity l.fn.solver) l.candidates l.marks (clauses_of (enumerate_source l.i-iterator)) (enumerate_count l.i-iterator);
}

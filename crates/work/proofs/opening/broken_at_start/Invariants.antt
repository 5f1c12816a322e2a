use Rattle.std.proofs.Common.{◌≡◌, None}
use Rattle.lists.specs.Lists.{clauses_of}
use Rattle.work.proofs.Starting.{Asking}
use Rattle.work.proofs.opening.broken_at_start.Given as goal

abbrev pub invariant-clauses : goal.invariant-clauses
invariant-clauses g l = record {
  can : (goal.iterator-clauses g).can_next l.clause-iterator;
  finite : (goal.iterator-clauses g).is_finite l.clause-iterator;
  capacity : g.S.Solver.capacity l.solver ≡ g.S.Solver.capacity l.fn.solver;
  held : g.S.Solver.held l.solver ≡ l.case.start;
  none : l.broken ≡ None;
  asking : Asking l.case (clauses_of l.clause-iterator);
}

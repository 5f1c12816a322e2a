use Rattle.std.proofs.Common.{◌≡◌, ◌++◌}
use Rattle.lists.specs.Lists.{clauses_of}
use Rattle.loading.proofs.add_all.Given as goal

-- what is held, followed by what is left, is what was held and the list
abbrev pub invariant-loop-clause : goal.invariant-loop-clause
invariant-loop-clause g l = record {
  can_next : (goal.iterator-loop-clause g).can_next l.clause-iterator;
  is_finite : (goal.iterator-loop-clause g).is_finite l.clause-iterator;
  all : g.S.Solver.held l.solver ++ clauses_of l.clause-iterator ≡ g.S.Solver.held l.fn.solver ++ clauses_of l.initial.clause-iterator;
  capacity : g.S.Solver.capacity l.solver ≡ g.S.Solver.capacity l.fn.solver;
}

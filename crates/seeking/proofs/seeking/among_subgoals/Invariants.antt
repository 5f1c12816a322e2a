use Rattle.std.proofs.Common.{◌≡◌, ◌+◌, None}
use Rattle.books.specs.Books.{Holding}
use Rattle.seeking.proofs.Passing.{Passed}
use Rattle.seeking.proofs.seeking.among_subgoals.Given as goal

abbrev pub invariant-subgoals : goal.invariant-subgoals
invariant-subgoals g l = record {
  held : g.S.Solver.held l.solver ≡ g.S.Solver.held l.fn.solver;
  capacity : g.S.Solver.capacity l.solver ≡ g.S.Solver.capacity l.fn.solver;
  none : l.found ≡ None;
  passed : Holding l.case l.entries (g.S.Solver.held l.fn.solver) (g.S.Solver.capacity l.fn.solver) → Passed l.case l.entries 256 → Passed l.case l.entries (256 + l.number);
}

use Rattle.std.proofs.Common.{◌≡◌, length}
use Rattle.sieve.specs.Marks.{Marks}
use Rattle.sieve.specs.Trims.{Trimmed}
use Rattle.books.specs.Books.{Ready}
use Rattle.learning.specs.Learning.{LiteralClosed, Initiated}
use Rattle.learning.proofs.learning.trim.Given as goal

abbrev pub invariant-loop-relay : goal.invariant-loop-relay
invariant-loop-relay g l = record {
  capacity : g.S.Solver.capacity l.solver ≡ g.S.Solver.capacity l.fn.solver;
  long : length l.marks ≡ length l.fn.marks;
  trimmed : Ready l.case l.entries (g.S.Solver.capacity l.fn.solver) → Marks l.case.n l.fn.marks
      → Marks l.case.n l.marks × Trimmed l.case.n (LiteralClosed l.case l.entries l.state) (Initiated l.case l.state) l.relay l.fn.marks l.marks;
}

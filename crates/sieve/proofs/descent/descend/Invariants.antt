use Rattle.std.proofs.Common.{◌≡◌}
use Rattle.sieve.proofs.Descents.{Down, count}
use Rattle.sieve.proofs.descent.descend.Given as goal

abbrev pub invariant-sifting : goal.invariant-sifting
invariant-sifting g l = record {
  held : g.S.Solver.held l.solver ≡ g.S.Solver.held l.fn.solver;
  capacity : g.S.Solver.capacity l.solver ≡ g.S.Solver.capacity l.fn.solver;
  down : Down (g.V.Sieve.places l.sieve) (g.V.Sieve.need l.sieve) (g.V.Sieve.closed l.sieve) l.fn.marks (g.S.Solver.held l.fn.solver) (g.S.Solver.capacity l.fn.solver) l.marks;
}

abbrev pub decreases-sifting : goal.decreases-sifting
decreases-sifting g l = count l.marks

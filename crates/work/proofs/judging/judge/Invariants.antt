use Rattle.std.proofs.Common.{◌≡◌}
use Rattle.work.proofs.Ended.{Turning, turns_left}
use Rattle.work.proofs.judging.judge.Given as goal

abbrev pub invariant-loop-work : goal.invariant-loop-work
invariant-loop-work g l = record {
  capacity : g.S.Solver.capacity l.solver ≡ g.S.Solver.capacity l.fn.solver;
  turning : Turning (g.S.Solver.capacity l.fn.solver) (record { work = l.initial.work; book = l.initial.book; held = g.S.Solver.held l.initial.solver }) (record { work = l.work; book = l.book; held = g.S.Solver.held l.solver });
}

abbrev pub decreases-loop-work : goal.decreases-loop-work
decreases-loop-work g l = turns_left l.work

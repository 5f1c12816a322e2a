use Rattle.std.proofs.Common.{subst}
use Rattle.histories.specs.Calls.{Progress, Stage}
use Rattle.histories.specs.Promises.{TurnPromises}
use Rattle.histories.proofs.Promised.{turn_promises}
use Rattle.work.proofs.work.Work.turn.Goals as goal

pub returns-clause-promises : goal.returns-clause-promises
returns-clause-promises g c =
    let stage : Progress → Stage = λ w. record { work = w; book = c.args.book.now; held = g.S.Solver.held c.args.solver.now } in
    let next : Stage = record { work = c.turn.new.self; book = c.turn.new.book; held = g.S.Solver.held c.turn.new.solver } in
    subst (λ w. TurnPromises (stage w) c.turn.result next) c.self.view_is
    (turn_promises (g.S.Solver.capacity c.args.solver.now) (stage c.self.inside.account) c.turn.result next c.turn.ensures.admitted c.turn.ensures.turned)

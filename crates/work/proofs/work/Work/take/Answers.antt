use Rattle.std.proofs.Common.{subst}
use Rattle.clauses.specs.Candidates.{read_candidates}
use Rattle.layout.specs.Spelling.{Admitted}
use Rattle.histories.specs.Calls.{Progress, Stage, Took}
use Rattle.histories.proofs.Determined.{taking_determined}
use Rattle.histories.proofs.Promised.{taking_promises}
use Rattle.work.proofs.work.Work.take.Goals as goal

pub returns-clause-took : goal.returns-clause-took
returns-clause-took g c =
    let capacity = g.S.Solver.capacity c.args.solver.now in
    let held = g.S.Solver.held c.args.solver.now in
    let y : Stage = record { work = c.take.new.self; book = c.take.new.book; held = g.S.Solver.held c.take.new.solver } in
    subst (λ (w : Progress). Took capacity (record { work = w; book = c.args.book.now; held = held }) (read_candidates w.system.n c.args.bytes.now) c.take.result y) c.self.view_is c.take.ensures.took

pub returns-clause-promises : goal.returns-clause-promises
returns-clause-promises g c =
    let x : Stage = record { work = c.args.self.now; book = c.args.book.now; held = g.S.Solver.held c.args.solver.now } in
    let y : Stage = record { work = c.take.new.self; book = c.take.new.book; held = g.S.Solver.held c.take.new.solver } in
    taking_promises (g.S.Solver.capacity c.args.solver.now) x c.args.bytes.now c.take.result y
    (subst (λ (w : Progress). Admitted w.system) c.self.view_is c.take.ensures.admitted) (returns-clause-took g c)

pub returns-clause-only : goal.returns-clause-only
returns-clause-only g c =
    let x : Stage = record { work = c.args.self.now; book = c.args.book.now; held = g.S.Solver.held c.args.solver.now } in
    let y : Stage = record { work = c.take.new.self; book = c.take.new.book; held = g.S.Solver.held c.take.new.solver } in
    taking_determined (g.S.Solver.capacity c.args.solver.now) x (read_candidates c.args.self.now.system.n c.args.bytes.now) c.take.result y (returns-clause-took g c)

use Rattle.std.proofs.Common.{Err, ap, ◌∙◌, refl}
use Rattle.std.proofs.lemmas.Result.{err_from_is_err_and}
use Rattle.faults.proofs.Firsts.{unless_err, unless_ok}
use Rattle.histories.specs.Calls.{turn_refused}
use Rattle.work.proofs.account.Account.turn.Goals as goal

pub returns-in_err-check-clause-turned : goal.returns-in_err-check-clause-turned
returns-in_err-check-clause-turned g c =
    let p = err_from_is_err_and c.from_residual.result c.from_residual.ensures.1 in
    let held = g.S.Solver.held c.args.solver.now in
    let f = c.in_err-check.field-0.0 in
    turn_refused f (unless_err _ tt f (c.in_err-check.ensures.value held)) (p.1 ∙ ap Err p.2) refl

pub take_turn-requires : goal.take_turn-requires
take_turn-requires g c = unless_ok _ tt tt (c.in_ok-check.ensures.value (g.S.Solver.held c.args.solver.now))

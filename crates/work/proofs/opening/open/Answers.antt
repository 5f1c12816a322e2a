use Rattle.std.proofs.Common.{Ok, Err, ap, ◌∙◌}
use Rattle.std.proofs.lemmas.Result.{err_from_is_err_and}
use Rattle.cases.proofs.Promises.{read_ok}
use Rattle.histories.specs.declared.verdict.Verdict.{Verdict}
use Rattle.histories.specs.Calls.{fresh, open_broken, open_sound, open_read}
use Rattle.histories.proofs.Promised.{opening_promises}
use Rattle.work.proofs.Opened.{opened_unread, opened_refused, opened_scarce, roomy, start_fits, account_fits}
use Rattle.work.proofs.opening.open.Goals as goal
use Rattle.work.proofs.opening.open.Goals.{in-Some, in-None}

pub returns-in_err-check_case-clause-opened : goal.returns-in_err-check_case-clause-opened
returns-in_err-check_case-clause-opened g c =
    let p = err_from_is_err_and c.from_residual.result c.from_residual.ensures.1 in
    opened_unread (g.S.Solver.capacity c.args.solver.now) c.args.bytes.now c.args.places (g.S.Solver.held c.args.solver.now) c.in_err-check_case.field-0.0 _ c.in_err-check_case.ensures.value (p.1 ∙ ap Err p.2)

pub returns-in_err-check_spelled_room-clause-opened : goal.returns-in_err-check_spelled_room-clause-opened
returns-in_err-check_spelled_room-clause-opened g c =
    let p = err_from_is_err_and c.from_residual-in_err-check_spelled_room.result c.from_residual-in_err-check_spelled_room.ensures.1 in
    opened_refused (g.S.Solver.capacity c.args.solver.now) c.args.bytes.now c.args.places (g.S.Solver.held c.args.solver.now) c.type_inv.bytes c.in_ok-check_case.field-0 c.in_ok-check_case.ensures.value
    c.in_err-check_spelled_room.field-0.0 _ c.in_err-check_spelled_room.ensures.law (p.1 ∙ ap Err p.2)

pub returns-in_err-case-clause-opened : goal.returns-in_err-case-clause-opened
returns-in_err-case-clause-opened g c =
    let p = err_from_is_err_and c.from_residual-in_err-case.result c.from_residual-in_err-case.ensures.1 in
    opened_scarce (g.S.Solver.capacity c.args.solver.now) c.args.bytes.now c.args.places (g.S.Solver.held c.args.solver.now) c.type_inv.bytes c.in_ok-check_case.field-0 c.in_ok-check_case.ensures.value
    c.in_ok-check_spelled_room.field-0 c.in_ok-check_spelled_room.ensures.law c.in_err-case.field-0.0 _ c.in_err-case.ensures.value (p.1 ∙ ap Err p.2)

pub broken_at_start-requires : goal.broken_at_start-requires
broken_at_start-requires g c =
    start_fits (g.S.Solver.capacity c.args.solver.now) c.args.bytes.now c.args.places (g.S.Solver.held c.args.solver.now) c.type_inv.bytes c.in_ok-check_case.field-0 c.in_ok-check_case.ensures.value
    c.in_ok-check_spelled_room.field-0 c.in_ok-check_spelled_room.ensures.law c.in_ok-case.case c.in_ok-case.ensures.value

pub invariant_of-result : goal.invariant_of-result
invariant_of-result g c =
    account_fits (g.S.Solver.capacity c.args.solver.now) c.args.bytes.now c.args.places (g.S.Solver.held c.args.solver.now) c.type_inv.bytes c.in_ok-check_case.field-0 c.in_ok-check_case.ensures.value
    c.in_ok-check_spelled_room.field-0 c.in_ok-check_spelled_room.ensures.law c.in_ok-case.case c.in_ok-case.ensures.value

pub returns-clause-opened : goal.returns-clause-opened
returns-clause-opened g c =
    let system = c.in_ok-case.case in
    let capacity = g.S.Solver.capacity c.args.solver.now in
    let made = λ (v : Verdict). Ok (fresh system c.args.places v) in
    let read = read_ok c.args.bytes.now system c.in_ok-case.ensures.value in
    let none = roomy capacity c.args.bytes.now c.args.places (g.S.Solver.held c.args.solver.now) c.type_inv.bytes c.in_ok-check_case.field-0 c.in_ok-check_case.ensures.value
    c.in_ok-check_spelled_room.field-0 c.in_ok-check_spelled_room.ensures.law system read in
    open_read system read (elim c.match-broken_at_start.branch [
      | in-Some w ↦ open_broken none w.in-Some.state w.in-Some.ensures.broken.0 w.in-Some.ensures.broken.1 (ap made w.verdict-is) c.broken_at_start.ensures.held
      | in-None w ↦ open_sound none w.in-None.ensures.broken (ap made w.verdict-is) c.broken_at_start.ensures.held
    ])

pub returns-clause-promises : goal.returns-clause-promises
returns-clause-promises g c =
    opening_promises (g.S.Solver.capacity c.args.solver.now) c.args.bytes.now c.type_inv.bytes c.args.places (g.S.Solver.held c.args.solver.now) (g.S.Solver.held c.broken_at_start.new.solver) _ (returns-clause-opened g c)

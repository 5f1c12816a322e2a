use Rattle.std.proofs.Common.{rules, ap, subst, ◌∙◌}
use Rattle.faults.proofs.Firsts.{unless_ok}
use Rattle.clauses.specs.Candidates.{read_candidates}
use Rattle.histories.specs.Calls.{Progress, Stage, checked, Took}
use Rattle.work.proofs.Taken.{refused, unread, read_listed}
use Rattle.work.proofs.account.Account.take.Goals as goal

pub returns-in_err-check-clause-took : goal.returns-in_err-check-clause-took
returns-in_err-check-clause-took g c =
    let x : Stage = record { work = c.args.self.now; book = c.args.book.now; held = g.S.Solver.held c.args.solver.now } in
    refused (g.S.Solver.capacity c.args.solver.now) x (read_candidates c.args.self.now.system.n c.args.bytes.now) _ c.in_err-check.field-0.0 (c.in_err-check.ensures.value x.held) (search rules)

pub returns-in_err-candidates-clause-took : goal.returns-in_err-candidates-clause-took
returns-in_err-candidates-clause-took g c =
    let x : Stage = record { work = c.args.self.now; book = c.args.book.now; held = g.S.Solver.held c.args.solver.now } in
    let n = unless_ok (checked (g.S.Solver.capacity c.args.solver.now) x) tt c.in_ok-check.field-0 (c.in_ok-check.ensures.value x.held) in
    unread (g.S.Solver.capacity c.args.solver.now) x c.args.bytes.now _ c.in_err-candidates.field-0.0 _ n c.in_err-candidates.ensures.value c.self.view_is (search rules)

pub take_among-requires-clause-checked : goal.take_among-requires-clause-checked
take_among-requires-clause-checked g c =
    let x : Stage = record { work = c.args.self.now; book = c.args.book.now; held = g.S.Solver.held c.args.solver.now } in
    unless_ok (checked (g.S.Solver.capacity c.args.solver.now) x) tt c.in_ok-check.field-0 (c.in_ok-check.ensures.value x.held)

pub take_among-requires-clause-listed : goal.take_among-requires-clause-listed
take_among-requires-clause-listed g c =
    read_listed c.args.self.now.system.n c.args.bytes.now c.in_ok-candidates.candidates
    (c.in_ok-candidates.ensures.value ∙ ap (λ (w : Progress). read_candidates w.system.n c.args.bytes.now) c.self.view_is)

pub returns-clause-took : goal.returns-clause-took
returns-clause-took g c =
    let x : Stage = record { work = c.args.self.now; book = c.args.book.now; held = g.S.Solver.held c.args.solver.now } in
    let y : Stage = record { work = c.take_among.new.self; book = c.take_among.new.book; held = g.S.Solver.held c.take_among.new.solver } in
    let read = c.in_ok-candidates.ensures.value ∙ ap (λ (w : Progress). read_candidates w.system.n c.args.bytes.now) c.self.view_is in
    subst (λ z. Took (g.S.Solver.capacity c.args.solver.now) x z c.take_among.result y) read c.take_among.ensures.took

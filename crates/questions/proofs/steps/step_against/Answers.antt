use Rattle.std.proofs.Common.{◌≡◌, ◌/◌, ◌%◌, ◌^◌, take, subst}
use Rattle.cases.proofs.Steps.{step_formed}
use Rattle.books.proofs.Consistent.{met_meets, held_over}
use Rattle.questions.proofs.Joins.{step_yes, step_no}
use Rattle.questions.proofs.steps.step_against.Goals as goal

pub returns-in-Yes-clause-answer : goal.returns-in-Yes-clause-answer
returns-in-Yes-clause-answer g c es ruled holds over =
    let system = c.args.case.now in
    let admitted = c.relays-relays.ensures.admitted in
    step_yes system (step_formed system admitted) admitted.safety_clauses es (held_over system es ruled) (met_meets system es ruled)
    (g.S.Solver.held c.args.solver.now) holds (take 32 c.args.clause.now) over (take c.deny-count.result c.deny-count.new.out) c.deny-count.ensures.denied
    c.in-Yes.low c.in-Yes.field-1 c.in-Yes.ensures.answer c.state_of.result c.state_of-in-Yes.result
    (subst (λ n. c.state_of.result ≡ c.in-Yes.low % 2 ^ n) c.relays-relays.ensures.value c.state_of.ensures)
    (subst (λ n. c.state_of-in-Yes.result ≡ c.in-Yes.low / 4294967296 % 2 ^ n) c.relays-relays.ensures.value c.state_of-in-Yes.ensures)

pub returns-in-No-clause-answer : goal.returns-in-No-clause-answer
returns-in-No-clause-answer g c es ruled holds over =
    let system = c.args.case.now in
    let admitted = c.relays-relays.ensures.admitted in
    step_no system (step_formed system admitted) admitted.safety_clauses es (held_over system es ruled) (met_meets system es ruled)
    (g.S.Solver.held c.args.solver.now) holds (take 32 c.args.clause.now) over (take c.deny-count.result c.deny-count.new.out) c.deny-count.ensures.denied c.in-No.ensures.answer

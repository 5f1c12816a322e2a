use Rattle.std.proofs.Common.{◌≡◌, ◌%◌, ◌^◌, take, subst}
use Rattle.questions.proofs.Initials.{initial_yes, initial_no}
use Rattle.questions.proofs.initial.initial_against.Goals as goal

pub returns-in-Yes-clause-answer : goal.returns-in-Yes-clause-answer
returns-in-Yes-clause-answer g c holds over =
    initial_yes c.args.case.now c.relays-relays.ensures.admitted.relays.1 c.relays-relays.ensures.admitted.start_clauses (g.S.Solver.held c.args.solver.now) holds (take 32 c.args.clause.now) over (take c.deny-count.result c.deny-count.new.out) c.deny-count.ensures.denied
    c.in-Yes.low c.in-Yes.field-1 c.in-Yes.ensures.answer c.state_of.result (subst (λ n. c.state_of.result ≡ c.in-Yes.low % 2 ^ n) c.relays-relays.ensures.value c.state_of.ensures)

pub returns-in-No-clause-answer : goal.returns-in-No-clause-answer
returns-in-No-clause-answer g c holds over =
    initial_no c.args.case.now c.relays-relays.ensures.admitted.relays.1 c.relays-relays.ensures.admitted.start_clauses (g.S.Solver.held c.args.solver.now) holds (take 32 c.args.clause.now) over (take c.deny-count.result c.deny-count.new.out) c.deny-count.ensures.denied c.in-No.ensures.answer

use Rattle.std.proofs.Common.{◌≡◌, [], ◌∷◌, subst}
use Rattle.solver.specs.Answers.{Answered, AloneAnswered}
use Rattle.solver.proofs.Smallness.{smallest_questions, either_alone}
use Rattle.solver.proofs.smallest.smallest_questions.Goals as goal

pub returns-clause-nothing : goal.returns-clause-nothing
returns-clause-nothing g c =
    (smallest_questions.nothing _).0 (subst (λ held. Answered held [] c.query-nothing.result) c.wipe.ensures.held c.query-nothing.ensures.answer)

pub returns-clause-either : goal.returns-clause-either
returns-clause-either g c =
    let kept : g.S.Solver.capacity c.asked_alone-empty.new.solver ≡ g.S.Solver.capacity c.args.solver.now = cc in
    either_alone (g.S.Solver.capacity c.args.solver.now) _ (subst (λ k. AloneAnswered (0 ∷ 1 ∷ []) k c.asked_alone-either.result) kept c.asked_alone-either.ensures.answer)

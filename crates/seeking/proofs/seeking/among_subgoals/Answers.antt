use Rattle.std.proofs.Common.{◌≡◌, ◌+◌, ◌%◌, subst, take, None, Some, refl, ap, ◌∙◌, arith, slice_index_or}
use Rattle.questions.specs.Questions.{StepAgainst}
use Rattle.questions.proofs.Whole.{whole}
use Rattle.seeking.proofs.Passing.{is_goal, no_goal, narrow_held, subgoal_first, subgoal_passed, other_passed, all_passed}
use Rattle.books.specs.Entries.{blank}
use Rattle.books.specs.Targets.{FirstCounterexample}
use Rattle.seeking.proofs.seeking.among_subgoals.Goals.{in-Subgoal+in_default-step_against, in_default}
use Rattle.seeking.proofs.seeking.among_subgoals.Goals as goal

pub subgoals-preserved : goal.subgoals-preserved
subgoals-preserved g c =
    let system = c.args.case.now in
    let es = c.args.entries.now in
    let i = c.subgoals.invariant in
    let k = c.subgoals.number in
    let e = slice_index_or es k blank in
    elim c.match-entry.branch [
      | in-Subgoal+in_default-step_against w ↦ record {
        held = ap g.S.Solver.held w.solver-is ∙ w.step_against.ensures.held ∙ i.held;
        capacity = ap g.S.Solver.capacity w.solver-is ∙ w.step_against.ensures.capacity ∙ i.capacity;
        none = i.none;
        passed = λ holding clauses.
            let d = take w.write_held-count.result w.write_held-count.new.out in
            let goal = is_goal e.kind w.in-Subgoal.is in
            let few = c.relays.ensures.admitted.few.2 in
            let narrow = narrow_held system es few k c.subgoals-test.true e refl holding.ready.ruled goal c.relays.ensures.admitted.relays.1 d w.write_held-count.ensures.value in
            subgoal_passed system es few k c.subgoals-test.true e refl holding.ready.ruled goal d w.write_held-count.ensures.value (i.passed holding clauses)
            (whole (λ x. StepAgainst system es x None) system.n d (w.in_default-step_against.ensures.answer es holding.ready.ruled (i.held ∙ holding.loads)) narrow);
      }
      | in_default w ↦ record {
        held = ap g.S.Solver.held w.solver-is ∙ i.held;
        capacity = ap g.S.Solver.capacity w.solver-is ∙ i.capacity;
        none = i.none;
        passed = λ holding clauses. other_passed system es c.relays.ensures.admitted.few.2 k c.subgoals-test.true e refl (no_goal e.kind w.in_default.not-Subgoal) (i.passed holding clauses);
      }
    ]

pub returns-after-subgoals-clause-answer : goal.returns-after-subgoals-clause-answer
returns-after-subgoals-clause-answer g c holding small clauses =
    let i = c.subgoals.invariant in
    rw i.none (all_passed c.args.case.now c.args.entries.now c.relays.ensures.admitted.few.2 c.subgoals.number c.subgoals-test.false (i.passed holding clauses))

pub returns-in-Some-clause-answer : goal.returns-in-Some-clause-answer
returns-in-Some-clause-answer g c holding small clauses =
    let system = c.args.case.now in
    let es = c.args.entries.now in
    let i = c.subgoals.invariant in
    let k = c.subgoals.number in
    let e = slice_index_or es k blank in
    let d = take c.write_held-count.result c.write_held-count.new.out in
    let goal = is_goal e.kind c.in-Subgoal.is in
    let few = c.relays.ensures.admitted.few.2 in
    let narrow = narrow_held system es few k c.subgoals-test.true e refl holding.ready.ruled goal c.relays.ensures.admitted.relays.1 d c.write_held-count.ensures.value in
    let numbered : 256 + k ≡ (256 + k) % 65536 = (let h = c.subgoals-test.true in omega arith) in
    subst (λ n. FirstCounterexample system es n c.in-Some.step.state c.in-Some.step.successor) numbered
    (subgoal_first system es few k c.subgoals-test.true e refl holding.ready.ruled goal d c.in-Some.step c.write_held-count.ensures.value (i.passed holding clauses)
    (whole (λ x. StepAgainst system es x (Some c.in-Some.step)) system.n d (c.in-Some.ensures.answer es holding.ready.ruled (i.held ∙ holding.loads)) narrow))

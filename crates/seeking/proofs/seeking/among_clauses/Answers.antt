use Rattle.std.proofs.Common.{None, Some, drop, sym, ap, ◌∙◌, subst, rules}
use Rattle.std.specs.Iterator.Adapters.{enumerate_source, enumerate_count}
use Rattle.books.specs.Targets.{FirstCounterexample}
use Rattle.lists.specs.Lists.{clauses_of}
use Rattle.questions.specs.Questions.{StepAgainst}
use Rattle.questions.proofs.Whole.{whole}
use Rattle.lists.proofs.Left.{left_more, left_none}
use Rattle.seeking.proofs.Passing.{Passed, narrow_clause, clause_first, clause_passed, clauses_passed}
use Rattle.seeking.proofs.seeking.among_clauses.Goals as goal

pub clauses-preserved : goal.clauses-preserved
clauses-preserved g c =
    let system = c.args.case.now in
    let i = c.clauses.invariant in
    let k = enumerate_count c.clauses.number-iterator in
    let step = c.in-Some.ensures.steps in
    let d = c.in-Some.clause.now in
    let here = left_more system.safety k d (clauses_of (enumerate_source c.next.new.self)) (i.left ∙ step.0) in
    let narrow = narrow_clause system c.relays.ensures.admitted.relays.1 c.relays.ensures.admitted.safety_clauses k d here.0 here.1 in
    record {
      can = search rules;
      finite = search rules;
      held = c.step_against.ensures.held ∙ i.held;
      capacity = c.step_against.ensures.capacity ∙ i.capacity;
      none = i.none;
      left = ap (λ n. drop n system.safety) step.2 ∙ sym here.2;
      passed = λ es ruled holds. subst (Passed system es) (sym step.2) (clause_passed system es k d here.0 here.1 (i.passed es ruled holds) (whole (λ x. StepAgainst system es x None) system.n d (c.in_default.ensures.answer es ruled (i.held ∙ holds)) narrow));
    }

pub returns-in-None-clause-answer : goal.returns-in-None-clause-answer
returns-in-None-clause-answer g c es ruled holds =
    let i = c.clauses.invariant in
    rw i.none
    (clauses_passed c.args.case.now es (enumerate_count c.clauses.number-iterator)
    (left_none c.args.case.now.safety (enumerate_count c.clauses.number-iterator) (i.left ∙ c.in-None.ensures.steps.0.0)) (i.passed es ruled holds))

pub returns-in-Some-step_against-clause-answer : goal.returns-in-Some-step_against-clause-answer
returns-in-Some-step_against-clause-answer g c es ruled holds =
    let system = c.args.case.now in
    let i = c.clauses.invariant in
    let k = enumerate_count c.clauses.number-iterator in
    let step = c.in-Some.ensures.steps in
    let d = c.in-Some.clause.now in
    let here = left_more system.safety k d (clauses_of (enumerate_source c.next.new.self)) (i.left ∙ step.0) in
    let narrow = narrow_clause system c.relays.ensures.admitted.relays.1 c.relays.ensures.admitted.safety_clauses k d here.0 here.1 in
    let x = c.in-Some-step_against.step in
    subst (λ n. FirstCounterexample system es n x.state x.successor) (sym step.1)
    (clause_first system es k d x here.0 here.1 (i.passed es ruled holds) (whole (λ f. StepAgainst system es f (Some x)) system.n d (c.in-Some-step_against.ensures.answer es ruled (i.held ∙ holds)) narrow))

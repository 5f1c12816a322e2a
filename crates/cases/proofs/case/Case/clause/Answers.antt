use Rattle.std.proofs.Common.{rules, ◌≡◌, ◌+◌, ◌≤◌, [], length, get_or, take, drop, refl, sym, ap, ◌∙◌, arith}
use Rattle.std.specs.Iterator.Adapters.{enumerate_source, enumerate_count}
use Rattle.lists.specs.Spelling.{spell_clauses}
use Rattle.lists.specs.Lists.{clauses_of}
use Rattle.lists.proofs.Left.{left_more, left_none}
use Rattle.cases.specs.Answers.{list_of}
use Rattle.cases.proofs.Places.{spell_more, front_ends, clause_found}
use Rattle.cases.proofs.case.Case.clause.Goals as goal

pub overflow_add-result : goal.overflow_add-result
overflow_add-result c =
    omega (arith, front_ends c.args.self.now c.beginning-at.ensures.admitted c.args.list (enumerate_count c.loop-passed.passed-iterator))

pub returns-then-passed-number-clause-value : goal.returns-then-passed-number-clause-value
returns-then-passed-number-clause-value c =
    let s = c.args.self.now in
    let cs = list_of c.args.list s in
    let k = enumerate_count c.loop-passed.passed-iterator in
    let step = c.in-Some.ensures.steps in
    let here = left_more cs k c.in-Some.literals.now (clauses_of (enumerate_source c.next.new.self)) (c.loop-passed.invariant.left ∙ step.0) in
    let at_number : k ≡ c.args.number = sym step.1 ∙ c.if-passed-number.true in
    clause_found s c.args.list c.args.number _ (omega arith) (here.1 ∙ ap (λ j. get_or cs j []) at_number) (omega (arith, ap (λ j. length (spell_clauses (take j cs))) at_number))

pub overflow_add-at-in-loop-passed : goal.overflow_add-at-in-loop-passed
overflow_add-at-in-loop-passed c =
    let s = c.args.self.now in
    let cs = list_of c.args.list s in
    let k = enumerate_count c.loop-passed.passed-iterator in
    let step = c.in-Some.ensures.steps in
    let here = left_more cs k c.in-Some.literals.now (clauses_of (enumerate_source c.next.new.self)) (c.loop-passed.invariant.left ∙ step.0) in
    omega (arith, spell_more cs k here.0, ap length here.1, front_ends s c.beginning-at.ensures.admitted c.args.list (k + 1))

pub loop-passed-preserved : goal.loop-passed-preserved
loop-passed-preserved c =
    let cs = list_of c.args.list c.args.self.now in
    let i = c.loop-passed.invariant in
    let k = enumerate_count c.loop-passed.passed-iterator in
    let step = c.in-Some.ensures.steps in
    let here = left_more cs k c.in-Some.literals.now (clauses_of (enumerate_source c.next.new.self)) (i.left ∙ step.0) in
    record {
      can = search rules;
      finite = search rules;
      before = omega (arith, step.1, step.2);
      left = ap (λ n. drop n cs) step.2 ∙ sym here.2;
      place = omega (arith, ap (λ n. length (spell_clauses (take n cs))) step.2, spell_more cs k here.0, ap length here.1);
    }

pub returns-clause-value : goal.returns-clause-value
returns-clause-value c =
    let cs = list_of c.args.list c.args.self.now in
    let all : length cs ≤ enumerate_count c.loop-passed.passed-iterator = left_none cs _ (c.loop-passed.invariant.left ∙ c.in-None.ensures.steps.0.0) in
    (omega arith, refl)

use Rattle.std.proofs.Common.{rules, ◌+◌, ◌∙◌, set, sym, ap, subst, subst₂}
use Rattle.std.specs.Iterator.Adapters.{enumerate_source, enumerate_count}
use Rattle.lists.specs.Lists.{clauses_of}
use Rattle.questions.proofs.Whole.{whole}
use Rattle.taking.proofs.Initiating.{Tells, Initiating, initiating_on, initiating_end}
use Rattle.taking.proofs.taking.mark_initiated.Goals as goal

pub loop-i-preserved : goal.loop-i-preserved
loop-i-preserved g c =
    let i = c.loop-i.invariant in
    let system = c.args.case.now in
    let capacity = g.S.Solver.capacity c.args.solver.now in
    let ds = c.args.candidates.now in
    let M = c.loop-i.marks in
    let n = c.in-Some.i in
    let x = c.initial_mark.result in
    let d = c.in-Some.candidate.now in
    let rest = clauses_of (enumerate_source c.next.new.self) in
    let steps = c.in-Some.ensures.steps in
    let before = subst₂ (Initiating system capacity ds M) steps.0 (sym steps.1) i.initiating in
    record {
      can = search rules;
      finite = i.finite;
      capacity = c.initial_mark.ensures.capacity ∙ i.capacity;
      held = λ room. c.initial_mark.ensures.held ∙ i.held room;
      initiating = subst (Initiating system capacity ds (set M n x) rest) (ap (λ k. k + 1) steps.1 ∙ sym steps.2)
          (initiating_on system capacity ds M d rest n x before c.relays.ensures.admitted.relays.1 c.initial_mark.ensures.bound (λ room. whole (λ e. Tells system e x) system.n d (c.initial_mark.ensures.initiated (i.held room))));
    }

pub returns-clause-initially : goal.returns-clause-initially
returns-clause-initially g c =
    let system = c.args.case.now in
    let capacity = g.S.Solver.capacity c.args.solver.now in
    let M = c.loop-i.marks in
    let n = enumerate_count c.loop-i.i-iterator in
    initiating_end system capacity c.args.candidates.now M n (subst (λ rest. Initiating system capacity c.args.candidates.now M rest n) c.in-None.ensures.steps.0.0 c.loop-i.invariant.initiating)

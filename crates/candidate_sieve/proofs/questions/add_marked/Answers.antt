use Rattle.std.proofs.Common.{◌++◌, ◌∙◌, subst₂, inl, inr}
use Rattle.std.specs.Iterator.Adapters.{zip_first, zip_second}
use Rattle.std.specs.Slice.Iter.{iter_rest}
use Rattle.lists.specs.Lists.{clauses_of}
use Rattle.candidate_sieve.specs.Candidates.{chosen}
use Rattle.candidate_sieve.proofs.Adding.{Adding, adding_added, adding_end}
use Rattle.candidate_sieve.proofs.questions.add_marked.Goals as goal

pub loop-candidate-preserved : goal.loop-candidate-preserved
loop-candidate-preserved g c =
    let capacity = g.S.Solver.capacity c.args.solver.now in
    let all = g.S.Solver.held c.args.solver.now ++ chosen c.args.marks.now (clauses_of c.args.list) in
    let held = g.S.Solver.held c.loop-candidate.solver in
    let M = iter_rest (zip_second c.next.new.self) in
    let cs = clauses_of (zip_first c.next.new.self) in
    let a = subst₂ (λ N ds. Adding capacity all held N ds) c.in-Some.ensures.steps.1 c.in-Some.ensures.steps.0 c.loop-candidate.invariant.adding in
    record {
      can = c.loop-candidate.invariant.can;
      finite = c.loop-candidate.invariant.finite;
      capacity = c.add_if_marked.ensures.capacity ∙ c.loop-candidate.invariant.capacity;
      adding = adding_added capacity all held c.in-Some.mark.now M c.in-Some.candidate.now cs a (g.S.Solver.held c.add_if_marked.new.solver) c.add_if_marked.ensures.held;
    }

pub returns-clause-held : goal.returns-clause-held
returns-clause-held g c =
    adding_end (g.S.Solver.capacity c.args.solver.now) (g.S.Solver.held c.args.solver.now ++ chosen c.args.marks.now (clauses_of c.args.list)) (g.S.Solver.held c.loop-candidate.solver)
    (iter_rest (zip_second c.loop-candidate.candidate-iterator)) (clauses_of (zip_first c.loop-candidate.candidate-iterator)) c.loop-candidate.invariant.adding
    (elim c.in-None.ensures.steps [ inl s ↦ inl s.1.0 | inr s ↦ inr s.1.0 ])

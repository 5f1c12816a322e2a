use Rattle.std.proofs.Common.{inl, inr}
use Rattle.std.specs.Iterator.Adapters.{zip_first, zip_second}
use Rattle.std.specs.Slice.Iter.{iter_rest}
use Rattle.lists.specs.Lists.{clauses_of}
use Rattle.candidate_sieve.specs.Candidates.{chosen}
use Rattle.candidate_sieve.proofs.Asking.{asking_end}
use Rattle.candidate_sieve.proofs.questions.find_broken.Goals as goal

pub returns-clause-answer : goal.returns-clause-answer
returns-clause-answer g c =
    asking_end (g.S.Solver.held c.args.solver.now) (chosen c.args.marks.now (clauses_of c.args.list))
    (iter_rest (zip_second c.loop-candidate.candidate-iterator)) (clauses_of (zip_first c.loop-candidate.candidate-iterator)) c.loop-candidate.invariant.asking
    (elim c.in-None.ensures.steps [ inl s ↦ inl s.1.0 | inr s ↦ inr s.1.0 ])

use Rattle.std.specs.Iterator.Adapters.{enumerate_source, enumerate_count}
use Rattle.lists.specs.Lists.{clauses_of}
use Rattle.candidate_sieve.specs.Questions.{unmarked}
use Rattle.candidate_sieve.proofs.Unmarking.{Unmarking}
use Rattle.candidate_sieve.proofs.questions.unmark_false.Given as goal

abbrev pub invariant-loop-i : goal.invariant-loop-i
invariant-loop-i l = record {
  can : goal.iterator-loop-i.can_next l.i-iterator;
  finite : goal.iterator-loop-i.is_finite l.i-iterator;
  unmarking : Unmarking l.state (unmarked l.state l.fn.marks (clauses_of l.fn.list)) l.marks (clauses_of (enumerate_source l.i-iterator)) (enumerate_count l.i-iterator);
}

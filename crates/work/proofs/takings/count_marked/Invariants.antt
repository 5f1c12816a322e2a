use Rattle.std.proofs.Common.{◌≡◌, ◌+◌, length}
use Rattle.std.specs.Iterator.Adapters.{zip_first, zip_second}
use Rattle.std.specs.Slice.Iter.{iter_rest}
use Rattle.lists.specs.Lists.{clauses_of}
use Rattle.candidate_sieve.specs.Candidates.{chosen}
use Rattle.work.proofs.takings.count_marked.Given as goal

abbrev pub invariant-loop-mark : goal.invariant-loop-mark
invariant-loop-mark l = record {
  can : (goal.iterator-loop-mark).can_next l.mark-iterator;
  finite : (goal.iterator-loop-mark).is_finite l.mark-iterator;
  count : l.count + length (chosen (iter_rest (zip_second l.mark-iterator)) (clauses_of (zip_first l.mark-iterator))) ≡ length (chosen l.fn.marks (clauses_of l.fn.list));
}

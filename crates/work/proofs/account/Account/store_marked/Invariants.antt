use Rattle.std.proofs.Common.{◌+◌, length}
use Rattle.std.specs.Iterator.Adapters.{zip_first, zip_second}
use Rattle.std.specs.Slice.Iter.{iter_rest}
use Rattle.lists.specs.Lists.{clauses_of}
use Rattle.candidate_sieve.specs.Candidates.{chosen}
use Rattle.taking.specs.Taking.{taken_entries}
use Rattle.histories.specs.Calls.{written}
use Rattle.work.proofs.Storing.{Storing}
use Rattle.work.proofs.account.Account.store_marked.Given as goal

abbrev pub invariant-loop-candidate : goal.invariant-loop-candidate
invariant-loop-candidate l = record {
  can : (goal.iterator-loop-candidate).can_next l.candidate-iterator;
  finite : (goal.iterator-loop-candidate).is_finite l.candidate-iterator;
  storing : Storing l.fn.self (l.fn.self.used + length (chosen l.fn.marks (clauses_of l.fn.list))) (written l.fn.book l.fn.self.used (taken_entries (clauses_of l.fn.list) l.fn.marks)) l.self l.book (iter_rest (zip_second l.candidate-iterator)) (clauses_of (zip_first l.candidate-iterator));
}

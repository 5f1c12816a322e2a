use Rattle.std.proofs.Common.{◌≡◌, ◌+◌, ◌≤◌, length, take, drop}
use Rattle.std.specs.Iterator.Adapters.{enumerate_source, enumerate_count}
use Rattle.lists.specs.Spelling.{spell_clauses}
use Rattle.lists.specs.Lists.{clauses_of}
use Rattle.cases.specs.Answers.{list_of, beginning}
use Rattle.cases.proofs.case.Case.clause.Given as goal

-- some clauses have been passed, and the others are left
abbrev pub invariant-loop-passed : goal.invariant-loop-passed
invariant-loop-passed l = record {
  can : goal.iterator-loop-passed.can_next l.passed-iterator;
  finite : goal.iterator-loop-passed.is_finite l.passed-iterator;
  before : enumerate_count l.passed-iterator ≤ l.number;
  left : drop (enumerate_count l.passed-iterator) (list_of l.fn.list l.self) ≡ clauses_of (enumerate_source l.passed-iterator);
  place : l.at ≡ beginning l.fn.list l.self + length (spell_clauses (take (enumerate_count l.passed-iterator) (list_of l.fn.list l.self)));
}

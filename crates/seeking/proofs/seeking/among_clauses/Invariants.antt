use Rattle.std.proofs.Common.{◌≡◌, List, drop, None}
use Rattle.std.specs.Iterator.Adapters.{enumerate_source, enumerate_count}
use Rattle.lists.specs.Lists.{clauses_of}
use Rattle.books.specs.declared.entry.Entry.{Entry}
use Rattle.books.specs.Books.{Ruled, book_loaded}
use Rattle.seeking.proofs.Passing.{Passed}
use Rattle.seeking.proofs.seeking.among_clauses.Given as goal

abbrev pub invariant-clauses : goal.invariant-clauses
invariant-clauses g l = record {
  can : (goal.iterator-clauses g).can_next l.number-iterator;
  finite : (goal.iterator-clauses g).is_finite l.number-iterator;
  held : g.S.Solver.held l.solver ≡ g.S.Solver.held l.fn.solver;
  capacity : g.S.Solver.capacity l.solver ≡ g.S.Solver.capacity l.fn.solver;
  none : l.found ≡ None;
  left : drop (enumerate_count l.number-iterator) l.case.safety ≡ clauses_of (enumerate_source l.number-iterator);
  passed : (es : List Entry) → Ruled l.case es → g.S.Solver.held l.fn.solver ≡ book_loaded l.case es → Passed l.case es (enumerate_count l.number-iterator);
}

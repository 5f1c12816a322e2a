use Rattle.std.proofs.Common.{◌≡◌, ◌++◌, [], true, drop}
use Rattle.solver.specs.Answers.{need_of, spare}
use Rattle.books.specs.Entries.{held_clauses}
use Rattle.books.specs.Books.{book_loaded}
use Rattle.books.proofs.loads.load_book.Given as goal

-- what is held and what is left are everything, and what is held fits
abbrev pub invariant-loop-entry : goal.invariant-loop-entry
invariant-loop-entry g l = record {
  left : g.S.Solver.held l.solver ++ held_clauses l.case.n (drop l.entry-index l.entries) ≡ book_loaded l.case l.entries;
  room : spare (need_of (g.S.Solver.held l.solver)) [] (g.S.Solver.capacity l.fn.solver) ≡ true;
  capacity : g.S.Solver.capacity l.solver ≡ g.S.Solver.capacity l.fn.solver;
}

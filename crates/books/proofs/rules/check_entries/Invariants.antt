use Rattle.std.proofs.Common.{◌≡◌, drop}
use Rattle.books.specs.Books.{against}
use Rattle.books.proofs.rules.check_entries.Given as goal

abbrev pub invariant-loop-i : goal.invariant-loop-i
invariant-loop-i l = record { left : against l.case l.entries 0 l.entries ≡ against l.case l.entries l.i (drop l.i l.entries) }

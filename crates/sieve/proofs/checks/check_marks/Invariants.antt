use Rattle.std.proofs.Common.{◌≡◌, drop}
use Rattle.sieve.specs.Sieves.{bad_mark}
use Rattle.sieve.proofs.checks.check_marks.Given as goal

abbrev pub invariant-loop-i : goal.invariant-loop-i
invariant-loop-i l = record { left : bad_mark 0 l.marks ≡ bad_mark l.i (drop l.i l.marks) }

use Rattle.std.proofs.Common.{◌≡◌, ◌≤◌, take, length}
use mathlib.Core.Bool.{beq}
use Rattle.system.specs.Literals.{bit}
use Rattle.system.specs.Spelling.{spelled}
use Rattle.sieve.specs.Marks.{marked}
use Rattle.literal_sieve.proofs.literals.write_literals.Given as goal

abbrev pub invariant-loop-i : goal.invariant-loop-i
invariant-loop-i l = record {
  long : length l.out ≡ 32;
  bound : l.count ≤ l.i;
  written : take l.count l.out ≡ spelled l.first l.i (marked l.marks) (λ i. beq (bit l.state i) l.truth);
}

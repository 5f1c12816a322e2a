use Rattle.denial.proofs.Opposites.{Denying}
use Rattle.denial.proofs.denying.deny.Given as goal

abbrev pub invariant-loop-i : goal.invariant-loop-i
invariant-loop-i l = Denying l.moment l.literal-items l.i l.out

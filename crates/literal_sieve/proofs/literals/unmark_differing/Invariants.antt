use Rattle.std.proofs.Common.{◌≡◌, ℕ, ◌<◌, ◌≤◌, cond, get_or}
use mathlib.Core.Bool.{beq}
use Rattle.system.specs.Literals.{bit}
use Rattle.literal_sieve.proofs.literals.unmark_differing.Given as goal

abbrev pub invariant-loop-i : goal.invariant-loop-i
invariant-loop-i l = record {
  done : (k : ℕ) → k < l.i → get_or l.marks k 0 ≡ cond (beq (bit l.other k) (bit l.state k)) (get_or l.fn.marks k 0) 0;
  rest : (k : ℕ) → l.i ≤ k → get_or l.marks k 0 ≡ get_or l.fn.marks k 0;
}

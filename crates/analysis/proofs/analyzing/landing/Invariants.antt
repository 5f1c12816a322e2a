use Rattle.std.proofs.Common.{◌≡◌, ℕ, true, ◌⊎◌, take}
use Rattle.system.specs.Literals.{bit}
use Rattle.analysis.specs.Conflicts.{Named}
use Rattle.analysis.proofs.analyzing.landing.Given as goal

-- a needed variable is still open, or has a value so far
abbrev pub invariant-loop-i : goal.invariant-loop-i
invariant-loop-i l = (j : ℕ) → bit l.needed j ≡ true → (bit l.rest j ≡ true) ⊎ Named (take l.i l.decisions) j

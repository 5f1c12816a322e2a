-- What is sought at opening: an initial state that is broken.
use Rattle.std.specs.Prelude.{ℕ, Some, None, Option}
use Rattle.system.specs.Systems.{System, Initial, Broken}

abbrev pub BrokenAtStart : System → Option ℕ → Type 0
BrokenAtStart c (Some s) = Initial c s × Broken c s
BrokenAtStart c None = (s : ℕ) → Initial c s → Broken c s → ⊥

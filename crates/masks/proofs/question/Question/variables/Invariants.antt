use Rattle.std.proofs.Common.{◌≡◌, ℕ, ◌<◌, true, get_or}
use Rattle.std.specs.List.{All}
use Rattle.system.specs.Literals.{bit}
use Rattle.masks.specs.Questions.{unit, Mentioned, Within}
use Rattle.masks.specs.declared.mask.ClauseMask.{ClauseMask}
use Rattle.masks.proofs.question.Question.variables.Given as goal

abbrev pub invariant-loop-mask : goal.invariant-loop-mask
invariant-loop-mask l =
    ((k : ℕ) → k < l.mask-index → (e : ClauseMask) → Within l.found (get_or l.self.masks.now k e))
    × ((j : ℕ) → bit l.found j ≡ true → Mentioned l.self.masks.now l.self.assumed.now j)

abbrev pub invariant-loop-literal : goal.invariant-loop-literal
invariant-loop-literal l =
    All (Within l.found) l.self.masks.now
    × ((k : ℕ) → k < l.literal-index → Within l.found (unit (get_or l.self.assumed.now k 0)))
    × ((j : ℕ) → bit l.found j ≡ true → Mentioned l.self.masks.now l.self.assumed.now j)

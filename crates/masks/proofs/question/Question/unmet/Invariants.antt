use Rattle.std.proofs.Common.{ℕ, ◌<◌, get_or}
use Rattle.masks.specs.Masks.{Meets}
use Rattle.masks.specs.Questions.{unit, AllMet}
use Rattle.masks.specs.declared.mask.ClauseMask.{ClauseMask}
use Rattle.masks.proofs.question.Question.unmet.Given as goal

abbrev pub invariant-loop-clause : goal.invariant-loop-clause
invariant-loop-clause l = (k : ℕ) → k < l.clause-index → (e : ClauseMask) → Meets (get_or l.self.masks.now k e) l.set

abbrev pub invariant-loop-byte : goal.invariant-loop-byte
invariant-loop-byte l = AllMet l.self.masks.now l.set × ((k : ℕ) → k < l.byte-index → Meets (unit (get_or l.self.assumed.now k 0)) l.set)

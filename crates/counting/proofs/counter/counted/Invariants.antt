use Rattle.std.proofs.Common.{◌≡◌, ℕ, ◌-◌, ◌^◌, ◌<◌, true, T, List}
use Rattle.system.specs.Literals.{Valuation, bit, clauses}
use Rattle.masks.specs.Questions.{Given}
use Rattle.counting.specs.Orders.{Before, rank}
use Rattle.counting.proofs.counter.counted.Given as goal

-- no assignment before this one serves
abbrev pub invariant-assignments : goal.invariant-assignments
invariant-assignments l =
    ((j : ℕ) → bit l.trues j ≡ true → bit l.all j ≡ true)
    × ((base : List (List ℕ)) → Given l.question.masks.now l.question.assumed.now base → (a : Valuation) → Before l.all a l.trues → T (clauses a base) → ⊥)
    × (l.trues < 2 ^ 128)

abbrev pub decreases-assignments : goal.decreases-assignments
decreases-assignments l = 2 ^ 128 - rank 128 (bit l.trues)

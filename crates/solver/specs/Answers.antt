-- What a solver says of the clauses that it holds: when one more fits, and what a yes and a no mean.
use Rattle.std.specs.Prelude.{◌≡◌, ℕ, ◌+◌, ◌-◌, Bool, true, false, cond, ◌&&◌, T, List, [], ◌∷◌, length, Some, None, Option, nat_le, nat_lt}
use Rattle.system.specs.Literals.{Valuation, bit, literal, clauses, size}
use Rattle.solver.specs.declared.answer.Answer.{Answer}
use Rattle.solver.specs.declared.answer.Answer.TheVariants.{Yes, No}
use Rattle.solver.specs.declared.capacity.Capacity.{Capacity}

-- a list of literals is true where each of them is
abbrev pub literals : Valuation → List ℕ → Bool
literals a [] = true
literals a (l ∷ ls) = literal a l && literals a ls

-- the valuation that two numbers of 64 bits spell: variables 0 to 63, and from 64 on
abbrev pub model : ℕ → ℕ → Valuation
model low high v = cond (nat_lt v 64) (bit low v) (bit high (v - 64))

-- every held clause and every assumed literal is true
abbrev pub Satisfied : Valuation → List (List ℕ) → List ℕ → Type 0
Satisfied a held assumed = T (clauses a held) × T (literals a assumed)

-- a yes gives such a valuation, and a no says that there is none
abbrev pub Answered : List (List ℕ) → List ℕ → Answer → Type 0
Answered held assumed (Yes low high) = Satisfied (model low high) held assumed
Answered held assumed No = (a : Valuation) → Satisfied a held assumed → ⊥

abbrev pub is_yes : Answer → Bool
is_yes (Yes low high) = true
is_yes No = false

-- whether a clause can be added within both capacities
abbrev pub fits : List (List ℕ) → List ℕ → Capacity → Bool
fits held c capacity = nat_lt (length held) capacity.clauses && nat_le (size held + length c) capacity.literals

-- the capacity that clauses take, and whether so much is left beside the held ones
abbrev pub need_of : List (List ℕ) → Capacity
need_of cs = record { clauses = length cs; literals = size cs }

abbrev pub spare : Capacity → List (List ℕ) → Capacity → Bool
spare need held capacity = nat_le (length held + need.clauses) capacity.clauses && nat_le (size held + need.literals) capacity.literals

-- the answer where just one clause is held, or none where it does not fit
abbrev pub AloneAnswered : List ℕ → Capacity → Option Answer → Type 0
AloneAnswered c capacity None = fits [] c capacity ≡ false
AloneAnswered c capacity (Some answer) = (fits [] c capacity ≡ true) × Answered (c ∷ []) [] answer

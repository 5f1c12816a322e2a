-- What sifting and the descent give at every input, for any family of closed sets.
use Rattle.std.specs.Prelude.{◌≡◌, ℕ, suc, List, [], ◌∷◌, length, Some, None, Ok, Err, Option, Result, ◌==◌, nat_lt}
use Rattle.solver.specs.Answers.{spare}
use Rattle.solver.specs.declared.capacity.Capacity.{Capacity}
use Rattle.faults.specs.Firsts.{unmet, or_else}
use Rattle.faults.specs.declared.work.WorkFault.{WorkFault}
use Rattle.faults.specs.declared.work.WorkFault.TheVariants.{Marks, NoCapacity}
use Rattle.sieve.specs.Marks.{Largest, Reduced}
use Rattle.sieve.specs.declared.sifting.Sifting.{Sifting}
use Rattle.sieve.specs.declared.sifting.Sifting.TheVariants.{Closed, Fewer}

-- the first mark, counted from i, that is neither 0 nor 1
abbrev pub bad_mark : ℕ → List ℕ → Option WorkFault
bad_mark i [] = None
bad_mark i (x ∷ M) = or_else (unmet (nat_lt x 2) (Marks i)) (bad_mark (suc i) M)

-- the fault of marks for so many places: a wrong number of them, or the first that is neither 0 nor 1
abbrev pub marks_fault : ℕ → List ℕ → Option WorkFault
marks_fault places M = or_else (unmet (length M == places) (Marks 0)) (bad_mark 0 M)

-- why marks cannot be sifted: first the marks, then the spare capacity
abbrev pub sift_fault : ℕ → Capacity → List (List ℕ) → Capacity → List ℕ → Option WorkFault
sift_fault places need held capacity M = or_else (marks_fault places M) (unmet (spare need held capacity) NoCapacity)

-- sifting says closed exactly of closed marks, which it leaves; otherwise it unmarks a place or more, and only places
-- that lie in no closed part. Refused, it leaves the marks
abbrev pub Sifted : ℕ → (List ℕ → Type 0) → Option WorkFault → List ℕ → Result Sifting WorkFault → List ℕ → Type 0
Sifted places closed (Some fault) given result out = (result ≡ Err fault) × (out ≡ given)
Sifted places closed None given (Ok Closed) out = closed given × (out ≡ given)
Sifted places closed None given (Ok Fewer) out = Reduced places closed given out
Sifted places closed None given (Err fault) out = ⊥

-- the descent ends on the largest closed set within the marks given. Refused, it leaves the marks
abbrev pub Descended : ℕ → (List ℕ → Type 0) → Option WorkFault → List ℕ → Result (Unit {0}) WorkFault → List ℕ → Type 0
Descended places closed (Some fault) given result out = (result ≡ Err fault) × (out ≡ given)
Descended places closed None given (Ok x) out = Largest places closed given out
Descended places closed None given (Err fault) out = ⊥

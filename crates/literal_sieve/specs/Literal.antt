-- Marked relays that stand for their literals false at a state, and when their clause is preserved.
use Rattle.std.specs.Prelude.{ℕ, not, ◌↔◌, List, [], ◌∷◌}
use Rattle.std.specs.List.{AllByRecursion}
use Rattle.system.specs.Literals.{bit, clause}
use Rattle.system.specs.Spelling.{spelled}
use Rattle.system.specs.Systems.{System, OverRelays, Consecution}
use Rattle.system.specs.Preserving.{Preserved, loaded, met}
use Rattle.solver.specs.declared.capacity.Capacity.{Capacity}
use Rattle.sieve.specs.Marks.{marked}

-- so many relays, and a state of them, of which no bit above the relays counts
pub record AtState : Type 0 where
  pub n : ℕ
  pub state : ℕ

-- the clause of the marked relays' literals that are false at state s
abbrev pub false_at : ℕ → ℕ → List ℕ → List ℕ
false_at n s M = spelled 0 n (marked M) (λ i. not (bit s i))

-- marks are closed where their clause, true with the held clauses before a step, is true after it
abbrev pub ClauseClosed : AtState → List (List ℕ) → List ℕ → Type 0
ClauseClosed s held M = Preserved held (false_at s.n s.state M ∷ [])

-- sifting adds their clause
abbrev pub need : AtState → Capacity
need s = record { clauses = 1; literals = s.n }

-- where a solver holds a system and further clauses over its relays, the closed marks are those whose clause is true after
-- every step from a state where it, the safety clauses and the further ones are
abbrev pub ClosedIsConsecution : System → ℕ → (List (List ℕ) → List ℕ → Type 0) → Type 0
ClosedIsConsecution c s family =
    (more : List (List ℕ)) (M : List ℕ) → AllByRecursion (OverRelays c.n) more
    → family (loaded c more) M ↔ Consecution c (met c more) (λ t. clause (bit t) (false_at c.n s M))

-- What a storage is to those who use it: the clauses that it holds, and its capacities.
use Rattle.std.specs.Prelude.{ℕ, ◌≤◌, List, length}
use Rattle.system.specs.Literals.{size}
use Rattle.solver.specs.declared.capacity.Capacity.{Capacity}

pub record Stored : Type 0 where
  pub held : List (List ℕ)
  pub capacity : Capacity

-- what is held is within the capacities
abbrev pub Within : Stored → Type 0
Within s = (length s.held ≤ s.capacity.clauses) × (size s.held ≤ s.capacity.literals)

-- What a solver that counts its questions is to those who use it: what the solver in it holds, its capacities, and how often it
-- was asked.
use Rattle.std.specs.Prelude.{ℕ, List}
use Rattle.solver.specs.declared.capacity.Capacity.{Capacity}

pub record Tallied : Type 0 where
  pub held : List (List ℕ)
  pub capacity : Capacity
  pub asked : ℕ

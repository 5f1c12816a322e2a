-- Clauses over relays that steps preserve, where a list of clauses over the variables of a step says which steps there are.
use Rattle.std.specs.Prelude.{ℕ, ◌+◌, ◌≤◌, Bool, T, ◌↔◌, List, ◌++◌}
use Rattle.std.specs.List.{AllByRecursion}
use Rattle.system.specs.Literals.{Valuation, bit, clauses}
use Rattle.system.specs.Systems.{System, OverRelays, OverVariables, Consecution}

-- the relays after a step: relay i is variable 32 + i
abbrev pub after : Valuation → Valuation
after a v = a (32 + v)

-- the clauses, all met with the held ones before a step, are all true after it
abbrev pub Preserved : List (List ℕ) → List (List ℕ) → Type 0
Preserved held cs = (a : Valuation) → T (clauses a held) → T (clauses a cs) → T (clauses (after a) cs)

-- the relays of a system have their numbers before and after a step, and its step clauses are about its variables
pub record StepFormed (c : System) : Type 0 where
  pub relays : c.n ≤ 32
  pub over : AllByRecursion (OverVariables c.n c.m) c.step

-- where the held clauses are the step clauses of a system and more over relays before a step, the clauses that are
-- preserved are those of which consecution relative to the further ones holds
abbrev pub PreservedIsConsecution : Type 0
PreservedIsConsecution =
    (c : System) (more cs : List (List ℕ)) → StepFormed c → AllByRecursion (OverRelays c.n) more → AllByRecursion (OverRelays c.n) cs
    → Preserved (c.step ++ more) cs ↔ Consecution c (λ s. clauses (bit s) more) (λ s. clauses (bit s) cs)

-- what a solver holds of a system and of further clauses over relays before a step: step clauses, safety clauses, and these
abbrev pub loaded : System → List (List ℕ) → List (List ℕ)
loaded c more = c.step ++ (c.safety ++ more)

-- a state meets the safety clauses and the further ones
abbrev pub met : System → List (List ℕ) → ℕ → Bool
met c more s = clauses (bit s) (c.safety ++ more)

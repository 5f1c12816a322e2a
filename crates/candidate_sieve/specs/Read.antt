-- What the closed marks of candidates read for a case mean.
use Rattle.std.specs.Prelude.{ℕ, ◌↔◌, List, Ok, Err, Result}
use Rattle.std.specs.List.{AllByRecursion}
use Rattle.system.specs.Literals.{bit, clauses}
use Rattle.system.specs.Systems.{System, OverRelays, Consecution}
use Rattle.system.specs.Preserving.{loaded, met}
use Rattle.faults.specs.declared.work.WorkFault.{WorkFault}
use Rattle.candidate_sieve.specs.Candidates.{chosen}

-- where a solver holds what it does of a system and more clauses over its relays, the closed marks are those of whose
-- clauses consecution relative to the clauses met holds
abbrev pub TogetherIsConsecution : (List (List ℕ) → List (List ℕ) → List ℕ → Type 0) → System → Result (List (List ℕ)) WorkFault → Type 0
TogetherIsConsecution closed c (Err f) = Unit {0}
TogetherIsConsecution closed c (Ok cs) =
    (more : List (List ℕ)) (M : List ℕ) → AllByRecursion (OverRelays c.n) more
    → closed cs (loaded c more) M ↔ Consecution c (met c more) (λ s. clauses (bit s) (chosen M cs))

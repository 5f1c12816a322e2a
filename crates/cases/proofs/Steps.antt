-- What the steps of an admitted system preserve. Assumes nothing.
use Rattle.std.proofs.Common.{ℕ, ◌↔◌, List, [], ◌∷◌}
use Rattle.std.specs.List.{AllByRecursion}
use Rattle.system.specs.Literals.{bit, clauses}
use Rattle.system.specs.Systems.{System, OverRelays, OverVariables, Rising, Consecution}
use Rattle.system.specs.Preserving.{StepFormed, Preserved, loaded, met}
use Rattle.system.proofs.Preserving.{loaded_is_consecution}
use Rattle.layout.specs.Spelling.{Admitted}

all_first : {A : Type 0} (P Q : A → Type 0) (xs : List A) → AllByRecursion (λ x. P x × Q x) xs → AllByRecursion P xs
all_first P Q [] h = tt
all_first P Q (x ∷ xs) h = (h.0.0, all_first P Q xs h.1)

module _ (c : System) (a : Admitted c) where
  pub step_formed : StepFormed c
  step_formed = record { relays = a.relays.1; over = all_first (OverVariables c.n c.m) Rising c.step a.step_clauses }

  pub admitted_consecution : (more cs : List (List ℕ)) → AllByRecursion (OverRelays c.n) more → AllByRecursion (OverRelays c.n) cs
      → Preserved (loaded c more) cs ↔ Consecution c (met c more) (λ s. clauses (bit s) cs)
  admitted_consecution more cs over_more over_cs =
      loaded_is_consecution c more cs step_formed (all_first (OverRelays c.n) Rising c.safety a.safety_clauses) over_more over_cs

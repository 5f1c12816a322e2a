-- A case without a fault, part by part, as the law takes it. Assumes nothing.
use Rattle.std.proofs.Common.{◌≡◌, ℕ, ◌≤◌, List, length, drop, None}
use Rattle.clauses.specs.Reading.{clauses_fault}
use Rattle.clauses.specs.declared.scope.Scope.{Scope}
use Rattle.clauses.specs.declared.scope.Scope.TheVariants.{Before, Across}
use Rattle.layout.specs.Reading.{field, step_place, safety_place, left_place}

-- a section without a fault
pub record SectionSound (scope : Scope) (stated count at : ℕ) (bs : List ℕ) : Type 0 where
  pub offset : stated ≡ at
  pub clauses : clauses_fault scope count at (drop at bs) ≡ None

pub record Sound (bs : List ℕ) : Type 0 where
  pub long : 18 ≤ length bs
  pub relays : (1 ≤ field bs 0) × (field bs 0 ≤ 32)
  pub inputs : field bs 2 ≤ 64
  pub starts : field bs 4 ≤ 256
  pub steps : field bs 6 ≤ 1024
  pub safeties : field bs 8 ≤ 256
  pub short : field bs 16 ≤ 32768
  pub total : field bs 16 ≡ length bs
  pub start : SectionSound (Before (field bs 0)) (field bs 10) (field bs 4) 18 bs
  pub step : SectionSound (Across (field bs 0) (field bs 2)) (field bs 12) (field bs 6) (step_place bs) bs
  pub safety : SectionSound (Before (field bs 0)) (field bs 14) (field bs 8) (safety_place bs) bs
  pub nothing_left : left_place bs ≡ length bs

-- What the header reader gives where it finds no fault.
use Rattle.std.specs.Prelude.{◌≡◌, ℕ, List, None}
use Rattle.faults.specs.Refusals.{count_place, offset_place}
use Rattle.faults.specs.declared.case.ListName.{ListName}
use Rattle.faults.specs.declared.case.ListName.TheVariants.{Start, Step, Safety}
use Rattle.clauses.specs.declared.scope.Scope.{Scope}
use Rattle.clauses.specs.declared.scope.Scope.TheVariants.{Before, Across}
use Rattle.layout.specs.Reading.{count_fault, header_fault, field}
use Rattle.layout.specs.declared.header.Section.{Section}
use Rattle.layout.specs.declared.header.Header.{Header}

-- a section as the header states it
abbrev pub stated : ListName → Scope → List ℕ → Section
stated list scope bs = record { list = list; scope = scope; count = field bs (count_place list); at = field bs (offset_place list) }

-- no more clauses than the list may have
pub record SectionRead (list : ListName) (scope : Scope) (bs : List ℕ) (s : Section) : Type 0 where
  pub sound : count_fault list bs ≡ None
  pub is : s ≡ stated list scope bs

pub record HeaderRead (bs : List ℕ) (h : Header) : Type 0 where
  pub sound : header_fault bs ≡ None
  pub start : h.start ≡ stated Start (Before (field bs 0)) bs
  pub step : h.step ≡ stated Step (Across (field bs 0) (field bs 2)) bs
  pub safety : h.safety ≡ stated Safety (Before (field bs 0)) bs

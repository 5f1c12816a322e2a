-- What reading any bytes as a case gives: the first fault in order, or the system that they spell.
use Rattle.std.specs.Prelude.{ℕ, ◌+◌, ◌-◌, ◌*◌, Bool, not, ◌&&◌, List, [], ◌∷◌, length, drop, is_some, Option, Result, ◌==◌, nat_le, slice_index}
use Rattle.system.specs.Systems.{System}
use Rattle.faults.specs.Firsts.{unmet, first_of, inside, unless}
use Rattle.faults.specs.Refusals.{count_place}
use Rattle.faults.specs.declared.case.CaseFault.{CaseFault}
use Rattle.faults.specs.declared.case.CaseFault.TheVariants.{Short, Relays, Inputs, Count, Total, Offset, InClause, LeftOver}
use Rattle.faults.specs.declared.case.ListName.{ListName}
use Rattle.faults.specs.declared.case.ListName.TheVariants.{Start, Step, Safety}
use Rattle.lists.specs.Spelling.{clauses_in, after_clauses}
use Rattle.clauses.specs.Reading.{clauses_fault}
use Rattle.clauses.specs.declared.scope.Scope.{Scope}
use Rattle.clauses.specs.declared.scope.Scope.TheVariants.{Before, Across}

-- the 16-bit number at byte i
abbrev pub field : List ℕ → ℕ → ℕ
field bs i = slice_index bs i + 256 * slice_index bs (i + 1)

-- the index of the first byte after so many clauses, of which the first begins at index at
abbrev pub end_of : ℕ → ℕ → List ℕ → ℕ
end_of count at bs = length bs - length (after_clauses count (drop at bs))

-- where the sections after the first begin, and where they end, if the header counts their clauses right
abbrev pub step_place : List ℕ → ℕ
step_place bs = end_of (field bs 4) 18 bs

abbrev pub safety_place : List ℕ → ℕ
safety_place bs = end_of (field bs 6) (step_place bs) bs

abbrev pub left_place : List ℕ → ℕ
left_place bs = end_of (field bs 8) (safety_place bs) bs

-- the system that the header and the sections give
abbrev pub system_in : List ℕ → System
system_in bs =
    record {
      n = field bs 0;
      m = field bs 2;
      start = clauses_in (field bs 4) (drop 18 bs);
      step = clauses_in (field bs 6) (drop (step_place bs) bs);
      safety = clauses_in (field bs 8) (drop (safety_place bs) bs);
    }

-- how many clauses a list has at most
abbrev pub most_of : ListName → ℕ
most_of Start = 256
most_of Step = 1024
most_of Safety = 256

-- the test of how many clauses the header gives a list
abbrev pub count_fault : ListName → List ℕ → Option CaseFault
count_fault list bs = unmet (nat_le (field bs (count_place list)) (most_of list)) (Count list)

-- the tests of a header, in order
abbrev pub header_faults : List ℕ → List (Option CaseFault)
header_faults bs =
    unmet (nat_le 18 (length bs)) (Short (length bs))
    ∷ unmet (nat_le 1 (field bs 0) && nat_le (field bs 0) 32) Relays
    ∷ unmet (nat_le (field bs 2) 64) Inputs
    ∷ count_fault Start bs
    ∷ count_fault Step bs
    ∷ count_fault Safety bs
    ∷ unmet (nat_le (field bs 16) 32768 && field bs 16 == length bs) Total
    ∷ []

abbrev pub header_fault : List ℕ → Option CaseFault
header_fault bs = first_of (header_faults bs)

-- the tests of a section that begins at index at: its offset as the header states it, then its clauses
abbrev pub section_faults : ListName → ℕ → Scope → ℕ → ℕ → List ℕ → List (Option CaseFault)
section_faults list stated scope count at bs = unmet (stated == at) (Offset list) ∷ inside InClause (clauses_fault scope count at (drop at bs)) ∷ []

abbrev pub section_fault : ListName → ℕ → Scope → ℕ → ℕ → List ℕ → Option CaseFault
section_fault list stated scope count at bs = first_of (section_faults list stated scope count at bs)

-- the tests of a case: header, sections in order, and no byte left over
abbrev pub case_faults : List ℕ → List (Option CaseFault)
case_faults bs =
    header_fault bs
    ∷ section_fault Start (field bs 10) (Before (field bs 0)) (field bs 4) 18 bs
    ∷ section_fault Step (field bs 12) (Across (field bs 0) (field bs 2)) (field bs 6) (step_place bs) bs
    ∷ section_fault Safety (field bs 14) (Before (field bs 0)) (field bs 8) (safety_place bs) bs
    ∷ unmet (left_place bs == length bs) (LeftOver (left_place bs))
    ∷ []

abbrev pub case_fault : List ℕ → Option CaseFault
case_fault bs = first_of (case_faults bs)

-- the bytes have no fault
unfoldable pub accepted : List ℕ → Bool
accepted bs = not (is_some (case_fault bs))

-- the system that the bytes spell, or the first fault
unfoldable pub read_case : List ℕ → Result System CaseFault
read_case bs = unless (case_fault bs) (system_in bs)

-- What the section reader gives where it finds no fault.
use Rattle.std.specs.Prelude.{◌≡◌, ℕ, List, None}
use Rattle.layout.specs.Reading.{end_of, section_fault}
use Rattle.layout.specs.declared.header.Section.{Section}

-- the section has no fault, and next is the index of the first byte after it
pub record SectionPassed (s : Section) (at : ℕ) (bs : List ℕ) (next : ℕ) : Type 0 where
  pub sound : section_fault s.list s.at s.scope s.count at bs ≡ None
  pub ends : next ≡ end_of s.count at bs

use Rattle.std.proofs.Common.{◌≡◌, ◌+◌, drop}
use Rattle.clauses.specs.Reading.{literals_fault}
use Rattle.clauses.proofs.section.Section.check_literals.Given as goal

-- what is left decides the fault of all
abbrev pub invariant-loop-i : goal.invariant-loop-i
invariant-loop-i l = literals_fault l.scope (l.self.at + l.i) l.low (drop l.i l.self.bytes.now) ≡ literals_fault l.scope l.self.at 0 l.self.bytes.now

use Rattle.clauses.proofs.Found.{Midway}
use Rattle.clauses.proofs.section.Section.take_clauses.Given as goal

abbrev pub invariant-loop : goal.invariant-loop
invariant-loop l = Midway l.scope l.count l.self.at l.self.bytes.now l.counter l.rest.at l.rest.bytes.now

use Rattle.std.proofs.Common.{length}
use Rattle.clauses.proofs.Gathered.{Gathering}
use Rattle.clauses.proofs.candidates.read_candidates.Given as goal

abbrev pub invariant-loop-rest : goal.invariant-loop-rest
invariant-loop-rest l = Gathering l.relays l.bytes l.count l.extra l.rest.at l.rest.bytes.now

abbrev pub decreases-loop-rest : goal.decreases-loop-rest
decreases-loop-rest l = length l.rest.bytes.now

use Rattle.std.proofs.Common.{take, reverse}
use Rattle.analysis.specs.Conflicts.{before_choice, Covers}
use Rattle.analysis.proofs.analyzing.settled.Given as goal

-- the entries so far, the latest first
abbrev pub invariant-loop-decision : goal.invariant-loop-decision
invariant-loop-decision l = record {
  known : Covers (reverse (take l.decision-index l.decisions)) l.known;
  before : Covers (before_choice (reverse (take l.decision-index l.decisions))) l.before;
}

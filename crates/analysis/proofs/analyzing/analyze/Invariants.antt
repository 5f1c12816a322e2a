use Rattle.std.proofs.Common.{ℕ, List}
use Rattle.masks.specs.Masks.{Implied}
use Rattle.trail.specs.Reasons.{Sound, Refuted}
use Rattle.analysis.proofs.Walking.{IsBack, to_come}
use Rattle.analysis.proofs.analyzing.analyze.Given as goal

-- the clause is implied, and false by the decisions that are still to come
abbrev pub invariant-loop-at : goal.invariant-loop-at
invariant-loop-at l = record {
  back : IsBack l.decisions l.at-iterator;
  learned : (base : List (List ℕ)) → Refuted l.initial.clause l.decisions → Sound base l.decisions → Implied base l.initial.clause
      → Implied base l.clause × Refuted l.clause (to_come l.at-iterator);
}

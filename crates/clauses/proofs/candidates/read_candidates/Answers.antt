use Rattle.std.proofs.Common.{inl, inr, arith, rules, Some, Ok, Err, ap, ◌∙◌}
use Rattle.faults.specs.declared.work.WorkFault.TheVariants.{TooManyCandidates}
use Rattle.lists.specs.Lists.{clauses_of}
use Rattle.clauses.proofs.CandidateLaw.{candidates_as_spelled, gathering}
use Rattle.clauses.proofs.Gathered.{gathering_start, gathering_on}
use Rattle.clauses.proofs.candidates.read_candidates.Goals as goal
use Rattle.clauses.proofs.candidates.read_candidates.Goals.{then-count-eq-MOST_CANDIDATES, else-count-eq-MOST_CANDIDATES}

pub loop-rest-init : goal.loop-rest-init
loop-rest-init c = rw (c.from_index-rest.ensures.at, c.from_index-rest.ensures.bytes) (gathering_start _ _)

pub loop-rest-preserved : goal.loop-rest-preserved
loop-rest-preserved c =
    gathering_on _ _ _ _ _ _ c.loop-rest.invariant (search rules) _ _ _ c.in_ok-take_clause.ensures.off c.take_clause.ensures.end _
    (elim c.if-count-eq-MOST_CANDIDATES.branch [
      | then-count-eq-MOST_CANDIDATES w ↦ inl (w.if-count-eq-MOST_CANDIDATES.true, w.extra-is ∙ ap Some w.at.ensures)
      | else-count-eq-MOST_CANDIDATES w ↦ inr (w.if-count-eq-MOST_CANDIDATES.false, w.extra-is)
    ])

pub returns-in-Some-clause-law : goal.returns-in-Some-clause-law
returns-in-Some-clause-law c = candidates_as_spelled _ _ (Err (TooManyCandidates c.in-Some.at)) (grind (arith, gathering))

pub returns-in-None-clause-law : goal.returns-in-None-clause-law
returns-in-None-clause-law c = candidates_as_spelled _ _ (Ok (clauses_of c.over.result)) (grind (arith, gathering))

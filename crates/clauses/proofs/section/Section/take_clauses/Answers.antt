use Rattle.std.proofs.Common.{ap, ◌∙◌, arith}
use Rattle.lists.specs.Spelling.{clauses_in}
use Rattle.clauses.proofs.Found.{midway_start, midway_on, midway_off}
use Rattle.clauses.proofs.section.Section.take_clauses.Goals as goal

pub loop-init : goal.loop-init
loop-init c = midway_start _ _ _ _

pub loop-preserved : goal.loop-preserved
loop-preserved c = midway_on _ _ _ _ _ _ _ c.loop.invariant c.loop-test.true _ _ _ c.in_ok-take_clause.ensures.off c.take_clause.ensures.end

pub returns : goal.returns
returns c =
    midway_off _ _ _ _ _ _ _ c.loop.invariant (omega arith) c.over.result _ (c.over.ensures ∙ ap (clauses_in c.args.count) c.split_at.ensures.front) c.split_at.ensures.back

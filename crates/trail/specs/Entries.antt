-- What a trail shows: its decisions, the literals that they make true, and how many were handed out.
use Rattle.std.specs.Prelude.{ℕ, List, vec_items}
use Rattle.masks.specs.declared.mask.ClauseMask.{ClauseMask}
use Rattle.trail.specs.declared.decision.Decision.{Decision}
use Rattle.trail.specs.declared.trail.Trail.{Trail}

-- the decisions in their order
abbrev pub entries : Trail → List Decision
entries t = vec_items t.decisions

-- the literals that they make true
abbrev pub made_true : Trail → ClauseMask
made_true t = t.assigned

-- how many of them, from the first on, were handed out to be propagated
abbrev pub handed_out : Trail → ℕ
handed_out t = t.done

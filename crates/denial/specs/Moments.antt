-- The relays before and after a step.
use Rattle.system.specs.Literals.{Valuation}
use Rattle.system.specs.Preserving.{after}
use Rattle.denial.specs.declared.moment.Moment.{Moment}
use Rattle.denial.specs.declared.moment.Moment.TheVariants.{Before, After}

-- the relays at that moment
abbrev pub at : Moment → Valuation → Valuation
at Before a = a
at After a = after a

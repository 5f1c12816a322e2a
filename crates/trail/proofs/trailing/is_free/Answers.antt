use Rattle.trail.proofs.Deciding.{free_test}
use Rattle.trail.proofs.trailing.is_free.Goals as goal

pub returns-then-variable-lt128 : goal.returns-then-variable-lt128
returns-then-variable-lt128 c = free_test c.args.assigned c.args.variable c.mentions.result c.if-variable-lt128.true c.mentions.ensures

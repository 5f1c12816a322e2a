use Rattle.std.proofs.Common.{refl}
use Rattle.counting.proofs.Places.{stepped}
use Rattle.counting.proofs.counter.next.Goals as goal

pub returns : goal.returns
returns c = (c.ilog2.result, stepped c.args.trues c.args.falses c.ilog2.result _ c.ilog2.ensures.bound c.ilog2.ensures.power_le c.ilog2.ensures.next_power_gt refl)

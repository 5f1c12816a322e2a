use Rattle.masks.proofs.Sets.{bit_and_not}
use Rattle.masks.proofs.bits.without.Goals as goal

pub returns : goal.returns
returns c j = bit_and_not c.args.a c.args.b j c.ranges.a.fits c.ranges.b.fits

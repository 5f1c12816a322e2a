use Rattle.system.proofs.Bits.{bit_of_or}
use Rattle.masks.proofs.mask.ClauseMask.variables.Goals as goal

pub returns : goal.returns
returns c j = bit_of_or c.args.self.positive c.args.self.negative j

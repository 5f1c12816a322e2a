use Rattle.std.proofs.Common.{◌^◌, ◌<◌, arith}
use lib.Bits.{bit_and, and_le_l, or_lt}
use Rattle.masks.proofs.Sets.{meets_test}
use Rattle.masks.proofs.mask.ClauseMask.meets.Goals as goal

pub returns : goal.returns
returns c =
    let p : bit_and c.args.self.positive c.args.other.positive < 2 ^ 128 = omega (arith, and_le_l c.args.self.positive c.args.other.positive) in
    let n : bit_and c.args.self.negative c.args.other.negative < 2 ^ 128 = omega (arith, and_le_l c.args.self.negative c.args.other.negative) in
    meets_test c.args.self c.args.other (or_lt 128 _ _ p n)

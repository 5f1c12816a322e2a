use Rattle.std.proofs.Common.{sym, ◌∙◌, pow_mono, arith}
use Rattle.std.proofs.lemmas.Bool.{le-ltb}
use Rattle.system.proofs.Bits.{bit_above}
use Rattle.system.proofs.states.is_on.Goals as goal

pub returns-else-relay-lt32 : goal.returns-else-relay-lt32
returns-else-relay-lt32 c =
    le-ltb c.args.relay 32 c.if-relay-lt32.false
    ∙ sym (bit_above c.args.state c.args.relay (let m = pow_mono {i = 32} {j = c.args.relay} c.if-relay-lt32.false in omega arith))

use Rattle.std.proofs.Common.{true, false, not, ◌&&◌, ap, ◌∙◌, ap₂}
use Rattle.system.specs.Literals.{bit}
use Rattle.system.proofs.Bits.{bit_of_or, bit_pow}
use Rattle.masks.proofs.mask.ClauseMask.resolved.Goals as goal

pub returns : goal.returns
returns c j true =
    c.without.ensures j
    ∙ ap₂ (λ x y. x && not y) (bit_of_or c.args.self.positive c.args.other.positive j) (ap (λ x. bit x j) c.set_of-pivot.ensures ∙ bit_pow _ j)
returns c j false =
    c.without-2.ensures j
    ∙ ap₂ (λ x y. x && not y) (bit_of_or c.args.self.negative c.args.other.negative j) (ap (λ x. bit x j) c.set_of-pivot.ensures ∙ bit_pow _ j)

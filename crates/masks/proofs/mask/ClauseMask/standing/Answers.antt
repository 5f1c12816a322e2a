use Rattle.std.proofs.Common.{true, false, sym, ap, ◌∙◌}
use Rattle.system.specs.Literals.{bit}
use Rattle.system.proofs.Bits.{bit_none}
use Rattle.masks.proofs.Sets.{none_open, more_open, both_open, one_open}
use Rattle.masks.proofs.mask.ClauseMask.standing.Goals as goal

pub returns-then-open-eq0 : goal.returns-then-open-eq0
returns-then-open-eq0 c =
    none_open c.args.self c.args.assigned _ _ c.variables-known.result
    c.if-meets.ensures c.variables-known.ensures c.without-positive.ensures c.without-negative.ensures c.if-open-eq0.true

pub returns-then-open-set_of : goal.returns-then-open-set_of
returns-then-open-set_of c =
    more_open c.args.self c.args.assigned _ _ c.variables-known.result
    c.if-meets.ensures c.variables-known.ensures c.without-positive.ensures c.without-negative.ensures
    c.without-positive.type_inv c.without-negative.type_inv c.if-open-eq0.false (λ e. c.if-open-set_of.true (e ∙ sym c.set_of.ensures))

pub returns-then-negative-eq0 : goal.returns-then-negative-eq0
returns-then-negative-eq0 c =
    one_open c.args.self c.args.assigned _ _ c.variables-known.result
    c.if-meets.ensures c.variables-known.ensures c.without-positive.ensures c.without-negative.ensures
    true c.without-positive.type_inv c.without-negative.type_inv c.if-open-eq0.false (c.if-open-set_of.false ∙ c.set_of.ensures)
    (λ j. ap (λ x. bit x j) c.if-negative-eq0.true ∙ bit_none j)

pub returns-then-positive-eq0 : goal.returns-then-positive-eq0
returns-then-positive-eq0 c =
    one_open c.args.self c.args.assigned _ _ c.variables-known.result
    c.if-meets.ensures c.variables-known.ensures c.without-positive.ensures c.without-negative.ensures
    false c.without-positive.type_inv c.without-negative.type_inv c.if-open-eq0.false (c.if-open-set_of.false ∙ c.set_of.ensures)
    (λ j. ap (λ x. bit x j) c.if-positive-eq0.true ∙ bit_none j)

pub returns : goal.returns
returns c =
    both_open c.args.self c.args.assigned _ _ c.variables-known.result
    c.if-meets.ensures c.variables-known.ensures c.without-positive.ensures c.without-negative.ensures
    c.without-positive.type_inv c.without-negative.type_inv c.if-positive-eq0.false c.if-negative-eq0.false

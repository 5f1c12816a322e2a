use Rattle.std.proofs.Common.{◌+◌, ◌<◌, length, ◌∙◌, arith}
use Rattle.std.proofs.lemmas.List.{get_or-take, length-take-le}
use Rattle.analysis.proofs.Resolving.{landing_step}
use Rattle.analysis.proofs.analyzing.landing.Goals as goal

pub loop-i-preserved : goal.loop-i-preserved
loop-i-preserved c j t =
    let ds = c.args.decisions.now in
    let d = c.decision-item.result in
    let l = length-take-le (c.args.last + 1) ds (omega arith) in
    let h : c.loop-i.i < c.args.last + 1 = omega arith in
    let k : c.loop-i.i < length ds = omega arith in
    let is = c.decision-item.is ∙ get_or-take (c.args.last + 1) ds c.loop-i.i d h in
    landing_step ds c.loop-i.i d k is c.loop-i.rest c.without-rest.result c.set_of.result j c.set_of.ensures (c.without-rest.ensures j) (c.loop-i.invariant j t)

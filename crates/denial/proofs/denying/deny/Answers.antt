use Rattle.std.proofs.Common.{◌≡◌, length, min, take, ap, ◌∙◌, arith}
use Rattle.std.proofs.lemmas.List.{length-take, take_min}
use Rattle.denial.proofs.Opposites.{denying_on, denied_all}
use Rattle.denial.proofs.denying.deny.Goals as goal

pub loop-i-preserved : goal.loop-i-preserved
loop-i-preserved c =
    let t = c.loop-i-test.true in
    let e = length-take c.min-count.result c.args.denied.now in
    let m = c.min-count.ensures in
    denying_on c.args.moment (take c.min-count.result c.args.denied.now) c.loop-i.i c.loop-i.out c.opposite.result c.loop-i.invariant t (omega arith) c.opposite.ensures

pub returns-clause-denied : goal.returns-clause-denied
returns-clause-denied c =
    let d = c.args.denied.now in
    let count = c.min-count.result in
    let long = length-take count d in
    let m = c.min-count.ensures in
    let f = c.loop-i-test.false in
    let e = c.loop-i.auto.i-end in
    denied_all c.args.moment d count c.loop-i.i c.loop-i.out (ap (λ k. take k d) (let z : count ≡ min 32 (length d) = omega arith in z) ∙ take_min 32 d) (omega arith) (omega arith) c.loop-i.invariant

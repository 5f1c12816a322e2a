use Rattle.std.proofs.Common.{arith}
use Rattle.std.proofs.Math.Dec.{T_not}
use Rattle.taking.proofs.taking.initial_mark.Goals as goal

pub returns-in-Some-clause-initiated : goal.returns-in-Some-clause-initiated
returns-in-Some-clause-initiated g c held over =
    let a = c.in-Some.ensures.answer held over in
    (λ e. absurd (let z : ⊥ = omega arith in z), λ i. absurd (T_not _ a.1 (i c.in-Some.field-0 a.0)))

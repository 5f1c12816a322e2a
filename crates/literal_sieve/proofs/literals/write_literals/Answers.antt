use Rattle.std.proofs.Common.{take, length, arith, sym, ap₂, ◌∙◌, ◌<◌}
use mathlib.Core.Bool.{beq}
use Rattle.std.proofs.lemmas.Bool.{eq-eqb, ne_eqb}
use Rattle.system.specs.Literals.{bit}
use Rattle.sieve.specs.Marks.{marked}
use Rattle.system.proofs.Spelled.{spelled_none, spelled_skip, spelled_put}
use Rattle.literal_sieve.proofs.literals.write_literals.Goals as goal
use Rattle.literal_sieve.proofs.literals.write_literals.Goals.{then-mark-eq1, else-mark-eq1}

pub loop-i-init : goal.loop-i-init
loop-i-init c = record { long = c.told-out; bound = omega arith; written = sym (spelled_none _ _ _) }

pub loop-i-preserved : goal.loop-i-preserved
loop-i-preserved c =
    let M = c.args.marks.now in
    let room : c.loop-i.count < length c.loop-i.out = omega arith in
    let i = c.loop-i.invariant in
    elim c.if-mark-eq1.branch [
      | then-mark-eq1 w ↦ record {
        long = c.if-mark-eq1.array_long;
        bound = omega (arith, w.count-is);
        written = ap₂ (λ n xs. take n xs) w.count-is w.out-is
            ∙ spelled_put c.args.first (marked M) (λ i. beq (bit c.args.state i) c.args.truth) c.loop-i.i c.loop-i.count _ c.loop-i.out room i.written
            (eq-eqb _ _ w.if-mark-eq1.true) w.literal_at.ensures;
      }
      | else-mark-eq1 w ↦ record {
        long = c.if-mark-eq1.array_long;
        bound = omega (arith, w.count-is);
        written = ap₂ (λ n xs. take n xs) w.count-is w.out-is
            ∙ spelled_skip c.args.first (marked M) (λ i. beq (bit c.args.state i) c.args.truth) c.loop-i.i (take c.loop-i.count c.loop-i.out) i.written
            (ne_eqb _ _ w.if-mark-eq1.false);
      }
    ]

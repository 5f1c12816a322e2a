use Rattle.std.proofs.Common.{◌≡◌, length, Ok, Err, Result, sym, refl, ap, ◌∙◌, subst, arith}
use Rattle.std.proofs.lemmas.Result.{err_from_is_err_and}
use Rattle.faults.specs.declared.work.WorkFault.{WorkFault}
use Rattle.sieve.specs.Sieves.{sift_fault, Descended}
use Rattle.sieve.proofs.Descents.{start, on, end, refused, fewer_marks, largest_only}
use Rattle.sieve.proofs.descent.descend.Goals as goal

pub sifting-init : goal.sifting-init
sifting-init g c =
    let v = c.args.sieve.now in
    let s = c.args.solver.now in
    record {
      held = refl;
      capacity = refl;
      down = start (g.V.Sieve.places v) (g.V.Sieve.need v) (g.V.Sieve.closed v) c.args.marks.now (g.S.Solver.held s) (g.S.Solver.capacity s);
    }

pub sifting-smaller : goal.sifting-smaller
sifting-smaller g c =
    let v = c.args.sieve.now in
    let s = c.args.solver.now in
    let i = c.sifting.invariant in
    let r =
    on (g.V.Sieve.places v) (g.V.Sieve.need v) (g.V.Sieve.closed v) c.args.marks.now (g.S.Solver.held s) (g.S.Solver.capacity s) (g.S.Solver.held c.sifting.solver) (g.S.Solver.capacity c.sifting.solver)
    i.held i.capacity c.sifting.marks c.sift.new.marks i.down c.sift.result (c.in_ok-sift.was ∙ ap Ok c.in-Fewer.is) c.sift.ensures.sifted in
    let l : length c.sift.new.marks ≡ length c.sifting.marks = omega arith in
    fewer_marks c.sifting.marks c.sift.new.marks l r.1.within r.1.fewer.0 r.1.fewer.1 r.1.fewer.2

pub sifting-preserved : goal.sifting-preserved
sifting-preserved g c =
    let v = c.args.sieve.now in
    let s = c.args.solver.now in
    let i = c.sifting.invariant in
    let r =
    on (g.V.Sieve.places v) (g.V.Sieve.need v) (g.V.Sieve.closed v) c.args.marks.now (g.S.Solver.held s) (g.S.Solver.capacity s) (g.S.Solver.held c.sifting.solver) (g.S.Solver.capacity c.sifting.solver)
    i.held i.capacity c.sifting.marks c.sift.new.marks i.down c.sift.result (c.in_ok-sift.was ∙ ap Ok c.in-Fewer.is) c.sift.ensures.sifted in
    record { held = c.sift.ensures.held ∙ i.held; capacity = c.sift.ensures.capacity ∙ i.capacity; down = r.0 }

pub returns-in_err-sift : goal.returns-in_err-sift
returns-in_err-sift g c =
    let v = c.args.sieve.now in
    let s = c.args.solver.now in
    let i = c.sifting.invariant in
    let p = err_from_is_err_and c.from_residual.result c.from_residual.ensures.1 in
    let f = c.in_err-sift.field-0.0 in
    let d =
    refused (g.V.Sieve.places v) (g.V.Sieve.need v) (g.V.Sieve.closed v) c.args.marks.now (g.S.Solver.held s) (g.S.Solver.capacity s) (g.S.Solver.held c.sifting.solver) (g.S.Solver.capacity c.sifting.solver)
    i.held i.capacity c.sifting.marks c.sift.new.marks i.down c.sift.result f c.in_err-sift.was c.sift.ensures.sifted in
    record {
      descended = subst (λ (r : Result (Unit {0}) WorkFault). Descended (g.V.Sieve.places v) (g.V.Sieve.closed v (g.S.Solver.held s)) (sift_fault (g.V.Sieve.places v) (g.V.Sieve.need v) (g.S.Solver.held s) (g.S.Solver.capacity s) c.args.marks.now) c.args.marks.now r c.sift.new.marks) (sym (p.1 ∙ ap Err p.2)) d;
      only = largest_only _ _;
      held = c.sift.ensures.held ∙ i.held;
      capacity = c.sift.ensures.capacity ∙ i.capacity;
    }

pub returns : goal.returns
returns g c =
    let v = c.args.sieve.now in
    let s = c.args.solver.now in
    let i = c.sifting.invariant in
    record {
      descended = end (g.V.Sieve.places v) (g.V.Sieve.need v) (g.V.Sieve.closed v) c.args.marks.now (g.S.Solver.held s) (g.S.Solver.capacity s) (g.S.Solver.held c.sifting.solver) (g.S.Solver.capacity c.sifting.solver)
          i.held i.capacity c.sifting.marks c.sift.new.marks i.down c.sift.result (c.in_ok-sift.was ∙ ap Ok c.in-Closed.is) c.sift.ensures.sifted;
      only = largest_only _ _;
      held = c.sift.ensures.held ∙ i.held;
      capacity = c.sift.ensures.capacity ∙ i.capacity;
    }

use Rattle.std.proofs.Common.{rules, ◌≡◌, ◌≤◌, ap, arith, length, take}
use Rattle.literal_sieve.proofs.Asked.{sifted_closed, sifted_fewer}
use Rattle.literal_sieve.proofs.at_state.LiteralSieveSieve.sift.Goals as goal

pub returns-in-No-clause-sifted : goal.returns-in-No-clause-sifted
returns-in-No-clause-sifted g c =
    let s = c.args.self.now in
    let few : s.n ≤ 32 = omega (arith, c.places.ensures.value, c.places.ensures.bound) in
    let told =
    sifted_closed s few (g.S.Solver.held c.args.solver.now) (g.S.Solver.capacity c.args.solver.now) c.args.marks.now _ _ c.places.ensures.value c.need.ensures _ _ c.in_ok-check.ensures
    c.self.inside.state (ap (λ v. v.state) c.self.view_is) _ _ (search rules) (search rules) c.in-No.ensures.answer in
    search rules

pub returns-in-Yes-clause-sifted : goal.returns-in-Yes-clause-sifted
returns-in-Yes-clause-sifted g c =
    let s = c.args.self.now in
    let few : s.n ≤ 32 = omega (arith, c.places.ensures.value, c.places.ensures.bound) in
    let long : length c.unmark_differing.new.marks ≡ length c.args.marks.now = omega arith in
    let told =
    sifted_fewer s few (g.S.Solver.held c.args.solver.now) (g.S.Solver.capacity c.args.solver.now) c.args.marks.now _ _ c.places.ensures.value c.need.ensures _ _ c.in_ok-check.ensures
    c.self.inside.state (ap (λ v. v.state) c.self.view_is) (take c.write_literals-count.result c.write_literals-count.new.out) (take c.write_literals-negated.result c.write_literals-negated.new.out) (search rules) (search rules)
    c.in-Yes.low c.in-Yes.field-1 c.in-Yes.ensures.answer _ c.state_before.ensures _ long c.unmark_differing.ensures in
    search rules

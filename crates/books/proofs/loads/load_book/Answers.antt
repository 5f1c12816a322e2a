use Rattle.std.proofs.Common.{rules, take, is_ok, sym, ◌∙◌}
use Rattle.books.proofs.Loaded.{loaded_front, left_next, next_room, no_room}
use Rattle.books.proofs.loads.load_book.Goals as goal

-- src/loads.rt:69:5
pub returns-in_err-load_case-clause-test : goal.returns-in_err-load_case-clause-test
returns-in_err-load_case-clause-test g c = search (rules, loaded_front)

-- src/loads.rt:75:13
pub returns-then-is_err-clause-test : goal.returns-then-is_err-clause-test
returns-then-is_err-clause-test g c =
    let i = c.loop-entry.invariant in
    let d = take c.write_held-count.result c.write_held-count.new.out in
    sym (
    no_room c.args.case.now c.args.entries.now c.loop-entry.entry-index c.loop-entry-test.true (g.S.Solver.held c.loop-entry.solver) i.left d c.write_held-count.ensures.value
    (g.S.Solver.capacity c.args.solver.now) (g.S.Solver.capacity c.loop-entry.solver) (is_ok c.add.result) i.capacity c.add.ensures.test c.if-is_err.ensures.negation)

-- src/loads.rt:70:5
pub loop-entry-preserved : goal.loop-entry-preserved
loop-entry-preserved g c =
    let i = c.loop-entry.invariant in
    let held = g.S.Solver.held c.loop-entry.solver in
    let after = g.S.Solver.held c.add.new.self in
    let capacity = g.S.Solver.capacity c.args.solver.now in
    let now = g.S.Solver.capacity c.loop-entry.solver in
    let d = take c.write_held-count.result c.write_held-count.new.out in
    let k = c.loop-entry.entry-index in
    let here = c.loop-entry-test.true in
    let same = c.write_held-count.ensures.value in
    let added = c.if-is_err.ensures.negation in
    record {
      left = left_next c.args.case.now c.args.entries.now k here held i.left d same capacity now (is_ok c.add.result) i.capacity c.add.ensures.test after c.add.ensures.held added;
      room = next_room c.args.case.now c.args.entries.now k here held i.left d same capacity now (is_ok c.add.result) i.capacity c.add.ensures.test after c.add.ensures.held added;
      capacity = c.add.ensures.capacity ∙ i.capacity;
    }

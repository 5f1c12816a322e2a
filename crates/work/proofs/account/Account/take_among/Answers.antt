use Rattle.std.proofs.Common.{length, take}
use Rattle.lists.specs.Lists.{clauses_of}
use Rattle.histories.specs.Calls.{Stage}
use Rattle.work.proofs.Taken.{handed_sieved, took_full, took_stored}
use Rattle.work.proofs.account.Account.take_among.Goals as goal

pub returns-then-count_marked-self-clause-took : goal.returns-then-count_marked-self-clause-took
returns-then-count_marked-self-clause-took g c =
    let capacity = g.S.Solver.capacity c.args.solver.now in
    let x : Stage = record { work = c.args.self.now; book = c.args.book.now; held = g.S.Solver.held c.args.solver.now } in
    let ds = c.args.candidates.now in
    let marks = c.choose.new.marks in
    let i = c.self.invariant in
    let sieved = handed_sieved capacity x c.requires.checked _ c.self.view_is i.0 ds (take (length ds) marks) c.requires.listed c.choose.ensures.sieved in
    took_full capacity x c.requires.checked _ c.self.view_is i.0 (clauses_of c.candidates-list.result) ds marks c.candidates-list.ensures sieved
    (g.S.Solver.held c.choose.new.solver) c.choose.ensures.held (rw (← c.count_marked.ensures) c.if-count_marked-self.true)

pub returns-clause-took : goal.returns-clause-took
returns-clause-took g c =
    let capacity = g.S.Solver.capacity c.args.solver.now in
    let x : Stage = record { work = c.args.self.now; book = c.args.book.now; held = g.S.Solver.held c.args.solver.now } in
    let ds = c.args.candidates.now in
    let marks = c.choose.new.marks in
    let i = c.self.invariant in
    let sieved = handed_sieved capacity x c.requires.checked _ c.self.view_is i.0 ds (take (length ds) marks) c.requires.listed c.choose.ensures.sieved in
    took_stored capacity x c.requires.checked _ c.self.view_is i.0 (clauses_of c.candidates-list.result) ds marks c.candidates-list.ensures sieved
    c.store_marked.new.self c.store_marked.new.book (g.S.Solver.held c.choose.new.solver)
    (rw (← c.count_marked.ensures) c.if-count_marked-self.false) c.store_marked.ensures.work c.store_marked.ensures.book c.choose.ensures.held

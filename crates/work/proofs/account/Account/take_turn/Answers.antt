use Rattle.std.proofs.Common.{◌∙◌, [], ◌∷◌, take, sym, ap, subst, subst₂}
use Rattle.books.specs.Books.{Holding}
use Rattle.histories.specs.Calls.{Progress, Learned, written}
use Rattle.work.proofs.Turning.{stored_to, holding_now, holds_now, full_now, stores_now}
use Rattle.work.proofs.account.Account.take_turn.Goals as goal

pub returns-in_default-clause-turned : goal.returns-in_default-clause-turned
returns-in_default-clause-turned g c =
    let w = c.self.inside in
    let capacity = g.S.Solver.capacity c.args.solver.now in
    let held = g.S.Solver.held c.args.solver.now in
    let load = c.load_book.ensures in
    let now = holding_now capacity w.case w.places w.used w.verdict c.args.self.now c.self.view_is c.args.book.now held c.requires c.self.invariant.0 c.self.invariant.1 c.load_book.result
    (g.S.Solver.held c.load_book.new.solver) (g.S.Solver.capacity c.load_book.new.solver) load.test load.held load.capacity in
    holds_now capacity w.case w.places w.used w.verdict c.args.self.now c.self.view_is c.args.book.now held c.requires c.self.invariant.0 c.self.invariant.1
    (g.S.Solver.held c.find_counterexample.new.solver) (c.in_default.ensures.answer now.0 now.1) (c.find_counterexample.ensures.held ∙ now.0.loads)

pub returns-then-self-clause-turned : goal.returns-then-self-clause-turned
returns-then-self-clause-turned g c =
    let w = c.self.inside in
    let capacity = g.S.Solver.capacity c.args.solver.now in
    let held = g.S.Solver.held c.args.solver.now in
    let load = c.load_book.ensures in
    let now = holding_now capacity w.case w.places w.used w.verdict c.args.self.now c.self.view_is c.args.book.now held c.requires c.self.invariant.0 c.self.invariant.1 c.load_book.result
    (g.S.Solver.held c.load_book.new.solver) (g.S.Solver.capacity c.load_book.new.solver) load.test load.held load.capacity in
    let found = c.in-Some.found in
    full_now capacity w.case w.places w.used w.verdict c.args.self.now c.self.view_is c.args.book.now held c.requires c.self.invariant.0 c.self.invariant.1
    found.target found.state found.successor (g.S.Solver.held c.wipe.new.self) (c.in-Some.ensures.answer now.0 now.1) c.if-self.true c.wipe.ensures.held

pub returns-clause-turned : goal.returns-clause-turned
returns-clause-turned g c =
    let w = c.self.inside in
    let capacity = g.S.Solver.capacity c.args.solver.now in
    let held = g.S.Solver.held c.args.solver.now in
    let load = c.load_book.ensures in
    let now = holding_now capacity w.case w.places w.used w.verdict c.args.self.now c.self.view_is c.args.book.now held c.requires c.self.invariant.0 c.self.invariant.1 c.load_book.result
    (g.S.Solver.held c.load_book.new.solver) (g.S.Solver.capacity c.load_book.new.solver) load.test load.held load.capacity in
    let found = c.in-Some.found in
    let learn = c.learn_from-verdict.ensures in
    let es = take w.used c.args.book.now in
    let still = subst₂ (Holding w.case es) (sym c.find_counterexample.ensures.held) (sym c.find_counterexample.ensures.capacity) now.0 in
    let view = c.self.view_is in
    let e = c.learn_from-verdict.result.0 in
    let b = c.learn_from-verdict.result.1 in
    let learned = subst (λ (p : Progress). Learned p.system es found.target found.state found.successor e b) (sym view)
    (learn.learned (subst (λ (p : Progress). Holding p.system es (g.S.Solver.held c.find_counterexample.new.solver) (g.S.Solver.capacity c.find_counterexample.new.solver)) view still)) in
    stores_now capacity w.case w.places w.used w.verdict c.args.self.now view c.args.book.now held c.requires c.self.invariant.0 c.self.invariant.1
    found.target found.state found.successor e b c.store.new.self c.store.new.book (g.S.Solver.held c.learn_from-verdict.new.solver)
    (c.in-Some.ensures.answer now.0 now.1) c.if-self.false learned
    (c.store.ensures.work ∙ ap (λ (p : Progress). stored_to p b) (sym view))
    (c.store.ensures.book ∙ ap (λ (p : Progress). written c.args.book.now p.used (e ∷ [])) (sym view))
    learn.held

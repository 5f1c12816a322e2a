use Rattle.std.proofs.Common.{◌≡◌, ◌++◌, true, sym, ap, ◌∙◌}
use Rattle.std.proofs.lemmas.Bool.{false≢true}
use Rattle.solver.specs.Answers.{fits, spare, need_of}
use Rattle.lists.specs.Lists.{clauses_of}
use Rattle.loading.proofs.Loaded.{next_fits}
use Rattle.loading.proofs.add_all.Goals as goal

-- no clause is refused where all fit
pub returns-in_err-add : goal.returns-in_err-add
returns-in_err-add g c =
    let cs = clauses_of c.args.list in
    let i = c.loop-clause.invariant in
    let all : g.S.Solver.held c.loop-clause.solver ++ clauses_of c.loop-clause.clause-iterator ≡ g.S.Solver.held c.args.solver.now ++ cs = i.all ∙ ap (λ l. g.S.Solver.held c.args.solver.now ++ clauses_of l) c.into_iter-clause-iterator.ensures.into_iter_gives in
    let held = g.S.Solver.held c.args.solver.now in
    let capacity = g.S.Solver.capacity c.args.solver.now in
    let room : spare (need_of cs) held capacity ≡ true = ap (λ n. spare n held capacity) (sym c.need.ensures) ∙ sym c.has_spare.ensures ∙ c.if-not-has_spare.false in
    let fit = next_fits held cs capacity room (g.S.Solver.held c.loop-clause.solver) (clauses_of c.loop-clause.clause-iterator) all c.in-Some.clause.now (clauses_of c.next.new.self) c.in-Some.ensures.steps in
    absurd (false≢true (c.in_err-add.ensures.test ∙ ap (fits (g.S.Solver.held c.loop-clause.solver) c.in-Some.clause.now) i.capacity ∙ fit))

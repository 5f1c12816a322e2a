use Rattle.std.proofs.Common.{length, sym, ◌∙◌}
use Rattle.lists.specs.Lists.{clauses_of}
use Rattle.solver.specs.Answers.{need_of}
use Rattle.sieve.proofs.MarksChecked.{passed}
use Rattle.candidate_sieve.proofs.Siftings.{sifted}
use Rattle.candidate_sieve.proofs.sifting.CandidateSieveSieve.sift.Goals as goal

pub returns-clause-sifted : goal.returns-clause-sifted
returns-clause-sifted g c =
    let cs = c.args.self.now in
    let held = g.S.Solver.held c.args.solver.now in
    let capacity = g.S.Solver.capacity c.args.solver.now in
    let M = c.args.marks.now in
    let o = passed (length cs) c.places.result (need_of cs) c.need.result held capacity M c.places.ensures.value c.need.ensures tt tt (sym c.in_ok-check.was ∙ c.check.ensures) in
    sifted cs held capacity M o (clauses_of c.self.inside.list) (g.S.Solver.held c.add_marked.new.solver) c.self.view_is c.add_marked.ensures.held c.find_broken-broken.result c.find_broken-broken.ensures.answer c.self.invariant.formed c.settle.result c.settle.new.marks c.settle.ensures

use borrow.Author.Tests.{tests}
use Rattle.std.proofs.Common.{rules, ◌≡◌, true, false, reverse, ◌∙◌}
use Rattle.std.proofs.lemmas.Iterator.{first_from_find}
use Rattle.std.proofs.lemmas.Iterator.Adapters.{YieldsList-from_rev_slice}
use Rattle.search.specs.Watched.{on_other}
use Rattle.search.proofs.Watching.{other_small, and_other, first_other_of}
use Rattle.search.proofs.searching.latest.Goals as goal

pub returns : goal.returns
returns c =
    let m = c.args.clause in
    let v = c.args.but in
    first_other_of m v (reverse c.args.decisions.now) c.find.result c.map_or.result
    (first_from_find _ _ c.find.result (λ d. on_other m v d ≡ true) (λ d. on_other m v d ≡ false) c.find.ensures.ran
    (YieldsList-from_rev_slice c.args.decisions.now cc)
    (λ d q k. other_small m v d.now ∙ search (rules, tests))
    (λ d q k. and_other m v d.now false _ (search (rules, tests))))
    (search rules)

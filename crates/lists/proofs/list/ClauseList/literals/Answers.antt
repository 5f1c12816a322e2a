use Rattle.std.proofs.Common.{rules, ◌<◌, ◌^◌, arith, length}
use Rattle.std.specs.List.{sum_by}
use Rattle.std.proofs.iter.Rest.{running}
use Rattle.lists.specs.Lists.{clauses_of}
use Rattle.lists.proofs.Spelled.{clauses_size, size_sum}
use Rattle.lists.proofs.list.ClauseList.literals.Goals as goal

pub sum-requires-clause-fits : goal.sum-requires-clause-fits
sum-requires-clause-fits c =
    let s = c.args.self.now in
    let h : sum_by length (clauses_of s) < 2 ^ 64 = omega (arith, clauses_size s.count s.bytes.now, size_sum (clauses_of s)) in
    search (rules, running)

pub returns : goal.returns
returns c = let e = size_sum (clauses_of c.args.self.now) in search (rules, running)

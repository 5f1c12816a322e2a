use Rattle.std.proofs.Common.{◌^◌, ◌<◌, arith}
use Rattle.search.proofs.Watching.{highest_of}
use Rattle.search.proofs.links.highest.Goals as goal

pub returns-clause-highest : goal.returns-clause-highest
returns-clause-highest c =
    let h : c.args.variables < 2 ^ 128 = omega arith in
    highest_of c.args.variables c.min.result h c.min.ensures

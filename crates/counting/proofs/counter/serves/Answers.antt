use Rattle.std.proofs.Common.{Some, rules}
use Rattle.counting.proofs.Earlier.{opposite_missed}
use Rattle.counting.proofs.counter.serves.Goals as goal

pub returns-then-meets : goal.returns-then-meets
returns-then-meets c =
    let (x, found) = opposite_missed c.args.question.masks.now c.args.question.assumed.now c.args.assignment c.args.opposites c.requires.opposites c.requires.once c.if-meets.ensures in
    (Some x, found, search rules)

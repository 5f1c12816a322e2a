use Rattle.std.proofs.Common.{rules, ◌∙◌}
use Rattle.books.proofs.Rooms.{answer_told}
use Rattle.books.proofs.loads.check_spelled_room.Goals as goal

pub returns-then-need-clause_capacity-clause-value : goal.returns-then-need-clause_capacity-clause-value
returns-then-need-clause_capacity-clause-value g c = search rules

pub returns-then-need-clause_capacity-clause-law : goal.returns-then-need-clause_capacity-clause-law
returns-then-need-clause_capacity-clause-law g c = λ s a e. returns-then-need-clause_capacity-clause-value g c ∙ answer_told s c.args.bytes.now c.args.places _ e

pub returns-clause-value : goal.returns-clause-value
returns-clause-value g c = search rules

pub returns-clause-law : goal.returns-clause-law
returns-clause-law g c = λ s a e. returns-clause-value g c ∙ answer_told s c.args.bytes.now c.args.places _ e

use Rattle.histories.proofs.Promised.{closing_promises}
use Rattle.work.proofs.work.Work.close.Goals as goal

pub returns-clause-right : goal.returns-clause-right
returns-clause-right c = closing_promises _

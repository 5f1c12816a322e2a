use Rattle.work.proofs.Told.{entry_told}
use Rattle.work.proofs.work.Work.entry.Goals as goal

pub returns-clause-promises : goal.returns-clause-promises
returns-clause-promises c = entry_told c.self.view_is c.args.book.now c.args.number c.entry.result c.entry.ensures

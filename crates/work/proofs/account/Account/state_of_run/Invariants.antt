use Rattle.std.proofs.Common.{◌-◌, ◌≤◌}
use Rattle.work.proofs.Hops.{Hopped}
use Rattle.work.proofs.account.Account.state_of_run.Given as goal

abbrev pub invariant-loop : goal.invariant-loop
invariant-loop l = record { begun : 1 ≤ l.counter; hopped : Hopped l.self.system l.entries l.number (l.number - l.counter) l.at }

use Rattle.std.proofs.Common.{◌≡◌, take, sym, ap, ◌∙◌, subst, slice_get}
use Rattle.books.specs.Targets.{run_of}
use Rattle.histories.specs.Reads.{state_at}
use Rattle.histories.proofs.Promised.{run_promises}
use Rattle.work.proofs.Told.{told_at, told_by_entry}
use Rattle.work.specs.declared.closed.Closed.TheInside.{Inside}
use Rattle.work.proofs.closed.Closed.state.Goals as goal
use Rattle.work.proofs.closed.Closed.state.Goals.{in-BrokenAt, in-BrokenByEntry}

pub returns-in_err-check_read-clause-promises : goal.returns-in_err-check_read-clause-promises
returns-in_err-check_read-clause-promises c = run_promises c.args.self.now c.args.book.now

pub returns-clause-value : goal.returns-clause-value
returns-clause-value c =
    let account = c.self.inside.account in
    let book = c.args.book.now in
    let j = c.args.number in
    let verdict = ap (λ (x : Inside). x.account.verdict) (sym c.self-inside.view_is) in
    subst (λ w. c.ok_or.result ≡ state_at w book j) c.self.view_is
    (elim c.match-self.branch [
      | in-BrokenAt w ↦ told_at account book j c.in_ok-check_read.field-0 c.in_ok-check_read.ensures c.ok_or.result c.match-self.state c.ok_or.ensures.value w.in-BrokenAt.state (verdict ∙ w.in-BrokenAt.is) (w.state-is ∙ w.then_some-state.ensures)
      | in-BrokenByEntry w ↦ told_by_entry account book j c.in_ok-check_read.field-0 c.in_ok-check_read.ensures c.ok_or.result c.match-self.state c.ok_or.ensures.value (verdict ∙ w.in-BrokenByEntry.is)
          (w.state-is ∙ w.state_of_run-state.ensures ∙ ap (λ (x : Inside). slice_get (run_of account.system (take x.account.used book)) j) c.self-inside.view_is)
    ])

pub returns-clause-promises : goal.returns-clause-promises
returns-clause-promises c = run_promises c.args.self.now c.args.book.now

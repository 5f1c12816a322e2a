use Rattle.std.proofs.Common.{sym}
use Rattle.cases.proofs.Promises.{read_ok}
use Rattle.descents.proofs.Told.{candidates_told}
use Rattle.descents.proofs.calls.candidate_descent.Goals as goal

pub returns-clause-told : goal.returns-clause-told
returns-clause-told c =
    let read = read_ok c.args.bytes.now c.in_ok-case.case c.in_ok-case.ensures.value in
    candidates_told c.args.bytes.now c.in_ok-case.case read c.args.marks.now c.descended.new.marks c.args.listed.now c.in_ok-sieve.sieve (sym c.in_ok-sieve.ensures.value) c.in_ok-sieve.ensures.consecution c.descended.result
    c.descended.ensures.told

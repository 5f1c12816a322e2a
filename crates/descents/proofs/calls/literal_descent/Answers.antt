use Rattle.cases.proofs.Promises.{read_ok}
use Rattle.descents.proofs.Told.{literals_told}
use Rattle.descents.proofs.calls.literal_descent.Goals as goal

pub returns-clause-told : goal.returns-clause-told
returns-clause-told c =
    let read = read_ok c.args.bytes.now c.in_ok-case.case c.in_ok-case.ensures.value in
    literals_told c.args.bytes.now c.in_ok-case.case read c.args.marks.now c.descended.new.marks c.args.state c.new-sieve.result c.new-sieve.ensures.value c.new-sieve.ensures.consecution c.descended.result
    c.descended.ensures.told

use Rattle.std.proofs.Common.{ap}
use Rattle.lists.specs.Lists.{clauses_of}
use Rattle.clauses.specs.Candidates.{gathered}
use Rattle.cases.proofs.Steps.{admitted_consecution}
use Rattle.candidate_sieve.proofs.Reading.{candidates_consecution}
use Rattle.candidate_sieve.proofs.candidates.CandidateSieve.read.Goals as goal

pub returns-clause-consecution : goal.returns-clause-consecution
returns-clause-consecution c =
    let cs = clauses_of c.in_ok-list.list in
    candidates_consecution c.args.case.now cs ((c.read_list.ensures.law cs).0 (ap gathered c.in_ok-list.was)).0 (admitted_consecution c.args.case.now c.read_list.ensures.admitted)

use Rattle.std.proofs.Common.{rules}
use Rattle.cases.proofs.Steps.{admitted_consecution}
use Rattle.literal_sieve.proofs.Consecution.{closed_is_consecution}
use Rattle.literal_sieve.proofs.at_state.LiteralSieve.new.Goals as goal

pub returns-clause-consecution : goal.returns-clause-consecution
returns-clause-consecution c =
    let told = closed_is_consecution c.args.case.now c.args.state (admitted_consecution c.args.case.now c.relays-relays.ensures.admitted) in
    rw c.relays-relays.ensures.value (search rules)

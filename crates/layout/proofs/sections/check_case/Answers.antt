use Rattle.layout.proofs.Law.{accepted_as_spelled, spelled_once}
use Rattle.layout.proofs.sections.check_case.Goals as goal

pub returns : goal.returns
returns c =
    let v = c.check_parts.ensures in
    record { value = v; law = accepted_as_spelled c.args.bytes.now c.type_inv.bytes c.check_parts.result v; once = spelled_once }

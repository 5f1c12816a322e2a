use Rattle.trail.specs.Entries.{entries}
use Rattle.trail.proofs.Deciding.{free_in}
use Rattle.search.proofs.Stepping.{spells_of, forces_of, sound_appended}
use Rattle.search.proofs.propagation.visit.Goals as goal

pub returns-in-Forces-clause-brings : goal.returns-in-Forces-clause-brings
returns-in-Forces-clause-brings c =
    let s = c.assigned.result in
    let stands = c.in-Forces.ensures in
    c.assign.ensures.assigned.taken stands.0 (free_in s (entries c.args.trail.now) c.in-Forces.literal.variable (spells_of c.args.trail.now s c.assigned.ensures) stands.2)

pub returns-in-Forces-clause-sound : goal.returns-in-Forces-clause-sound
returns-in-Forces-clause-sound c base implied sound =
    let ds = entries c.args.trail.now in
    let s = c.assigned.result in
    let l = c.in-Forces.literal in
    let spelled = spells_of c.args.trail.now s c.assigned.ensures in
    let stands = c.in-Forces.ensures in
    sound_appended base ds (entries c.assign.new.self) _ _ _
    (c.assign.ensures.assigned.taken stands.0 (free_in s ds l.variable spelled stands.2)) sound (implied, forces_of c.args.mask s ds l.variable l.value spelled stands.3)

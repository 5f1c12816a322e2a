use Rattle.std.proofs.Common.{take, arith, rules}
use Rattle.trail.specs.Entries.{entries}
use Rattle.trail.proofs.Standing.{sound_take}
use Rattle.search.proofs.Stepping.{sound_appended, height_changed}
use Rattle.search.proofs.search.Search.learn.Goals as goal

pub returns-clause-keeps : goal.returns-clause-keeps
returns-clause-keeps c base implied up =
    let jump = c.in_ok-jump.jump in
    let found = rw c.in_ok-jump.ensures.ok_part at c.analyze.ensures in
    let made = c.change.ensures.entries.taken found.0 found.1 found.2 in
    let ds = entries c.args.self.now.trail in
    let taught = found.4 base c.requires up.0 implied in (
      sound_appended base (take jump.to ds) (entries c.change.new.self) _ _ _ made (sound_take base ds jump.to (omega (arith, found.0)) up.0) taught,
      c.remember.ensures.each base (search (rules, up.1)) taught.0,
    )

pub returns-clause-taught : goal.returns-clause-taught
returns-clause-taught c =
    let jump = c.in_ok-jump.jump in
    let found = rw c.in_ok-jump.ensures.ok_part at c.analyze.ensures in
    let made = c.change.ensures.entries.taken found.0 found.1 found.2 in
    (jump.clause, made.made, take jump.to (entries c.args.self.now.trail), c.remember.ensures.last.0, made.is, made.forcing, c.remember.ensures.last.2)

pub returns-clause-cases : goal.returns-clause-cases
returns-clause-cases c =
    let jump = c.in_ok-jump.jump in
    let found = rw c.in_ok-jump.ensures.ok_part at c.analyze.ensures in
    let made = c.change.ensures.entries.taken found.0 found.1 found.2 in
    height_changed (entries c.args.self.now.trail) (entries c.change.new.self) jump.to _ _ _ c.args.self.now.trail.once found.0 found.3 made

pub returns-clause-jumped : goal.returns-clause-jumped
returns-clause-jumped c =
    let jump = c.in_ok-jump.jump in
    let found = rw c.in_ok-jump.ensures.ok_part at c.analyze.ensures in
    let made = c.change.ensures.entries.taken found.0 found.1 found.2 in
    record { place = jump.to; within = found.0; chosen = found.3; made = made.made; is = made.is }

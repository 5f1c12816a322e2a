use Rattle.std.proofs.Common.{◌^◌, ◌<◌, arith, rules}
use Rattle.system.proofs.Bits.{lowest}
use Rattle.trail.specs.Entries.{entries}
use Rattle.trail.proofs.Deciding.{free_in}
use Rattle.search.proofs.Stepping.{sound_appended, height_chosen}
use Rattle.search.proofs.search.Search.choose.Goals as goal

pub returns-clause-chosen : goal.returns-clause-chosen
returns-clause-chosen c =
    let h : c.args.candidates < 2 ^ 128 = omega arith in
    let l = lowest 128 c.args.candidates c.requires.some h in
    let t = c.args.self.now.trail in
    let free = free_in t.assigned (entries t) _ t.spelled (c.requires.free _ l.is) in
    record { lowest = _; is = l.is; first = l.first; made = c.assign.ensures.assigned.taken l.small free }

pub returns-clause-rises : goal.returns-clause-rises
returns-clause-rises c =
    let h : c.args.candidates < 2 ^ 128 = omega arith in
    let l = lowest 128 c.args.candidates c.requires.some h in
    let t = c.args.self.now.trail in
    let free = free_in t.assigned (entries t) _ t.spelled (c.requires.free _ l.is) in
    height_chosen (entries t) (entries c.assign.new.self) _ _ _ t.once l.small free (c.assign.ensures.assigned.taken l.small free)

pub returns-clause-keeps : goal.returns-clause-keeps
returns-clause-keeps c base given up =
    (sound_appended base (entries c.args.self.now.trail) (entries c.assign.new.self) _ _ _ (returns-clause-chosen c).made up.0 tt, search (rules, up.1))

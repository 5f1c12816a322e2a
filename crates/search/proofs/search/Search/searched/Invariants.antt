use Rattle.std.proofs.Common.{◌≡◌, ◌-◌, ◌^◌, length, vec_items}
use Rattle.trail.specs.Entries.{entries}
use Rattle.trail.specs.Reasons.{height}
use Rattle.search.specs.Searches.{Asked, Keeps}
use Rattle.search.specs.Looks.{Grounded, Named}
use Rattle.search.specs.Watched.{room}
use Rattle.search.proofs.search.Search.searched.Given as goal

abbrev pub invariant-turns : goal.invariant-turns
invariant-turns l =
    record {
      keeps : Keeps (Asked l.question) l.initial.self l.self;
      grounded : Grounded l.question.assumed.now (entries l.self.trail);
      named : Named (vec_items l.self.watches.links) (length l.question.masks.now);
      room : room l.self.watches ≡ room l.initial.self.watches;
    }

-- the digits of the trail rise
abbrev pub decreases-turns : goal.decreases-turns
decreases-turns l = 3 ^ 128 - height 128 (entries l.self.trail)

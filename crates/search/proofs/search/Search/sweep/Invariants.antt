use Rattle.std.proofs.Common.{◌≡◌, length, vec_items}
use Rattle.masks.specs.Questions.{Each}
use Rattle.trail.specs.Entries.{entries}
use Rattle.search.specs.Searches.{Extends, Keeps}
use Rattle.search.specs.Looks.{Named, SweptTo}
use Rattle.search.specs.Watched.{room, watched}
use Rattle.search.proofs.search.Search.sweep.Given as goal

abbrev pub invariant-loop-clause : goal.invariant-loop-clause
invariant-loop-clause l =
    record {
      keeps : Keeps (λ base. Each base l.masks) l.initial.self l.self;
      more : Extends (entries l.initial.self.trail) (entries l.self.trail);
      swept : SweptTo l.clause l.masks (room l.initial.self.watches) (entries l.initial.self.trail) (entries l.self.trail) (watched l.self.watches);
      named : Named (vec_items l.initial.self.watches.links) (length l.masks) → Named (vec_items l.self.watches.links) (length l.masks);
      room : room l.self.watches ≡ room l.initial.self.watches;
      learned : l.self.learned ≡ l.initial.self.learned;
    }

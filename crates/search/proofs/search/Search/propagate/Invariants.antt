use Rattle.std.proofs.Common.{◌≡◌, ◌-◌, min, length, vec_items}
use Rattle.masks.specs.Questions.{Each}
use Rattle.trail.specs.Entries.{entries, handed_out}
use Rattle.search.specs.Looks.{NoneBehind}
use Rattle.search.specs.Searches.{Extends, Keeps}
use Rattle.search.specs.Watched.{Stays}
use Rattle.search.proofs.search.Search.propagate.Given as goal

-- the decisions that were handed out leave none behind
abbrev pub invariant-loop-decision : goal.invariant-loop-decision
invariant-loop-decision l =
    record {
      more : Extends (entries l.initial.self.trail) (entries l.self.trail);
      keeps : Keeps (λ base. Each base l.masks) l.initial.self l.self;
      stays : Stays l.initial.self.watches l.self.watches;
      learned : vec_items l.self.learned.clauses ≡ vec_items l.initial.self.learned.clauses;
      of_held : NoneBehind (vec_items l.self.watches.links) l.masks (entries l.self.trail) (handed_out l.initial.self.trail) (min (handed_out l.self.trail) (length (entries l.self.trail)));
      of_learned : NoneBehind (vec_items l.self.learned.watches.links) (vec_items l.self.learned.clauses) (entries l.self.trail) (handed_out l.initial.self.trail) (min (handed_out l.self.trail) (length (entries l.self.trail)));
    }

-- the decisions that were not handed out
abbrev pub decreases-loop-decision : goal.decreases-loop-decision
decreases-loop-decision l = 128 - l.self.trail.done

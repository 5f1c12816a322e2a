use Rattle.std.proofs.Common.{◌≡◌, ℕ, List, vec_items}
use Rattle.masks.specs.Questions.{Each}
use Rattle.trail.specs.Entries.{entries}
use Rattle.trail.specs.Reasons.{Sound}
use Rattle.search.specs.Searches.{Extends}
use Rattle.search.specs.Watched.{room}
use Rattle.search.proofs.Looking.{Walking}
use Rattle.search.proofs.propagation.follow.Given as goal

abbrev pub invariant-loop-turn : goal.invariant-loop-turn
invariant-loop-turn l =
    record {
      more : Extends (entries l.initial.trail) (entries l.trail);
      sound : (base : List (List ℕ)) → Each base l.masks → Sound base (entries l.initial.trail) → Sound base (entries l.trail);
      done : l.trail.done ≡ l.initial.trail.done;
      room : room l.watches ≡ room l.initial.watches;
      walking : Walking (vec_items l.initial.watches.links) l.literal l.masks (entries l.initial.trail) (entries l.trail) l.watches.heads.value (vec_items l.watches.links) l.at l._turn;
    }

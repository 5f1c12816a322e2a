use Rattle.std.proofs.Common.{◌≡◌}
use Rattle.masks.specs.Questions.{Units}
use Rattle.trail.specs.Entries.{entries}
use Rattle.search.specs.Looks.{AssumedTo}
use Rattle.search.specs.Searches.{Keeps, NoChoice}
use Rattle.search.proofs.search.Search.assume.Given as goal

abbrev pub invariant-loop-literal : goal.invariant-loop-literal
invariant-loop-literal l =
    record {
      keeps : Keeps (λ base. Units base l.assumed) l.initial.self l.self;
      assumed : AssumedTo l.literal-index l.assumed (entries l.self.trail);
      unchosen : NoChoice (entries l.initial.self.trail) → NoChoice (entries l.self.trail);
      kept : l.self.watches ≡ l.initial.self.watches;
      learned : l.self.learned ≡ l.initial.self.learned;
    }

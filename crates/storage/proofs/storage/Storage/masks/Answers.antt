use Rattle.std.proofs.Common.{subst}
use Rattle.storage.specs.Stored.{Within}
use Rattle.storage.proofs.Pieces.{held_within}
use Rattle.storage.proofs.storage.Storage.masks.Goals as goal

pub returns-clause-within : goal.returns-clause-within
returns-clause-within c = subst Within c.self.view_is (held_within c.self.inside c.self.invariant)

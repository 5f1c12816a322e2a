use Rattle.std.proofs.Common.{sym, ◌∙◌, ap}
use Rattle.system.specs.Literals.{size}
use Rattle.storage.specs.Stored.{Stored}
use Rattle.storage.proofs.Pieces.{held_size}
use Rattle.storage.proofs.storage.Storage.literals_held.Goals as goal

pub returns-clause-value : goal.returns-clause-value
returns-clause-value c = c.len.ensures ∙ sym (held_size c.self.inside c.self.invariant) ∙ ap (λ (v : Stored). size v.held) c.self.view_is

use Rattle.std.proofs.Common.{ℕ, Option, None, replicate}
use Rattle.std.proofs.lemmas.List.{get_or-replicate, length-replicate}
use Rattle.search.proofs.Chains.{linked_none}
use Rattle.search.proofs.watches.Watches.clear.Goals as goal

pub invariant_of-self : goal.invariant_of-self
invariant_of-self c =
    record {
      wide = length-replicate {A = Option ℕ} 256 None;
      linked = linked_none (replicate 256 None) _ c.clear.ensures.items (λ l h. get_or-replicate 256 l None None h);
    }

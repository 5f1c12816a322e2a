use Rattle.std.proofs.Common.{ℕ, Option, None, length, ap, ◌∙◌}
use Rattle.std.proofs.lemmas.List.{get_or-replicate, length-replicate}
use Rattle.search.specs.Chains.{head_of}
use Rattle.search.proofs.Chains.{linked_none}
use Rattle.search.proofs.watches.Watches.new.Goals as goal

pub invariant_of-result : goal.invariant_of-result
invariant_of-result c =
    let e = c.in_ok-heads.ensures.ok in
    record {
      wide = ap length e ∙ length-replicate {A = Option ℕ} 256 None;
      linked = linked_none c.in_ok-heads.heads.value _ c.in_ok-links.ensures.items (λ l h. ap (λ hs. head_of hs l) e ∙ get_or-replicate 256 l None None h);
    }

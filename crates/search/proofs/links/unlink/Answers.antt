use Rattle.std.proofs.Common.{◌<◌, set, length, vec_items, sym, subst, arith}
use Rattle.search.specs.Chains.{Unlinked}
use Rattle.search.proofs.Chains.{unlinked_head}
use Rattle.search.proofs.links.unlink.Goals as goal

pub returns-in-None-clause-unlinked : goal.returns-in-None-clause-unlinked
returns-in-None-clause-unlinked c =
    let heads = c.args.heads.now.value in
    let ls = vec_items c.args.links.now in
    let within : c.args.at.literal < length heads = omega (arith, c.requires.wide) in
    subst (λ hs. Unlinked heads (set hs c.from.result c.args.next) ls ls c.args.at c.args.next) (sym c.deref_mut.ensures.value)
    (unlinked_head heads ls c.args.at c.args.next c.from.result c.from.ensures within c.in-None.is)

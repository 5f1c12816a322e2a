use Rattle.std.proofs.Common.{◌<◌, List, Option, ℕ, Some, None, length, get_or, set, vec_items, ap, ◌∙◌, sym, subst₂, arith}
use Rattle.std.proofs.lemmas.List.{length-set}
use Rattle.search.specs.Chains.{Linked, Moved}
use Rattle.search.proofs.Chains.{walk_before, walk_held, moved_by, linked_moved}
use Rattle.search.proofs.watches.Watches.relink.Goals as goal

pub unlink-requires-clause-wide : goal.unlink-requires-clause-wide
unlink-requires-clause-wide c = c.args.self.now.wide

pub unlink-requires-clause-before : goal.unlink-requires-clause-before
unlink-requires-clause-before c b e =
    let s = c.args.self.now in
    let (qs, w) = c.requires.walks in
    (walk_before s.heads.value (vec_items s.links) c.args.at c.args.place b qs w e).0

pub index_mut-requires : goal.index_mut-requires
index_mut-requires c =
    let s = c.args.self.now in
    let (qs, w) = c.requires.walks in
    let h = walk_held s.heads.value (vec_items s.links) c.args.at c.args.place qs w in
    omega (arith, c.unlink.ensures.unlinked.many, c.unlink.new.links.ok.0, s.links.ok.0)

pub invariant_of-self : goal.invariant_of-self
invariant_of-self c =
    let s = c.args.self.now in
    let u = c.unlink.new in
    let (qs, w) = c.requires.walks in
    let r = c.from-head.result in
    let o = Some c.args.place in
    let within : c.args.literal < length s.heads.value = omega (arith, s.wide) in
    let m =
    moved_by s.heads.value u.heads.value (vec_items s.links) (vec_items u.links) c.args.at c.args.place c.args.literal r c.args.link qs w c.requires.is
    c.unlink.ensures.unlinked c.from-head.ensures within c.requires.apart in
    record {
      wide = length-set c.deref_mut.result.now r o ∙ ap length c.deref_mut.ensures.value ∙ c.unlink.ensures.unlinked.wide ∙ s.wide;
      linked =
          subst₂ (λ hs ns. Linked (set hs r o) (set (vec_items u.links) c.args.place (record { clause = c.args.link.clause; literal = c.args.literal; next = get_or ns r None })))
          (sym c.deref_mut.ensures.value) (sym c.deref.ensures)
          (linked_moved s.heads.value _ (vec_items s.links) _ c.args.at c.args.place c.args.literal m c.requires.apart qs w s.linked);
    }

pub returns-clause-moved : goal.returns-clause-moved
returns-clause-moved c =
    let s = c.args.self.now in
    let u = c.unlink.new in
    let (qs, w) = c.requires.walks in
    let r = c.from-head.result in
    let o = Some c.args.place in
    let within : c.args.literal < length s.heads.value = omega (arith, s.wide) in
    subst₂ (λ hs ns. Moved s.heads.value (set hs r o) (vec_items s.links) (set (vec_items u.links) c.args.place (record { clause = c.args.link.clause; literal = c.args.literal; next = get_or ns r None })) c.args.at c.args.place c.args.literal)
    (sym c.deref_mut.ensures.value) (sym c.deref.ensures)
    (moved_by s.heads.value u.heads.value (vec_items s.links) (vec_items u.links) c.args.at c.args.place c.args.literal r c.args.link qs w c.requires.is
    c.unlink.ensures.unlinked c.from-head.ensures within c.requires.apart)

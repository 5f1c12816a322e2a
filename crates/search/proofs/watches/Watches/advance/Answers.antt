use Rattle.std.proofs.Common.{◌≡◌, ℕ, vec_items, refl, sym, ap, subst, arith}
use Rattle.search.specs.Chains.{link_at, partner_of}
use Rattle.search.specs.Watched.{Advanced}
use Rattle.search.specs.declared.watches.Link.{Link}
use Rattle.search.proofs.Chains.{walk_at, walk_held, walk_own, walk_on, walk_moved, same_place, read_at}
use Rattle.search.proofs.watches.Watches.advance.Goals as goal

pub index-link-requires : goal.index-link-requires
index-link-requires c =
    let s = c.args.self.now in
    let (rest, w) = walk_at s.heads.value (vec_items s.links) c.args.at c.in-Some.place c.requires.0 c.in-Some.is c.requires.1 in
    let h = walk_held s.heads.value (vec_items s.links) c.args.at c.in-Some.place rest w in
    omega (arith, s.links.ok.0)

pub relink-requires-clause-is : goal.relink-requires-clause-is
relink-requires-clause-is c =
    let s = c.args.self.now in
    let (rest, w) = walk_at s.heads.value (vec_items s.links) c.args.at c.in-Some.place c.requires.0 c.in-Some.is c.requires.1 in
    read_at (vec_items s.links) c.in-Some.place c.index-link.result.now (walk_held s.heads.value (vec_items s.links) c.args.at c.in-Some.place rest w) c.index-link.ensures

pub returns-then-literal-at-clause-walks : goal.returns-then-literal-at-clause-walks
returns-then-literal-at-clause-walks c p qs w =
    let s = c.args.self.now in
    let v = same_place s.heads.value (vec_items s.links) c.args.at c.in-Some.place p qs c.in-Some.is w in
    let h = walk_held s.heads.value (vec_items s.links) c.args.at c.in-Some.place qs v in
    walk_on s.heads.value (vec_items s.links) c.args.at _ c.in-Some.place qs refl refl
    (ap (λ (x : Link). x.next) (read_at (vec_items s.links) c.in-Some.place c.index-link.result.now h c.index-link.ensures)) v

pub returns-clause-walks : goal.returns-clause-walks
returns-clause-walks c p qs w =
    let s = c.args.self.now in
    let v = same_place s.heads.value (vec_items s.links) c.args.at c.in-Some.place p qs c.in-Some.is w in
    let h = walk_held s.heads.value (vec_items s.links) c.args.at c.in-Some.place qs v in
    walk_moved s.heads.value _ (vec_items s.links) _ c.args.at c.in-Some.place c.next_literal-literal.result c.relink.ensures.moved c.if-literal-at.false qs v _ refl refl
    (ap (λ (x : Link). x.next) (read_at (vec_items s.links) c.in-Some.place c.index-link.result.now h c.index-link.ensures))

pub returns-then-literal-at-clause-moves : goal.returns-then-literal-at-clause-moves
returns-then-literal-at-clause-moves c p e =
    let s = c.args.self.now in
    let ls = vec_items s.links in
    let at = c.args.at in
    let place = c.in-Some.place in
    let (rest, w) = walk_at s.heads.value ls at place c.requires.0 c.in-Some.is c.requires.1 in
    let same : place ≡ p = cc in
    let stays = subst (Advanced c.args.mask c.args.known (partner_of ls place) c.args.stood at.literal) c.if-literal-at.true c.next_literal-literal.ensures in
    subst (λ (q : ℕ). Advanced c.args.mask c.args.known (partner_of ls q) c.args.stood (link_at ls q).literal (link_at ls q).literal) same
    (subst (λ (l : ℕ). Advanced c.args.mask c.args.known (partner_of ls place) c.args.stood l l) (sym (walk_own s.heads.value ls at place rest w)) stays)

use Rattle.std.proofs.Common.{not, ◌&&◌, sym, ap, ◌∙◌, subst, vec_items}
use Rattle.system.specs.Literals.{bit}
use Rattle.search.specs.Chains.{partner_of}
use Rattle.search.specs.Watched.{Advanced}
use Rattle.search.proofs.watches.Watches.next_literal.Goals as goal

pub returns-in-Open : goal.returns-in-Open
returns-in-Open c =
    let known = c.args.known in
    let partner = partner_of (vec_items c.args.self.now.links) c.args.place in
    subst (λ s. Advanced c.args.mask known partner s c.args.literal c.literal_in.result) (sym c.in-Open.is) (record {
      free = c.without-open.result;
      is = λ j. c.without-open.ensures j ∙ ap (λ b. b && not (bit known j)) (c.variables.ensures j);
      rest = c.without.result;
      others = λ j. c.without.ensures j ∙ ap (λ x. bit c.without-open.result j && not (bit x j)) c.partner.ensures;
      other = c.highest.result;
      small = c.highest.ensures.bound;
      highest = c.highest.ensures.highest;
      literal = c.literal_in.ensures;
    })

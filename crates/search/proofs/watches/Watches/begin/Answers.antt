use Rattle.std.proofs.Common.{not, ◌&&◌, sym, ap, ◌∙◌, subst}
use Rattle.system.specs.Literals.{bit}
use Rattle.search.specs.Watched.{watched, room, Begun}
use Rattle.search.proofs.watches.Watches.begin.Goals as goal

pub returns-in-Open-clause-watched : goal.returns-in-Open-clause-watched
returns-in-Open-clause-watched c =
    let known = c.args.known in
    subst (λ s. Begun c.args.mask known c.args.clause (room c.args.self.now) s (watched c.args.self.now) (watched c.watch.new.self)) (sym c.in-Open.is) (record {
      free = c.without-open.result;
      is = λ j. c.without-open.ensures j ∙ ap (λ b. b && not (bit known j)) (c.variables.ensures j);
      one = c.highest-one.result;
      highest = c.highest-one.ensures.highest;
      rest = c.without.result;
      others = λ j. c.without.ensures j ∙ ap (λ x. bit c.without-open.result j && not (bit x j)) c.set_of.ensures;
      other = c.highest.result;
      next = c.highest.ensures.highest;
      made = c.watch.ensures.watched;
    })

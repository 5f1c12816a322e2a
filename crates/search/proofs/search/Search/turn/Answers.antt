use Rattle.std.proofs.Common.{sym, subst, arith}
use Rattle.std.proofs.lemmas.Result.{MatchResult-from_err, MatchResult-weaker, IfOk-weaker}
use Rattle.trail.specs.Entries.{entries}
use Rattle.search.specs.Watched.{Stays}
use Rattle.search.proofs.Lasting.{lasts_more, lasts_jumped}
use Rattle.search.proofs.Stepping.{climbs, turned_later}
use Rattle.search.proofs.search.Search.turn.Goals as goal

pub returns-in_err-learn-clause-keeps : goal.returns-in_err-learn-clause-keeps
returns-in_err-learn-clause-keeps c base given up = c.learn.ensures.keeps base (c.in-Some.ensures.found.1 base (given.0, up)) (c.propagate.ensures.keeps base given.0 up)

pub returns-in_err-learn-clause-cases : goal.returns-in_err-learn-clause-cases
returns-in_err-learn-clause-cases c =
    MatchResult-from_err c.from_residual.result _ _ c.from_residual.ensures.0
    (λ x base given up. c.in_err-learn.ensures.cases base (c.in-Some.ensures.found.1 base (given.0, up)) (c.propagate.ensures.keeps base given.0 up))

pub returns-in_err-learn-clause-stays : goal.returns-in_err-learn-clause-stays
returns-in_err-learn-clause-stays c = subst (Stays c.args.self.now.watches) (sym c.learn.ensures.kept) c.propagate.ensures.stays

pub returns-in-Some : goal.returns-in-Some
returns-in-Some c =
    let found = c.in-Some.ensures.found.1 in
    record {
      keeps = λ base given up. c.learn.ensures.keeps base (found base (given.0, up)) (c.propagate.ensures.keeps base given.0 up);
      cases = omega (arith, c.in_ok-learn.ensures.cases, climbs _ _ c.propagate.ensures.more);
      lasts = λ first none before.
          lasts_jumped (entries c.propagate.new.self.trail) (entries c.learn.new.self.trail) c.in_ok-learn.ensures.jumped first none
          (lasts_more (entries c.args.self.now.trail) (entries c.propagate.new.self.trail) c.propagate.ensures.more first none before);
      stays = subst (Stays c.args.self.now.watches) (sym c.learn.ensures.kept) c.propagate.ensures.stays;
    }

pub returns : goal.returns
returns c =
    record {
      keeps = λ base given up. c.decide.ensures.keeps base given (c.propagate.ensures.keeps base given.0 up);
      cases = MatchResult-weaker c.decide.result c.decide.ensures.cases
          (turned_later c.args.question c.args.self.now c.propagate.new.self c.decide.new.self c.propagate.ensures.more)
          (λ x f base given up. f base given (c.propagate.ensures.keeps base given.0 up));
      lasts = IfOk-weaker c.decide.result _ _
          (λ x later first none before. later first none (lasts_more (entries c.args.self.now.trail) (entries c.propagate.new.self.trail) c.propagate.ensures.more first none before))
          c.decide.ensures.lasts;
      stays = subst (Stays c.args.self.now.watches) (sym c.decide.ensures.kept) c.propagate.ensures.stays;
    }

use Rattle.std.proofs.Common.{◌∙◌, arith}
use Rattle.std.proofs.lemmas.Result.{MatchResult-from_err}
use Rattle.trail.specs.Entries.{entries}
use Rattle.trail.proofs.Standing.{height_below}
use Rattle.search.proofs.Lasting.{none_assumed, grounded_lasts, grounded_kept}
use Rattle.search.proofs.Linking.{named_kept}
use Rattle.search.proofs.search.Search.searched.Goals as goal

pub returns-in_err-turn-clause-cases : goal.returns-in_err-turn-clause-cases
returns-in_err-turn-clause-cases c =
    MatchResult-from_err c.from_residual-in_err-turn.result _ _ c.from_residual-in_err-turn.ensures.0
    (λ x base given up. c.in_err-turn.ensures.cases base (given.0, none_assumed base) (c.turns.invariant.keeps base given (c.begin.ensures.keeps base given up)))

pub returns-in-Satisfied-clause-cases : goal.returns-in-Satisfied-clause-cases
returns-in-Satisfied-clause-cases c =
    let t = c.turn.new.self.trail in
    let ls = c.args.question.assumed.now in
    let satisfied = rw c.in-Satisfied.is at c.in_ok-turn.ensures.cases in
    (satisfied.0, grounded_kept ls (entries t) t.assigned t.spelled (grounded_lasts ls (entries c.turns.self.trail) (entries t) c.in_ok-turn.ensures.lasts c.turns.invariant.grounded))

pub turns-smaller : goal.turns-smaller
turns-smaller c =
    let h = height_below 128 (entries c.turn.new.self.trail) in
    let e = rw c.in-Further.is at c.in_ok-turn.ensures.cases in
    omega (arith, e)

pub turns-preserved : goal.turns-preserved
turns-preserved c =
    record {
      keeps = λ base given up. c.turn.ensures.keeps base (given.0, none_assumed base) (c.turns.invariant.keeps base given up);
      grounded = grounded_lasts c.args.question.assumed.now (entries c.turns.self.trail) (entries c.turn.new.self.trail) c.in_ok-turn.ensures.lasts c.turns.invariant.grounded;
      named = named_kept c.turns.self.watches c.turn.new.self.watches _ c.turn.ensures.stays c.turns.invariant.named;
      room = c.turn.ensures.stays.space ∙ c.turns.invariant.room;
    }

use Rattle.std.proofs.Common.{ℕ, ◌<◌, List, length, sym, ◌∙◌, subst₂, arith}
use Rattle.lists.specs.Lists.{clauses_of}
use Rattle.solver.specs.Answers.{Answered}
use Rattle.lists.proofs.Left.{left_more, left_none}
use Rattle.exported.proofs.Walks.{told_more}
use Rattle.exported.proofs.asking.ask.Goals as goal

pub returns-in_default : goal.returns-in_default
returns-in_default g c same k e h =
    let l = left_none (clauses_of c.args.list) c.loop-reply.reply-index (sym c.loop-reply.invariant.0 ∙ c.in_default.ensures.steps.0) in
    let t = c.loop-reply-test.true in
    absurd (let z : ⊥ = omega arith in z)

pub loop-reply-preserved : goal.loop-reply-preserved
loop-reply-preserved g c =
    let xs = clauses_of c.args.list in
    let rest = clauses_of c.next.new.self in
    let d : List ℕ = c.in-Some.assumed.now in
    let n = c.loop-reply.reply-index in
    let left = left_more xs n d rest (sym c.loop-reply.invariant.0 ∙ c.in-Some.ensures.steps) in
    let h : n < length c.loop-reply.replies = omega (arith, c.loop-reply-test.true, c.loop-reply.auto.replies) in (
      left.2,
      c.query.ensures.held ∙ c.loop-reply.invariant.1,
      told_more (g.S.Solver.held c.args.solver.now) xs c.loop-reply.replies n c.from.result h c.loop-reply.invariant.2 (
        c.query.result,
        subst₂ (λ held q. Answered held q c.query.result) c.loop-reply.invariant.1 left.1 c.query.ensures.answer,
        c.from.ensures,
      ),
    )

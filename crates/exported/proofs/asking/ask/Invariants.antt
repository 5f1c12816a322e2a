use Rattle.std.proofs.Common.{◌≡◌, ℕ, ◌<◌, [], get_or, drop}
use Rattle.lists.specs.Lists.{clauses_of}
use Rattle.exported.specs.Replies.{Told}
use Rattle.exported.specs.declared.reply.Reply.{Reply}
use Rattle.exported.proofs.asking.ask.Given as goal

-- the questions that are left, and the replies so far
abbrev pub invariant-loop-reply : goal.invariant-loop-reply
invariant-loop-reply g l =
    (clauses_of l.questions ≡ drop l.reply-index (clauses_of l.initial.questions))
    × (g.S.Solver.held l.solver ≡ g.S.Solver.held l.initial.solver)
    × ((k : ℕ) (e : Reply) → k < l.reply-index → Told (g.S.Solver.held l.initial.solver) (get_or (clauses_of l.initial.questions) k []) (get_or l.replies k e))

use Rattle.std.proofs.Common.{length, ap, ◌∙◌, subst₂}
use Rattle.lists.proofs.Spelled.{clauses_length}
use Rattle.exported.specs.Replies.{Replied}
use Rattle.exported.proofs.asking.asked.Goals as goal

pub returns-clause-replied : goal.returns-clause-replied
returns-clause-replied g c =
    subst₂ (λ held questions. Replied held questions c.ask.new.replies) c.in_ok-load.ensures.held c.over.ensures
    (c.ask.ensures (ap length c.over.ensures ∙ clauses_length (length c.args.replies.now) c.args.questions.now))

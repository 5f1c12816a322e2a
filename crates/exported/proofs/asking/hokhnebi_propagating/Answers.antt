use Rattle.std.proofs.Common.{length, sym, ◌∙◌, subst}
use Rattle.lists.specs.Spelling.{clauses_in}
use Rattle.exported.specs.Replies.{Replied}
use Rattle.exported.proofs.Walks.{all_asked}
use Rattle.exported.proofs.asking.hokhnebi_propagating.Goals as goal

pub returns-clause-replied : goal.returns-clause-replied
returns-clause-replied c none =
    subst (λ held. Replied held (clauses_in (length c.args.replies.now) c.args.questions.now) c.asked.new.replies) c.over.ensures
    (all_asked c.asked.result (sym c.code_of.ensures ∙ none) c.asked.ensures.replied)

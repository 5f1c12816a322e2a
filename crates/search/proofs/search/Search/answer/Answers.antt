use Rattle.std.proofs.Common.{◌/◌, ◌%◌, ◌^◌, vec_items, sym, ap, ◌∙◌, subst}
use Rattle.solver.specs.Answers.{Answered}
use Rattle.solver.specs.declared.answer.Answer.TheVariants.{Yes}
use Rattle.masks.specs.declared.mask.ClauseMask.{ClauseMask}
use Rattle.masks.proofs.Meaning.{yes_answered, no_answered}
use Rattle.trail.specs.Entries.{entries}
use Rattle.trail.proofs.Deciding.{one_value}
use Rattle.trail.proofs.Standing.{sound_none}
use Rattle.search.proofs.Stepping.{each_none}
use Rattle.search.proofs.search.Search.answer.Goals as goal

pub returns-in-Ok-clause-answer : goal.returns-in-Ok-clause-answer
returns-in-Ok-clause-answer c held e =
    let t = c.searched.new.self.trail in
    let found = c.in-Ok.ensures.cases in
    subst (Answered held c.args.question.assumed.now) (sym (c.yes_of.ensures ∙ ap (λ (s : ClauseMask). Yes (s.positive % 2 ^ 64) (s.positive / 2 ^ 64)) c.assigned.ensures))
    (yes_answered t.assigned (one_value t.assigned (entries t) t.spelled t.once) held c.args.question.assumed.now c.args.question.masks.now e found.0 found.1)

pub returns-in-Err-clause-answer : goal.returns-in-Err-clause-answer
returns-in-Err-clause-answer c held e =
    no_answered held c.args.question.assumed.now c.args.question.masks.now e (λ base given. c.in-Err.ensures.cases base given
    (sound_none base (entries c.clear.new.self) c.clear.ensures.entries, each_none base (vec_items c.clear-2.new.self.clauses) c.clear-2.ensures.none))

use Rattle.std.proofs.Common.{take}
use Rattle.denial.specs.declared.moment.Moment.TheVariants.{After}
use Rattle.denial.proofs.Opposites.{denied_whole}
use Rattle.candidate_sieve.proofs.Denied.{formed_length, answer_yes, answer_no}
use Rattle.candidate_sieve.proofs.questions.ask_if_marked.Goals as goal

pub returns-in-Yes-clause-answer : goal.returns-in-Yes-clause-answer
returns-in-Yes-clause-answer g c =
    let d = c.args.candidate.now in
    answer_yes (g.S.Solver.held c.args.solver.now) d (take c.deny-count.result c.deny-count.new.out) c.requires (denied_whole After d _ (formed_length d c.requires) c.deny-count.ensures.denied c.requires.0) c.args.mark c.if-mark-ne1.false c.in-Yes.low c.in-Yes.field-1 c.state_after.result c.in-Yes.ensures.answer c.state_after.ensures

pub returns-in-No-clause-answer : goal.returns-in-No-clause-answer
returns-in-No-clause-answer g c =
    let d = c.args.candidate.now in
    answer_no (g.S.Solver.held c.args.solver.now) d (take c.deny-count.result c.deny-count.new.out) c.requires (denied_whole After d _ (formed_length d c.requires) c.deny-count.ensures.denied c.requires.0) c.args.mark c.if-mark-ne1.false c.in-No.ensures.answer

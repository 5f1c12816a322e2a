use Rattle.std.proofs.Common.{rules, ◌≡◌, ◌≤◌, ◌∙◌, ap, arith, length, take}
use Rattle.std.specs.Prelude.{is_none}
use Rattle.std.proofs.lemmas.List.{length-take}
use Rattle.literal_sieve.specs.Literal.{false_at}
use Rattle.questions.specs.Questions.{InitialAgainst}
use Rattle.questions.proofs.Whole.{whole}
use Rattle.learning.proofs.Learned.{all_held, initiated_told}
use Rattle.learning.proofs.learning.is_initiated.Goals as goal

pub returns-clause-initiated : goal.returns-clause-initiated
returns-clause-initiated g c =
    λ room.
    let written = c.write_clause-count.new.out in
    let same = c.write_clause-count.ensures.value ∙ ap (λ v. false_at v.n v.state c.args.marks.now) c.new.ensures.value in
    let few : length (take c.write_clause-count.result written) ≤ 32 = omega (arith, c.write_clause-count.ensures.bound, length-take c.write_clause-count.result written) in
    let loads = all_held _ _ c.args.case.now.start c.load_start.ensures.held (c.load_start.ensures.test ∙ room) in
    let said : c.is_none.result ≡ is_none c.initial_against.result = search rules in
    initiated_told c.args.case.now c.args.state c.args.marks.now (take c.write_clause-count.result written) same few c.initial_against.result (whole (λ d. InitialAgainst c.args.case.now d c.initial_against.result) _ _ (c.initial_against.ensures.answer loads)) c.is_none.result said

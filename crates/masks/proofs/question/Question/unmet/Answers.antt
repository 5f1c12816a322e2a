use Rattle.std.proofs.Common.{get_or, sym, ◌∙◌, below_more, inr, subst}
use Rattle.std.proofs.lemmas.List.{get_or_default}
use Rattle.std.proofs.lemmas.List.Elements.{Contains-get_or}
use Rattle.masks.specs.Masks.{none, Meets, Apart}
use Rattle.masks.proofs.Meaning.{unit_met, unit_apart}
use Rattle.masks.proofs.question.Question.unmet.Goals as goal

pub loop-clause-preserved : goal.loop-clause-preserved
loop-clause-preserved c =
    below_more _ _ c.loop-clause.invariant
    (λ e. subst (λ m. Meets m c.args.set) (get_or_default c.args.self.masks.now c.loop-clause.clause-index none e c.loop-clause-test.true) c.if-not-meets.ensures)

pub loop-byte-preserved : goal.loop-byte-preserved
loop-byte-preserved c =
    let l = get_or c.args.self.assumed.now c.loop-byte.byte-index 0 in
    (c.loop-byte.invariant.0, below_more _ _ c.loop-byte.invariant.1 (unit_met l c.args.set (sym c.has_literal.ensures ∙ c.if-not-has_literal.false)))

pub returns-then-not-has_literal : goal.returns-then-not-has_literal
returns-then-not-has_literal c =
    let l = get_or c.args.self.assumed.now c.loop-byte.byte-index 0 in (
      inr (l, Contains-get_or c.args.self.assumed.now c.loop-byte.byte-index 0 c.loop-byte-test.true, c.with_literal.ensures),
      subst (λ m. Apart m c.args.set) (sym c.with_literal.ensures) (unit_apart l c.args.set (sym c.has_literal.ensures ∙ c.if-not-has_literal.true)),
    )

use Rattle.std.proofs.Common.{get_or, refl, below_more, inl, inr}
use Rattle.std.proofs.lemmas.List.{get_or_default}
use Rattle.std.proofs.lemmas.List.Elements.{Contains-get_or}
use Rattle.masks.specs.Masks.{none}
use Rattle.masks.proofs.Asked.{within_left, within_variables, mentioned_more}
use Rattle.masks.proofs.question.Question.variables.Goals as goal

pub loop-mask-preserved : goal.loop-mask-preserved
loop-mask-preserved c =
    let masks = c.args.self.masks.now in (
      below_more _ _ (λ k h e. within_left _ _ _ (c.loop-mask.invariant.0 k h e))
          (λ e. within_variables c.loop-mask.found c.variables-found.result _ _ (get_or_default masks c.loop-mask.mask-index none e c.loop-mask-test.true) c.variables-found.ensures),
      mentioned_more masks c.args.self.assumed.now c.loop-mask.found c.variables-found.result _ _ refl
          (inl (Contains-get_or masks c.loop-mask.mask-index none c.loop-mask-test.true)) c.variables-found.ensures c.loop-mask.invariant.1,
    )

pub loop-literal-preserved : goal.loop-literal-preserved
loop-literal-preserved c =
    let assumed = c.args.self.assumed.now in (
      (λ k e h. within_left _ _ _ (c.loop-literal.invariant.0 k e h)),
      below_more _ _ (λ k g. within_left _ _ _ (c.loop-literal.invariant.1 k g))
          (within_variables c.loop-literal.found c.variables-found-in-loop-literal.result _ _ c.with_literal.ensures c.variables-found-in-loop-literal.ensures),
      mentioned_more c.args.self.masks.now assumed c.loop-literal.found c.variables-found-in-loop-literal.result _ _ c.with_literal.ensures
          (inr (get_or assumed c.loop-literal.literal-index 0, Contains-get_or assumed c.loop-literal.literal-index 0 c.loop-literal-test.true, refl)) c.variables-found-in-loop-literal.ensures c.loop-literal.invariant.2,
    )

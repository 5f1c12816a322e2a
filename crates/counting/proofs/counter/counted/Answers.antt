use Rattle.std.proofs.Common.{◌≡◌, true, T, sym, ◌∙◌, subst, inl, inr, arith, rules}
use Rattle.std.proofs.lemmas.Bool.{and_parts, not-true, cases_order, true≢false}
use Rattle.system.specs.Literals.{bit, clauses}
use Rattle.solver.specs.Answers.{Answered}
use Rattle.masks.proofs.Meaning.{yes_answered, no_answered}
use Rattle.counting.proofs.Places.{rank_below, rank_rises}
use Rattle.counting.proofs.Earlier.{next_early, none_left, one_value, all_met, not_here}
use Rattle.counting.proofs.counter.counted.Goals as goal

pub assignments-preserved : goal.assignments-preserved
assignments-preserved c =
    let x = c.variables-all.result in
    let t = c.assignments.trues in
    let f = c.without.result in
    let i = c.assignments.invariant in
    let q = c.in-Some.ensures.0 in
    let s = c.in-Some.ensures.1 in (
      (λ j h. elim (cases_order j q) [
        | inl e ↦ subst (λ v. bit x v ≡ true) (sym e) (and_parts (bit x q) _ (sym (c.without.ensures q) ∙ s.last)).0
        | inr (inl l) ↦ i.0 j (sym (s.same j l) ∙ h)
        | inr (inr g) ↦ absurd (true≢false (sym h ∙ s.cleared j g))
      ]),
      (λ base given. next_early x t f c.variables-all.type_inv c.without.ensures (λ a. T (clauses a base))
          (i.1 base given)
          (not_here _ _ base x t f c.serves.ensures.0 c.without.ensures c.variables-all.ensures.all c.serves.ensures.1 (search rules) given)
          c.in-Some.following q s),
      omega arith,
    )

pub assignments-smaller : goal.assignments-smaller
assignments-smaller c =
    let t = c.assignments.trues in
    let q = c.in-Some.ensures.0 in
    let s = c.in-Some.ensures.1 in
    let n = not-true (bit t q) (and_parts (bit c.variables-all.result q) _ (sym (c.without.ensures q) ∙ s.last)).1 in
    let r = rank_rises 128 (bit t) (bit c.in-Some.following) q s.small s.same n s.now_true in
    let b = rank_below 128 (bit c.in-Some.following) in
    omega arith

pub returns-then-serves : goal.returns-then-serves
returns-then-serves c held e =
    let t = c.assignments.trues in
    let f = c.without.result in
    let met = all_met _ _ _ c.serves.ensures.0 c.serves.ensures.1 (search rules) in
    subst (Answered held c.args.question.assumed.now) (sym c.yes_of.ensures)
    (yes_answered (record { positive = t; negative = f }) (one_value c.variables-all.result t f c.without.ensures) held c.args.question.assumed.now c.args.question.masks.now e met.0 met.1)

pub returns-in_default : goal.returns-in_default
returns-in_default c held e =
    no_answered held c.args.question.assumed.now c.args.question.masks.now e (λ base given.
    let x = c.variables-all.result in
    let t = c.assignments.trues in
    let f = c.without.result in
    none_left x t f c.variables-all.type_inv c.without.ensures (λ a. T (clauses a base))
    (c.assignments.invariant.1 base given)
    (not_here _ _ base x t f c.serves.ensures.0 c.without.ensures c.variables-all.ensures.all c.serves.ensures.1 (search rules) given)
    c.in_default.ensures)

pub serves-requires-clause-once : goal.serves-requires-clause-once
serves-requires-clause-once c = one_value c.variables-all.result c.assignments.trues c.without.result c.without.ensures

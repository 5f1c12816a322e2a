use Rattle.std.proofs.Common.{sym, refl, ap, ◌∙◌, subst, arith}
use Rattle.trail.specs.Decisions.{Spells, distinct}
use Rattle.trail.specs.Entries.{entries}
use Rattle.trail.proofs.Deciding.{free_in, spells_push, distinct_push, place}
use Rattle.trail.proofs.trail.Trail.assign.Goals as goal

pub push_reserved-requires : goal.push_reserved-requires
push_reserved-requires c =
    let t = c.args.self.now in
    let free = c.if-is_free.ensures in
    let p = place (entries t) c.args.literal.variable t.once free.0 (free_in _ _ _ t.spelled free.1) in
    omega (arith, t.decisions.ok.0, t.space)

pub invariant_of-self-clause-spelled : goal.invariant_of-self-clause-spelled
invariant_of-self-clause-spelled c =
    let t = c.args.self.now in
    subst (Spells c.with_value-self.result) (sym c.push_reserved.ensures.items)
    (spells_push t.assigned c.with_value-self.result (entries t) _ t.spelled c.with_value-self.ensures)

pub invariant_of-self-clause-once : goal.invariant_of-self-clause-once
invariant_of-self-clause-once c =
    let t = c.args.self.now in
    ap distinct c.push_reserved.ensures.items ∙ distinct_push (entries t) _ t.once (free_in _ _ _ t.spelled c.if-is_free.ensures.1)

pub returns-then-is_free-clause-assigned : goal.returns-then-is_free-clause-assigned
returns-then-is_free-clause-assigned c =
    let free = c.if-is_free.ensures in
    record {
      taken = λ h f. record { made = _; variable = refl; value = refl; forcing = refl; is = c.push_reserved.ensures.items };
      left = λ n. absurd (n (free.0, free_in _ _ _ c.args.self.now.spelled free.1));
    }

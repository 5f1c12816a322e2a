use Rattle.std.proofs.Common.{◌<◌, length, take, sym, refl, ap, ◌∙◌, arith}
use Rattle.trail.specs.Decisions.{has, Spells, distinct}
use Rattle.trail.specs.Entries.{entries}
use Rattle.trail.proofs.Deciding.{changed, spells_all, free_in, spells_push, distinct_push, distinct_take}
use Rattle.trail.proofs.trail.Trail.change.Goals as goal

pub invariant_of-self : goal.invariant_of-self
invariant_of-self c =
    let ds = entries c.args.self.now in
    let free = c.if-is_free.ensures in
    let w : c.args.at < length ds = omega (arith, c.if-at-len.false, c.len.ensures, c.args.self.now.decisions.ok.0) in
    let kept : Spells c.spelled-before.result (take c.args.at ds) = spells_all _ _ (cc) in
    let is = changed ds _ c.args.at _ w c.truncate.ensures.items in
    record {
      spelled = λ j b. spells_push c.spelled-before.result c.with_value-self.result (take c.args.at ds) _ kept c.with_value-self.ensures j b ∙ ap (λ xs. has xs j b) (sym is);
      once = ap distinct is ∙ distinct_push (take c.args.at ds) _ (distinct_take ds c.args.at c.args.self.now.once) (free_in _ _ _ kept free.1);
      space = omega (arith, c.args.self.now.space, c.truncate.ensures.capacity);
    }

pub returns-then-is_free-clause-entries : goal.returns-then-is_free-clause-entries
returns-then-is_free-clause-entries c =
    let ds = entries c.args.self.now in
    let free = c.if-is_free.ensures in
    let w : c.args.at < length ds = omega (arith, c.if-at-len.false, c.len.ensures, c.args.self.now.decisions.ok.0) in
    let kept : Spells c.spelled-before.result (take c.args.at ds) = spells_all _ _ (cc) in
    record {
      taken = λ l h f. record { made = _; variable = refl; value = refl; forcing = refl; is = changed ds _ c.args.at _ w c.truncate.ensures.items };
      left = λ n. absurd (n (w, free.0, free_in _ _ _ kept free.1));
    }

pub returns-else-is_free-clause-entries : goal.returns-else-is_free-clause-entries
returns-else-is_free-clause-entries c =
    let kept : Spells c.spelled-before.result (take c.args.at (entries c.args.self.now)) = spells_all _ _ (cc) in
    record { taken = λ l h f. absurd (c.if-is_free.ensures (h, λ b. kept c.args.literal.variable b ∙ f b)); left = λ n. refl }

pub returns-else-is_free-clause-done : goal.returns-else-is_free-clause-done
returns-else-is_free-clause-done c =
    let kept : Spells c.spelled-before.result (take c.args.at (entries c.args.self.now)) = spells_all _ _ (cc) in
    λ w l f. absurd (c.if-is_free.ensures (l, λ b. kept c.args.literal.variable b ∙ f b))

pub returns-then-is_free-clause-left : goal.returns-then-is_free-clause-left
returns-then-is_free-clause-left c =
    let ds = entries c.args.self.now in
    let free = c.if-is_free.ensures in
    let w : c.args.at < length ds = omega (arith, c.if-at-len.false, c.len.ensures, c.args.self.now.decisions.ok.0) in
    let kept : Spells c.spelled-before.result (take c.args.at ds) = spells_all _ _ (cc) in
    λ n. absurd (n (w, free.0, free_in _ _ _ kept free.1))

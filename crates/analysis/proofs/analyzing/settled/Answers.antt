use Rattle.std.proofs.Common.{◌≡◌, ◌⊎◌, true, false, take, reverse, sym, ap, ◌∙◌, subst, inl, inr}
use lib.Bits.{bit_or}
use Rattle.analysis.specs.Conflicts.{is_choice, before_choice, Covers}
use Rattle.analysis.proofs.Settling.{no_choice, covers_more, settled_more, latest_first}
use Rattle.analysis.proofs.analyzing.settled.Goals as goal
use Rattle.analysis.proofs.analyzing.settled.Goals.{in-Chosen, in_default, then-matches, else-matches}

pub loop-decision-preserved : goal.loop-decision-preserved
loop-decision-preserved c =
    let ds = c.args.decisions.now in
    let i = c.loop-decision.decision-index in
    let d = c.decision-item.result in
    let so_far = reverse (take i ds) in
    let next = latest_first ds i d c.loop-decision-test.true c.decision-item.is in
    let choice : is_choice d.forcing ≡ c.match-matches.matches = elim c.match-matches.branch [
      | in-Chosen w ↦ ap is_choice w.in-Chosen.is ∙ sym w.matches-is
      | in_default w ↦ no_choice d.forcing w.in_default.not-Chosen ∙ sym w.matches-is
    ] in
    let taken : ((is_choice d.forcing ≡ true) × (c.if-matches.before ≡ c.loop-decision.known)) ⊎ ((is_choice d.forcing ≡ false) × (c.if-matches.before ≡ c.loop-decision.before)) = elim c.if-matches.branch [
      | then-matches w ↦ inl (choice ∙ w.if-matches.true, w.before-is)
      | else-matches w ↦ inr (choice ∙ w.if-matches.false, w.before-is)
    ] in record {
      known = subst (λ es. Covers es (bit_or c.loop-decision.known c.set_of-known.result)) (sym next) (covers_more so_far d c.loop-decision.known c.set_of-known.result c.set_of-known.ensures c.loop-decision.invariant.known);
      before = subst (λ es. Covers (before_choice es) c.if-matches.before) (sym next)
          (settled_more so_far d c.loop-decision.known c.loop-decision.before c.if-matches.before c.loop-decision.invariant.known c.loop-decision.invariant.before taken);
    }

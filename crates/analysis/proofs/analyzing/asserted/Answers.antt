use Rattle.std.proofs.Common.{sym, ap, ◌∙◌, subst, inl, inr}
use Rattle.std.specs.Bool.{then_some}
use Rattle.analysis.specs.Conflicts.{Asserts, Lands}
use Rattle.analysis.proofs.Resolving.{asserts_itself, asserts_earlier, needed_bit}
use Rattle.analysis.proofs.analyzing.asserted.Goals as goal
use Rattle.analysis.proofs.analyzing.asserted.Goals.{then-without-eq0, else-without-eq0, in-Chosen, in_default}

pub returns : goal.returns
returns c =
    let ds = c.args.decisions.now in
    let at = c.args.at in
    let d = c.index-decisions-at.result in
    let needed = c.without-needed.result in
    let lands : Lands ds at needed c.if-without-eq0.earlier = elim c.if-without-eq0.branch [
      | then-without-eq0 w ↦ subst (Lands ds at needed) (sym w.earlier-is) w.landing-earlier.ensures
      | else-without-eq0 w ↦ subst (Lands ds at needed) (sym w.earlier-is) tt
    ] in
    let itself : Asserts ds at c.args.clause c.then_some.result =
    asserts_itself ds at d c.requires.within c.index-decisions-at.is c.requires.once c.args.clause c.then_some.result
    (elim c.match-matches.branch [
      | in-Chosen w ↦ inl (w.in-Chosen.is, c.then_some.ensures ∙ ap (λ b. then_some b at) w.matches-is)
      | in_default w ↦ inr (w.in_default.not-Chosen, c.then_some.ensures ∙ ap (λ b. then_some b at) w.matches-is)
    ]) in
    subst (Asserts ds at c.args.clause) (sym c.or.ensures)
    (asserts_earlier ds at d c.requires.within c.index-decisions-at.is c.requires.once c.args.clause needed c.if-without-eq0.earlier c.then_some.result
    (λ j b t n. needed_bit c.args.clause c.variables.result needed c.set_of.result d.variable j b d.small c.set_of.ensures c.variables.ensures c.without-needed.ensures t n) lands itself)

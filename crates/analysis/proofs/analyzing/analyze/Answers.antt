use Rattle.std.proofs.Common.{◌≡◌, ◌<◌, [], length, take, not, sym, ap, ◌∙◌, subst, arith}
use Rattle.std.proofs.lemmas.List.{take-take, get_or_default, nil_from_length}
use Rattle.trail.specs.Decisions.{distinct, Free}
use Rattle.trail.specs.Reasons.{Refuted, Forces}
use Rattle.trail.specs.declared.decision.Decision.{Decision}
use Rattle.trail.specs.declared.decision.Forcing.TheVariants.{Chosen}
use Rattle.trail.proofs.Deciding.{free_take}
use Rattle.masks.proofs.Sets.{unmentioned}
use Rattle.analysis.proofs.Resolving.{fresh, passed, reduce_refuted, reduce_implied, empty_hopeless}
use Rattle.analysis.proofs.Walking.{to_come, turn}
use Rattle.analysis.proofs.analyzing.analyze.Goals as goal

pub loop-at-preserved : goal.loop-at-preserved
loop-at-preserved c =
    let ds = c.decisions-decisions.result.now in
    let d = c.in-Some.decision.now in
    let k = c.in-Some.at in
    let clause = c.loop-at.clause in
    let known = c.loop-at.invariant in
    let steps = c.in-Some.ensures.steps in
    let once = ap distinct c.decisions-decisions.ensures ∙ c.args.trail.now.once in
    let t = turn ds c.loop-at.at-iterator c.next.new.self k d known.back steps.0 steps.1.0 steps.1.1 in
    let f = unmentioned clause d.variable c.mentions.result d.small c.mentions.ensures c.if-mentions.false in record {
      back = t.goes_on;
      learned = λ base refutes sound implied.
          let r = known.learned base refutes sound implied in
          (r.0, subst (Refuted clause) (sym t.before) (passed ds k d t.within t.is once clause f (subst (Refuted clause) t.here r.1)));
    }

pub loop-at-preserved-then-mentions : goal.loop-at-preserved-then-mentions
loop-at-preserved-then-mentions c =
    let ds = c.decisions-decisions.result.now in
    let d = c.in-Some.decision.now in
    let k = c.in-Some.at in
    let clause = c.loop-at.clause in
    let known = c.loop-at.invariant in
    let steps = c.in-Some.ensures.steps in
    let once = ap distinct c.decisions-decisions.ensures ∙ c.args.trail.now.once in
    let t = turn ds c.loop-at.at-iterator c.next.new.self k d known.back steps.0 steps.1.0 steps.1.1 in
    let f = c.reduced-clause.ensures in
    let n : d.forcing ≡ Chosen → ⊥ = λ q. c.in_default.ensures (λ e. ap (λ (x : Decision). x.forcing) (sym (t.is ∙ get_or_default ds k d e t.within)) ∙ q) in record {
      back = t.goes_on;
      learned = λ base refutes sound implied.
          let r = known.learned base refutes sound implied in
          let refuted = subst (Refuted clause) t.here r.1 in (
            reduce_implied base ds k d t.within t.is clause c.reduced-clause.result once f sound n refuted r.0,
            subst (Refuted c.reduced-clause.result) (sym t.before) (reduce_refuted base ds k d t.within t.is clause c.reduced-clause.result once f sound refuted),
          );
    }

pub returns-in-Some-asserted : goal.returns-in-Some-asserted
returns-in-Some-asserted c =
    let ds = c.decisions-decisions.result.now in
    let d = c.in-Some.decision.now in
    let k = c.in-Some.at in
    let to = c.in-Some-asserted.to in
    let clause = c.loop-at.clause in
    let known = c.loop-at.invariant in
    let steps = c.in-Some.ensures.steps in
    let once = ap distinct c.decisions-decisions.ensures ∙ c.args.trail.now.once in
    let t = turn ds c.loop-at.at-iterator c.next.new.self k d known.back steps.0 steps.1.0 steps.1.1 in
    let found = c.in-Some-asserted.ensures in
    let l : to < length ds = omega (arith, found.0, t.within) in
    let free : Free (take to ds) d.variable = subst (λ xs. Free xs d.variable) (take-take to k ds found.0) (free_take (take k ds) to d.variable (fresh ds k d t.within t.is once)) in
    rw (← c.decisions-decisions.ensures) (
      l,
      d.small,
      free,
      found.1,
      λ base refutes sound implied.
          let r = known.learned base refutes sound implied in
          (r.0, subst (λ (x : Decision). Forces clause (take to ds) x.variable (not x.value)) (sym t.is) (found.2 d (subst (Refuted clause) t.here r.1))),
    )

pub returns : goal.returns
returns c =
    rw (← c.decisions-decisions.ensures) (λ base refutes sound implied.
    let r = c.loop-at.invariant.learned base refutes sound implied in
    let z : to_come c.loop-at.at-iterator ≡ [] = nil_from_length _ c.in-None.ensures.steps.1.0 in
    empty_hopeless base c.loop-at.clause (subst (Refuted c.loop-at.clause) z r.1) r.0)

use Rattle.std.proofs.Common.{rules, sym, ◌∙◌, subst}
use Rattle.lists.specs.Lists.{clauses_of}
use Rattle.questions.specs.Questions.{InitialAgainst}
use Rattle.questions.proofs.Whole.{whole}
use Rattle.work.specs.Opening.{BrokenAtStart}
use Rattle.work.proofs.Starting.{Asking, asked_all, asking_on, asking_broken}
use Rattle.work.proofs.opening.broken_at_start.Goals as goal
use Rattle.work.proofs.opening.broken_at_start.Goals.{in-None, in-Some+then-is_some}

pub clauses-preserved : goal.clauses-preserved
clauses-preserved g c =
    let i = c.clauses.invariant in
    let system = c.args.case.now in
    let asking = subst (Asking system) c.in-Some.ensures.steps i.asking in
    let on = asking_on system c.relays.ensures.admitted c.in-Some.clause.now (clauses_of c.next.new.self) asking c.initial_against-broken.result (whole (λ d. InitialAgainst system d c.initial_against-broken.result) _ _ (c.initial_against-broken.ensures.answer i.held)) (sym c.is_some.ensures ∙ c.if-is_some.false) in
    record {
      can = search rules;
      finite = search rules;
      capacity = c.initial_against-broken.ensures.capacity ∙ i.capacity;
      held = c.initial_against-broken.ensures.held ∙ i.held;
      none = on.0;
      asking = on.1;
    }

pub returns-clause-broken : goal.returns-clause-broken
returns-clause-broken g c =
    let i = c.clauses.invariant in
    let system = c.args.case.now in
    elim c.match-next.branch [
      | in-None w ↦ subst (BrokenAtStart system) (sym (w.broken-is ∙ i.none)) (asked_all system (subst (Asking system) w.in-None.ensures.steps.0 i.asking))
      | in-Some+then-is_some w ↦ (
          let asking = subst (Asking system) w.in-Some.ensures.steps i.asking in
          let broken = asking_broken system c.relays.ensures.admitted w.in-Some.clause.now (clauses_of c.next.new.self) asking w.initial_against-broken.result (whole (λ d. InitialAgainst system d w.initial_against-broken.result) _ _ (w.initial_against-broken.ensures.answer i.held)) (sym w.is_some.ensures ∙ w.if-is_some.true) in
          subst (BrokenAtStart system) (sym w.broken-is) broken)
    ]

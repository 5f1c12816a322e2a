use Rattle.std.proofs.Common.{subst}
use Rattle.std.proofs.lemmas.Result.{MatchResult-from_err}
use Rattle.masks.specs.Questions.{AllMet, AllKept}
use Rattle.masks.specs.declared.mask.ClauseMask.{ClauseMask}
use Rattle.masks.proofs.Asked.{among_implied}
use Rattle.trail.specs.Entries.{entries}
use Rattle.search.proofs.Lasting.{lasts_jumped}
use Rattle.search.proofs.Stepping.{spells_of, all_false, refuted_of}
use Rattle.search.proofs.search.Search.decide.Goals as goal

pub returns-then-unknown-ne0-clause-keeps : goal.returns-then-unknown-ne0-clause-keeps
returns-then-unknown-ne0-clause-keeps c base given up = c.choose.ensures.keeps base tt up

pub returns-in_default-clause-cases : goal.returns-in_default-clause-cases
returns-in_default-clause-cases c =
    let q = c.args.question in
    subst (λ (s : ClauseMask). AllMet q.masks.now s × AllKept q.assumed.now s) c.assigned-assigned.ensures c.in_default.ensures

pub learn-requires : goal.learn-requires
learn-requires c =
    let t = c.args.self.now.trail in
    let s = c.assigned-assigned.result in
    let m = c.in-Some.clause in
    refuted_of m s (entries t) (spells_of t s c.assigned-assigned.ensures)
    (all_false m s c.args.occurring c.without-unknown.result c.variables.result
    c.in-Some.ensures.1 (c.requires m c.in-Some.ensures.0) c.variables.ensures c.without-unknown.ensures c.if-unknown-ne0.false)

pub returns-in_err-learn-clause-keeps : goal.returns-in_err-learn-clause-keeps
returns-in_err-learn-clause-keeps c base given =
    let q = c.args.question in
    c.learn.ensures.keeps base (among_implied base q.masks.now q.assumed.now c.in-Some.clause given c.in-Some.ensures.0)

pub returns-in_err-learn-clause-cases : goal.returns-in_err-learn-clause-cases
returns-in_err-learn-clause-cases c =
    let q = c.args.question in
    MatchResult-from_err c.from_residual.result _ _ c.from_residual.ensures.0
    (λ x base given. c.in_err-learn.ensures.cases base (among_implied base q.masks.now q.assumed.now c.in-Some.clause given c.in-Some.ensures.0))

pub returns-clause-lasts : goal.returns-clause-lasts
returns-clause-lasts c = lasts_jumped (entries c.args.self.now.trail) (entries c.learn.new.self.trail) c.in_ok-learn.ensures.jumped

pub returns-clause-keeps : goal.returns-clause-keeps
returns-clause-keeps c base given =
    let q = c.args.question in
    c.learn.ensures.keeps base (among_implied base q.masks.now q.assumed.now c.in-Some.clause given c.in-Some.ensures.0)

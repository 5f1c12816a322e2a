use Rattle.std.proofs.Common.{◌∙◌, Some, None, Ok, Err, refl, ap, subst, suc}
use Rattle.std.proofs.lemmas.Result.{err_from_is_err_and}
use Rattle.histories.specs.Calls.{Progress, Stage, decided, Turned}
use Rattle.histories.specs.Promises.{turns_none, turns_more}
use Rattle.work.proofs.Ended.{turn_nearer, judged, undecided, ended}
use Rattle.work.proofs.judging.judge.Goals as goal

pub returns-in_err-work-clause-judged : goal.returns-in_err-work-clause-judged
returns-in_err-work-clause-judged g c =
    let p = err_from_is_err_and c.from_residual.result c.from_residual.ensures.1 in
    let f = c.in_err-work.field-0.0 in
    rw (p.1 ∙ ap Err p.2) (c.in_err-work.ensures.opened, refl)

pub loop-work-init : goal.loop-work-init
loop-work-init g c = record { capacity = c.open.ensures.capacity; turning = record { accepted = 0; turns = turns_none } }

pub returns-in-Err-clause-judged : goal.returns-in-Err-clause-judged
returns-in-Err-clause-judged g c =
    let u = undecided c.is_decided.result (decided c.loop-work.work.verdict) (c.is_decided.ensures ∙ ap (λ (w : Progress). decided w.verdict) c.work.view_is) c.loop-work-test.true in
    let last : Stage = record { work = c.loop-work.work; book = c.loop-work.book; held = g.S.Solver.held c.loop-work.solver } in
    let next : Stage = record { work = c.turn.new.self; book = c.turn.new.book; held = g.S.Solver.held c.turn.new.solver } in
    let turned = subst (λ room. Turned room last (Err c.in-Err.fault) next) c.loop-work.invariant.capacity c.in-Err.ensures.turned in
    judged (g.S.Solver.capacity c.args.solver.now) c.args.bytes.now c.type_inv.bytes c.args.book.now (g.S.Solver.held c.args.solver.now) (g.S.Solver.held c.open.new.solver) c.in_ok-work.work
    c.in_ok-work.ensures.opened last c.loop-work.invariant.turning (Some c.in-Err.fault) next (u, turned) c.close.result c.close.ensures.kept

pub loop-work-smaller : goal.loop-work-smaller
loop-work-smaller g c =
    let u = undecided c.is_decided.result (decided c.loop-work.work.verdict) (c.is_decided.ensures ∙ ap (λ (w : Progress). decided w.verdict) c.work.view_is) c.loop-work-test.true in
    let last : Stage = record { work = c.loop-work.work; book = c.loop-work.book; held = g.S.Solver.held c.loop-work.solver } in
    let next : Stage = record { work = c.turn.new.self; book = c.turn.new.book; held = g.S.Solver.held c.turn.new.solver } in
    turn_nearer (g.S.Solver.capacity c.loop-work.solver) last next u c.in_default.ensures.turned

pub loop-work-preserved : goal.loop-work-preserved
loop-work-preserved g c =
    let last : Stage = record { work = c.loop-work.work; book = c.loop-work.book; held = g.S.Solver.held c.loop-work.solver } in
    let next : Stage = record { work = c.turn.new.self; book = c.turn.new.book; held = g.S.Solver.held c.turn.new.solver } in
    let i = c.loop-work.invariant in
    record {
      capacity = c.turn.ensures.capacity ∙ i.capacity;
      turning = record { accepted = suc i.turning.accepted; turns = turns_more i.turning.turns next (subst (λ room. Turned room last (Ok tt) next) i.capacity c.in_default.ensures.turned) };
    }

pub returns-clause-judged : goal.returns-clause-judged
returns-clause-judged g c =
    let u = ended c.is_decided.result (decided c.loop-work.work.verdict) (c.is_decided.ensures ∙ ap (λ (w : Progress). decided w.verdict) c.work.view_is) c.loop-work-test.false in
    let last : Stage = record { work = c.loop-work.work; book = c.loop-work.book; held = g.S.Solver.held c.loop-work.solver } in
    judged (g.S.Solver.capacity c.args.solver.now) c.args.bytes.now c.type_inv.bytes c.args.book.now (g.S.Solver.held c.args.solver.now) (g.S.Solver.held c.open.new.solver) c.in_ok-work.work
    c.in_ok-work.ensures.opened last c.loop-work.invariant.turning None last (u, refl) c.close-2.result c.close-2.ensures.kept

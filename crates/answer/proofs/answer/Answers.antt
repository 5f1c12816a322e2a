use Rattle.std.proofs.Common.{rules, ◌≡◌, ◌≢◌, take, string_bytes}
use Rattle.std.proofs.lemmas.Result.{IfOk-weaker}
use Rattle.faults.specs.Refusals.{work_refusal}
use Rattle.faults.specs.declared.case.CaseFault.TheVariants.{NoMemory}
use Rattle.faults.specs.declared.work.WorkFault.TheVariants.{InCase}
use Rattle.layout.specs.Reading.{read_case}
use Rattle.histories.specs.Calls.{Stage}
use Rattle.report.specs.Lines.{refusal_line, judged_lines}
use Rattle.answer.specs.Answer.{look_of, AnswerTo}
use Rattle.answer.proofs.Answered.{judged_answer, refused_answer}
use Rattle.answer.proofs.answer.Goals as goal

pub returns-in-Ok : goal.returns-in-Ok
returns-in-Ok c =
    let bs = c.args.bytes.now in
    let j = c.in-Ok.judged in
    let book = c.judge.new.book in
    let made = c.in_ok-solver.solver.storage in
    let ended : Stage = record { work = j.closed; book = book; held = c.judge.new.solver.storage.held } in
    IfOk-weaker c.tell.result (λ t. string_bytes t ≡ judged_lines j.refused j.closed.system (look_of j.closed) (take j.closed.used book)) (λ t. AnswerTo bs (read_case bs) (string_bytes t))
    (λ t e. judged_answer bs c.type_inv.bytes (string_bytes t) made.capacity c.blank-book.result made.held j.refused ended (search rules) c.blank-book.ensures (search rules) e (search rules) c.in-Ok.ensures.judged.0 c.in-Ok.ensures.judged.1)
    c.tell.ensures

pub returns : goal.returns
returns c =
    let bs = c.args.bytes.now in
    IfOk-weaker c.refused.result (λ t. (c.in-Err.fault ≢ InCase NoMemory) × (string_bytes t ≡ refusal_line (work_refusal c.in-Err.fault))) (λ t. AnswerTo bs (read_case bs) (string_bytes t))
    (λ t e. refused_answer bs c.type_inv.bytes (string_bytes t) c.in-Err.fault _ _ _ (search rules) c.in-Err.ensures.judged.0 e.0 e.1)
    c.refused.ensures

use Rattle.std.proofs.Common.{Ok, Err, vec_items, Result, sym, ap, ◌∙◌, inl, inr}
use Rattle.std.proofs.lemmas.Result.{err_from_is_err_and}
use Rattle.system.specs.Systems.{System}
use Rattle.faults.specs.declared.case.CaseFault.{CaseFault}
use Rattle.faults.proofs.Firsts.{unless_err, unless_ok}
use Rattle.layout.specs.Reading.{case_fault, system_in}
use Rattle.layout.proofs.Law.{none_accepted, none_read, fault_read}
use Rattle.cases.specs.Meaning.{Read}
use Rattle.cases.proofs.Promises.{read_law}
use Rattle.cases.proofs.case.Case.read.Goals as goal

pub returns-in_err-check_case-clause-value : goal.returns-in_err-check_case-clause-value
returns-in_err-check_case-clause-value c =
    let p = err_from_is_err_and c.from_residual.result c.from_residual.ensures.1 in
    let f = unless_err (case_fault c.args.bytes.now) tt c.in_err-check_case.field-0.0 c.in_err-check_case.ensures.value in
    inl (p.1 ∙ ap Err p.2 ∙ sym (fault_read _ _ f))

pub returns-in_err-kept-clause-value : goal.returns-in_err-kept-clause-value
returns-in_err-kept-clause-value c =
    let p = err_from_is_err_and c.from_residual-in_err-kept.result c.from_residual-in_err-kept.ensures.1 in
    let n = unless_ok (case_fault c.args.bytes.now) tt tt c.in_ok-check_case.ensures.value in
    inr (p.1 ∙ ap Err p.2, none_accepted c.args.bytes.now n)

pub returns : goal.returns
returns c =
    let bs = c.args.bytes.now in
    let r : Result System CaseFault = Ok (system_in (vec_items c.in_ok-kept.kept)) in
    let n = unless_ok (case_fault bs) tt tt c.in_ok-check_case.ensures.value in
    let v : Read bs r = inl (ap (λ xs. Ok (system_in xs)) c.in_ok-kept.ensures.items ∙ sym (none_read bs n)) in
    record { value = v; law = read_law bs c.type_inv.bytes r v }

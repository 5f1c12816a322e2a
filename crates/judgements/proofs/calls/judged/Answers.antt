use Rattle.std.proofs.Common.{rules, ◌≡◌, true, refl, ap, ◌∙◌, inl, inr, Ok, Err, Result, is_ok, IfOk, MatchResult}
use Rattle.std.proofs.lemmas.Result.{err_from_is_err_and}
use Rattle.faults.specs.declared.case.CaseFault.{CaseFault}
use Rattle.faults.specs.declared.case.CaseFault.TheVariants.{NoMemory}
use Rattle.faults.specs.declared.work.WorkFault.TheVariants.{InCase}
use Rattle.faults.proofs.Firsts.{unless_ok, unless_err}
use Rattle.layout.specs.Reading.{case_fault}
use Rattle.judgements.proofs.Judgements.{case_refused, places_refused, none_refused, refused_memory, told_judgement}
use Rattle.judgements.proofs.calls.judged.Goals as goal

pub returns-in_err-check_case : goal.returns-in_err-check_case
returns-in_err-check_case c =
    let p = err_from_is_err_and c.from_residual.result c.from_residual.ensures.1 in
    let f = c.in_err-check_case.field-0.0 in
    rw (p.1 ∙ ap Err p.2) (inl (case_refused c.args.bytes.now c.args.places f (unless_err (case_fault c.args.bytes.now) tt f c.in_err-check_case.ensures.value)))

pub returns-then-places-gt-MOST_PLACES : goal.returns-then-places-gt-MOST_PLACES
returns-then-places-gt-MOST_PLACES c =
    let sound = unless_ok (case_fault c.args.bytes.now) tt tt c.in_ok-check_case.ensures.value in
    inl (places_refused c.args.bytes.now c.args.places sound c.if-places-gt-MOST_PLACES.true)

pub returns-in_err-map_err : goal.returns-in_err-map_err
returns-in_err-map_err c =
    let sound = unless_ok (case_fault c.args.bytes.now) tt tt c.in_ok-check_case.ensures.value in
    let p = err_from_is_err_and c.from_residual-in_err-map_err.result c.from_residual-in_err-map_err.ensures.1 in
    let memory : p.0 ≡ InCase NoMemory = search rules in
    rw (p.1 ∙ ap Err memory) (inr (refl, none_refused c.args.bytes.now c.args.places sound c.if-places-gt-MOST_PLACES.false))

pub returns-in_err-book : goal.returns-in_err-book
returns-in_err-book c =
    let sound = unless_ok (case_fault c.args.bytes.now) tt tt c.in_ok-check_case.ensures.value in
    let p = err_from_is_err_and c.from_residual-in_err-book.result c.from_residual-in_err-book.ensures.1 in
    rw (p.1 ∙ ap Err (p.2 ∙ c.in_err-book.ensures.scarce)) (inr (refl, none_refused c.args.bytes.now c.args.places sound c.if-places-gt-MOST_PLACES.false))

pub returns-in_err-closed : goal.returns-in_err-closed
returns-in_err-closed c =
    let sound = unless_ok (case_fault c.args.bytes.now) tt tt c.in_ok-check_case.ensures.value in
    let p = err_from_is_err_and c.from_residual-in_err-closed.result c.from_residual-in_err-closed.ensures.1 in
    let few = c.if-places-gt-MOST_PLACES.false in
    let memory = refused_memory _ c.args.bytes.now _ _ _ c.in_err-closed.field-0.0 c.in_err-closed.ensures.judged.0 (search rules) c.args.places (c.deref_mut.ensures.len ∙ c.in_ok-book.ensures.size) c.type_inv.bytes sound few in
    rw (p.1 ∙ ap Err (p.2 ∙ memory)) (inr (refl, none_refused c.args.bytes.now c.args.places sound few))

-- what is so of a value is so of it handed on
handed_on : {A E : Type 0} (r : Result A E) (P : A → Type 0) (Q : E → Type 0) (x : A) → true ≡ is_ok r → MatchResult r (λ y. ◌≡◌ {A = Result A CaseFault} (Ok x) (Ok y)) Q → IfOk r P → P x
handed_on (Ok y) P Q x v e p = search rules
handed_on (Err f) P Q x v e p = search rules

pub returns : goal.returns
returns c =
    let sound = unless_ok (case_fault c.args.bytes.now) tt tt c.in_ok-check_case.ensures.value in
    let few = c.if-places-gt-MOST_PLACES.false in
    let made = handed_on c.new.result _ _ c.in_ok-map_err.field-0 c.in_ok-map_err.ensures.variant c.in_ok-map_err.ensures.cases c.new.ensures in
    let told = c.in_ok-closed.ensures.judged in (
      none_refused c.args.bytes.now c.args.places sound few,
      told_judgement _ c.args.bytes.now _ _ _ _ told.0 told.1 (c.new-solver.ensures.capacity ∙ made.1) (c.new-solver.ensures.held ∙ made.0) c.args.places (c.deref_mut.ensures.len ∙ c.in_ok-book.ensures.size) c.new-2.result (search rules) (search rules) (search rules),
    )

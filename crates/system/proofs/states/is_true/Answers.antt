use Rattle.std.proofs.Common.{refl, ◌∙◌, rules, tests}
use Rattle.std.proofs.lemmas.Iterator.{YieldsList-from_slice}
use Rattle.std.proofs.lemmas.Iterator.Search.{any_from_yields_List}
use Rattle.std.proofs.lemmas.List.Recursion.{same_from_clauses}
use Rattle.std.specs.Prelude.{◌||◌}
use Rattle.std.specs.List.{list_any}
use Rattle.system.specs.Literals.{bit, literal, clause}
use Rattle.system.proofs.states.is_true.Goals as goal

pub returns : goal.returns
returns c =
    any_from_yields_List (literal (bit c.args.state)) _ _ _ c.any.ensures.ran (YieldsList-from_slice c.args.literals.now cc) (λ x b q k. search (rules, tests))
    ∙ same_from_clauses (list_any (literal (bit c.args.state))) (clause (bit c.args.state)) (λ l rest. literal (bit c.args.state) l || rest) refl (λ _ _. refl) (λ _ _. refl) c.args.literals.now

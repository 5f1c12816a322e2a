use Rattle.std.proofs.Common.{◌≡◌, ◌^◌, ◌&&◌, refl, ap, ◌∙◌, arith, rules, tests}
use Rattle.std.specs.List.{list_all}
use Rattle.std.proofs.lemmas.Iterator.Consumers.{YieldsList-from_first}
use Rattle.std.proofs.lemmas.Iterator.Search.{all_from_yields_List}
use Rattle.std.proofs.lemmas.List.Recursion.{same_from_clauses}
use Rattle.system.specs.Literals.{bit, clause, clauses}
use Rattle.lists.specs.Lists.{clauses_of}
use Rattle.questions.proofs.Initials.{initial_tests}
use Rattle.questions.proofs.initial.is_initial.Goals as goal

pub returns-then-from-relays : goal.returns-then-from-relays
returns-then-from-relays c =
    initial_tests c.args.case.now c.args.state c.all.result
    (let n : 2 ^ c.relays.result ≡ 2 ^ c.args.case.now.n = ap (λ k. 2 ^ k) c.relays.ensures.value in let f = c.from.ensures in let t = c.if-from-relays.true in omega arith)
    (all_from_yields_List (clause (bit c.args.state)) c.all.new.self _ _ c.all.ensures.ran (YieldsList-from_first (λ x. x.now) clauses_of {s = c.list.result} c.args.case.now.start c.list.ensures.value) (λ x b q k. search (rules, tests))
    ∙ same_from_clauses (list_all (clause (bit c.args.state))) (clauses (bit c.args.state)) (λ d rest. clause (bit c.args.state) d && rest) refl (λ _ _. refl) (λ _ _. refl) c.args.case.now.start)

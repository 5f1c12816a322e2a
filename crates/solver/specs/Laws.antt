-- The laws of answers, and what is answered to the smallest questions.
use Rattle.std.specs.Prelude.{◌≡◌, ℕ, true, ◌↔◌, List, [], ◌∷◌}
use Rattle.system.specs.Literals.{Valuation}
use Rattle.solver.specs.Answers.{Satisfied, Answered, is_yes}
use Rattle.solver.specs.declared.answer.Answer.{Answer}
use Rattle.solver.specs.declared.answer.Answer.TheVariants.{No}

-- it is yes exactly when some valuation makes all held clauses and assumed literals true
abbrev pub YesExactly : Type 0
YesExactly =
    (held : List (List ℕ)) (assumed : List ℕ) (r : Answer) → Answered held assumed r
    → (is_yes r ≡ true) ↔ ((a : Valuation) × Satisfied a held assumed)

-- holding nothing, yes; holding the empty clause, no; assuming 2 and 3, no; holding the clause 0 1, yes
pub record SmallestQuestions : Type 0 where
  pub nothing : (r : Answer) → Answered [] [] r ↔ (is_yes r ≡ true)
  pub empty : (assumed : List ℕ) (r : Answer) → Answered ([] ∷ []) assumed r ↔ (r ≡ No)
  pub opposed : (held : List (List ℕ)) (r : Answer) → Answered held (2 ∷ 3 ∷ []) r ↔ (r ≡ No)
  pub either : (r : Answer) → Answered ((0 ∷ 1 ∷ []) ∷ []) [] r ↔ (is_yes r ≡ true)

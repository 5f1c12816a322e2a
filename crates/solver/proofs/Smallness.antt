-- The laws of answers and the smallest questions. Assumes nothing.
use Rattle.std.proofs.Common.{◌≡◌, ℕ, Bool, true, false, ◌&&◌, ◌||◌, T, ◌↔◌, List, [], ◌∷◌, Some, None, Option, sym, refl, subst, MatchOption}
use mathlib.Core.Bool.{beq}
use Rattle.std.proofs.lemmas.Bool.{true≢false}
use Rattle.system.specs.Literals.{Valuation}
use Rattle.solver.specs.Answers.{model, Satisfied, Answered, is_yes, fits, AloneAnswered}
use Rattle.solver.specs.Laws.{YesExactly, SmallestQuestions}
use Rattle.solver.specs.declared.answer.Answer.{Answer}
use Rattle.solver.specs.declared.answer.Answer.TheVariants.{Yes, No}
use Rattle.solver.specs.declared.capacity.Capacity.{Capacity}

pub yes_exactly : YesExactly
yes_exactly held assumed (Yes low high) answered = ((λ e. (model low high, answered)), λ s. refl)
yes_exactly held assumed No answered = ((λ e. absurd (true≢false (sym e))), λ s. absurd (answered s.0 s.1))

-- a question whose answer is yes whatever the valuation, and one whose answer is no
always : (held : List (List ℕ)) (assumed : List ℕ) → ((a : Valuation) → Satisfied a held assumed) → (r : Answer) → Answered held assumed r ↔ (is_yes r ≡ true)
always held assumed sat (Yes low high) = ((λ s. refl), λ e. sat (model low high))
always held assumed sat No = ((λ f. absurd (f (λ v. true) (sat (λ v. true)))), λ e. absurd (true≢false (sym e)))

never : (held : List (List ℕ)) (assumed : List ℕ) → ((a : Valuation) → Satisfied a held assumed → ⊥) → (r : Answer) → Answered held assumed r ↔ (r ≡ No)
never held assumed unsat (Yes low high) = ((λ s. absurd (unsat (model low high) s)), λ e. absurd (true≢false (yes_no e)))
  where
    yes_no : Yes low high ≡ No → true ≡ false
    yes_no e = subst (λ r. true ≡ is_yes r) e refl
never held assumed unsat No = ((λ f. refl), λ e. unsat)

both_signs : (b : Bool) → T (beq b true && (beq b false && true)) → ⊥
both_signs true t = t
both_signs false t = t

one_sign : (b : Bool) → T ((beq b true || (beq b false || false)) && true)
one_sign true = tt
one_sign false = tt

pub smallest_questions : SmallestQuestions
smallest_questions =
    record {
      nothing = always [] [] (λ a. (tt, tt));
      empty = λ assumed. never ([] ∷ []) assumed (λ a s. s.0);
      opposed = λ held. never held (2 ∷ 3 ∷ []) (λ a s. both_signs (a 1) s.1);
      either = always ((0 ∷ 1 ∷ []) ∷ []) [] (λ a. (one_sign (a 0), tt));
    }

-- the same where just the one clause is held, if it fits
pub either_alone : (capacity : Capacity) (o : Option Answer) → AloneAnswered (0 ∷ 1 ∷ []) capacity o
    → MatchOption o (fits [] (0 ∷ 1 ∷ []) capacity ≡ false) (λ r. (fits [] (0 ∷ 1 ∷ []) capacity ≡ true) × (is_yes r ≡ true))
either_alone capacity None e = e
either_alone capacity (Some r) (e, answered) = (e, (smallest_questions.either r).0 answered)

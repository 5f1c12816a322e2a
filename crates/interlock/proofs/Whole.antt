-- The answer to what is read of the input is the answer to all of it. Assumes nothing.
use Rattle.std.proofs.Common.{◌≡◌, ℕ, ◌<◌, List, [], ◌++◌, take, Some, None, Option, option_map, IfSome, subst, inl, inr}
use Rattle.std.specs.Io.KnownBytes.{Appends}
use Rattle.layout.specs.Reading.{read_case}
use Rattle.layout.proofs.Cut.{read_cut}
use Rattle.answer.specs.Answer.{AnswerTo}
use Rattle.interlock.specs.Program.{Answered}

whole : (k : ℕ) (bs text : List ℕ) → 32768 < k → AnswerTo (take k bs) (read_case (take k bs)) text → AnswerTo bs (read_case bs) text
whole k bs text h a =
    elim (read_cut k bs h) [
      | inl e ↦ subst (λ xs. AnswerTo xs (read_case xs) text) e a
      | inr p ↦ let cut = rw p.1 at a in rw p.2 cut
    ]

pub answered : (k : ℕ) (input before after : Option (List ℕ)) (bs text : List ℕ) → 32768 < k
    → IfSome (option_map (take k) input) (λ xs. bs ≡ [] ++ xs) → AnswerTo bs (read_case bs) text → Appends before after text → Answered input before after
answered k None before after bs text h e a w = (bs, text, a, w)
answered k (Some all) before after bs text h e a w = (text, whole k all text h (subst (λ xs. AnswerTo xs (read_case xs) text) e a), w)

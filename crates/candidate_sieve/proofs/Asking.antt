-- The marked clauses of a list, asked about one after another. Assumes nothing.
use Rattle.std.proofs.Common.{◌≡◌, ℕ, T, ◌⊎◌, List, [], length, None, sym, subst}
use Rattle.std.specs.List.{AllByRecursion}
use Rattle.system.specs.Literals.{Valuation, clauses}
use Rattle.system.specs.Preserving.{after}
use Rattle.candidate_sieve.specs.Candidates.{Formed, chosen}
use Rattle.candidate_sieve.specs.Questions.{Found}
use Rattle.candidate_sieve.proofs.Adding.{chosen_over}

-- the marked ones of what is left are among all of them, and all are preserved where those are
pub record Asking (held all : List (List ℕ)) (M : List ℕ) (cs : List (List ℕ)) : Type 0 where
  pub formed : AllByRecursion Formed cs
  pub left : (b : Valuation) → T (clauses b all) → T (clauses b (chosen M cs))
  pub passed : (a : Valuation) → T (clauses a held) → T (clauses (after a) (chosen M cs)) → T (clauses (after a) all)

module _ (held all : List (List ℕ)) where
  pub asking_end : (M : List ℕ) (cs : List (List ℕ)) → Asking held all M cs → (cs ≡ []) ⊎ (length M ≡ 0) → Found held all None
  asking_end M cs k h a t = k.passed a t (subst (λ ds. T (clauses (after a) ds)) (sym (chosen_over M cs h)) tt)

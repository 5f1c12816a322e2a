-- The marked ones of a list, added one after another. Assumes nothing.
use Rattle.std.proofs.Common.{◌≡◌, ℕ, ◌+◌, ◌≤◌, ◌⊎◌, List, [], ◌∷◌, ◌++◌, length, sym, refl, ap, ◌∙◌, subst, inl, inr, arith, append_assoc}
use Rattle.std.proofs.lemmas.List.{append-nil, length-append}
use Rattle.system.specs.Literals.{size}
use Rattle.system.proofs.Sizes.{size_append}
use Rattle.solver.specs.declared.capacity.Capacity.{Capacity}
use Rattle.candidate_sieve.specs.Candidates.{chosen}

-- the first one, and those after it
pub chosen_first : (x : ℕ) (M : List ℕ) (c : List ℕ) (cs : List (List ℕ)) → chosen (x ∷ M) (c ∷ cs) ≡ chosen (x ∷ []) (c ∷ []) ++ chosen M cs
chosen_first x M c cs = grind arith

pub chosen_over : (M : List ℕ) (cs : List (List ℕ)) → (cs ≡ []) ⊎ (length M ≡ 0) → chosen M cs ≡ []
chosen_over [] cs h = refl
chosen_over (x ∷ M) [] h = refl
chosen_over (x ∷ M) (c ∷ cs) (inl e) = absurd (let z = ap length e in let w : ⊥ = omega arith in w)
chosen_over (x ∷ M) (c ∷ cs) (inr e) = absurd (let w : ⊥ = omega arith in w)

one_length : (x : ℕ) (c : List ℕ) → length (chosen (x ∷ []) (c ∷ [])) ≤ 1
one_length x c = grind arith

one_size : (x : ℕ) (c : List ℕ) → size (chosen (x ∷ []) (c ∷ [])) ≤ length c
one_size x c = grind arith

-- what is held, followed by the marked ones of what is left, is all that is to be held, and there is room for what is left
pub record Adding (capacity : Capacity) (all held : List (List ℕ)) (M : List ℕ) (cs : List (List ℕ)) : Type 0 where
  pub together : held ++ chosen M cs ≡ all
  pub clauses : length held + length cs ≤ capacity.clauses
  pub literals : size held + size cs ≤ capacity.literals

module _ (capacity : Capacity) (all held : List (List ℕ)) where
  module _ (x : ℕ) (M : List ℕ) (c : List ℕ) (cs : List (List ℕ)) (a : Adding capacity all held (x ∷ M) (c ∷ cs)) where
    pub adding_on : Adding capacity all (held ++ chosen (x ∷ []) (c ∷ [])) M cs
    adding_on = record {
      together = append_assoc held (chosen (x ∷ []) (c ∷ [])) (chosen M cs) ∙ ap (λ ds. held ++ ds) (sym (chosen_first x M c cs)) ∙ a.together;
      clauses = let n = length-append held (chosen (x ∷ []) (c ∷ [])) in let l = one_length x c in let k = a.clauses in omega arith;
      literals = let n = size_append held (chosen (x ∷ []) (c ∷ [])) in let l = one_size x c in let k = a.literals in omega arith;
    }

    pub adding_added : (now : List (List ℕ)) → now ≡ held ++ chosen (x ∷ []) (c ∷ []) → Adding capacity all now M cs
    adding_added now e = subst (λ ds. Adding capacity all ds M cs) (sym e) adding_on

  pub adding_end : (M : List ℕ) (cs : List (List ℕ)) → Adding capacity all held M cs → (cs ≡ []) ⊎ (length M ≡ 0) → held ≡ all
  adding_end M cs a h = sym (append-nil held) ∙ ap (λ ds. held ++ ds) (sym (chosen_over M cs h)) ∙ a.together

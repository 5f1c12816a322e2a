-- The safety clauses asked one after another whether an initial state makes one false. Assumes nothing.
use Rattle.std.proofs.Common.{true≢false, is_some, ◌≡◌, ℕ, Bool, true, false, not, ◌&&◌, T, List, [], ◌∷◌, Some, None, Option, refl, sym, ap, ◌∙◌, subst, le_trans}
use Rattle.std.specs.List.{AllByRecursion}
use Rattle.system.specs.Literals.{bit, clause, clauses}
use Rattle.system.specs.Systems.{System, Initial, OverRelays, Rising}
use Rattle.system.proofs.Truth.{T_true, T_false}
use Rattle.layout.specs.Spelling.{Admitted}
use Rattle.system.proofs.Sizes.{rising_length}
use Rattle.questions.specs.Questions.{InitialAgainst}
use Rattle.questions.proofs.Whole.{Narrow}
use Rattle.work.specs.Opening.{BrokenAtStart}

-- the clauses not asked yet: in an initial state all safety clauses are true where these are
pub record Asking (c : System) (rest : List (List ℕ)) : Type 0 where
  pub formed : AllByRecursion (λ d. OverRelays c.n d × Rising d) rest
  pub same : (s : ℕ) → Initial c s → clauses (bit s) c.safety ≡ clauses (bit s) rest

module _ (c : System) where
  pub asked_all : Asking c [] → BrokenAtStart c None
  asked_all asking s i broken = subst (λ (b : Bool). T (not b)) (asking.same s i) broken

  -- the next clause is asked: none found leaves the clauses after it, and a state found is broken
  module _ (admitted : Admitted c) (d : List ℕ) (rest : List (List ℕ)) (asking : Asking c (d ∷ rest)) (r : Option ℕ) (answer : Narrow c.n d → InitialAgainst c d r) where
    against : InitialAgainst c d r
    against = answer (record {
      over = asking.formed.0.0;
      short = le_trans (rising_length c.n d asking.formed.0.0 asking.formed.0.1) admitted.relays.1;
    })

    pub asking_on : is_some r ≡ false → (r ≡ None) × Asking c rest
    asking_on e = go r e against
      where
        go : (r : Option ℕ) → is_some r ≡ false → InitialAgainst c d r → (r ≡ None) × Asking c rest
        go None e initiation = (
          refl,
          record {
            formed = asking.formed.1;
            same = λ s i. asking.same s i ∙ ap (λ b. b && clauses (bit s) rest) (T_true (clause (bit s) d) (initiation s i));
          },
        )
        go (Some s) e found = absurd (true≢false e)

    pub asking_broken : is_some r ≡ true → BrokenAtStart c r
    asking_broken e = go r e against
      where
        go : (r : Option ℕ) → is_some r ≡ true → InitialAgainst c d r → BrokenAtStart c r
        go None e initiation = absurd (true≢false (sym e))
        go (Some s) e found =
            let same = asking.same s found.0 ∙ ap (λ b. b && clauses (bit s) rest) (T_false (clause (bit s) d) found.1) in
            (found.0, subst (λ (b : Bool). T (not b)) (sym same) tt)

-- The two numbers of a model and the number of 128 bits that they spell. Assumes nothing.
use Rattle.std.proofs.Common.{◌≡◌, ℕ, ◌+◌, ◌-◌, ◌/◌, ◌%◌, ◌^◌, ◌<◌, ◌≤◌, eqb, ◌⊎◌, ap, ◌∙◌, inl, inr, arith, shr-shr}
use Rattle.std.proofs.lemmas.Bool.{cases_lt, lt-ltb, le-ltb, cond-true, cond-false}
use Rattle.system.specs.Literals.{bit}
use Rattle.system.proofs.Bits.{low_bits}
use Rattle.solver.specs.Answers.{model}

pub model_halves : (t v : ℕ) → model (t % 2 ^ 64) (t / 2 ^ 64) v ≡ bit t v
model_halves t v = go (cases_lt v 64)
  where
    go : (v < 64) ⊎ (64 ≤ v) → model (t % 2 ^ 64) (t / 2 ^ 64) v ≡ bit t v
    go (inl h) = cond-true _ _ _ (lt-ltb v 64 h) ∙ low_bits t v 64 h
    go (inr h) =
        cond-false _ _ _ (le-ltb v 64 h)
        ∙ ap (λ y. eqb (y % 2) 1) (shr-shr t 64 (v - 64) ∙ ap (λ k. t / 2 ^ k) (let e : 64 + (v - 64) ≡ v = omega arith in e))

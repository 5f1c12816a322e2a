-- The number below 2 ^ k with given bits. Assumes nothing.
use Rattle.std.proofs.Common.{◌≡◌, ℕ, zero, suc, ◌+◌, ◌*◌, ◌/◌, ◌^◌, ◌<◌, Bool, true, false, cond, ap, ◌∙◌, pow-suc, arith}
use Rattle.std.proofs.lemmas.Bool.{eq-eqb, ne_eqb}
use Rattle.system.specs.Literals.{bit}
use Rattle.system.specs.Spelling.{number}
use Rattle.system.proofs.Bits.{bit_suc}

bit_low : (b : Bool) (y : ℕ) → bit (cond b 1 0 + 2 * y) 0 ≡ b
bit_low true y = eq-eqb _ _ (omega arith)
bit_low false y = ne_eqb _ _ (omega arith)

half : (b : Bool) (y : ℕ) → (cond b 1 0 + 2 * y) / 2 ≡ y
half true y = omega arith
half false y = omega arith

pub bit_number : (k : ℕ) (p : ℕ → Bool) (i : ℕ) → i < k → bit (number k p) i ≡ p i
unfolding number
bit_number zero p i h = absurd (let z : ⊥ = omega arith in z)
bit_number (suc k) p zero h = bit_low (p 0) (number k (λ i. p (suc i)))
bit_number (suc k) p (suc i) h =
    bit_suc (number (suc k) p) i ∙ ap (λ y. bit y i) (half (p 0) (number k (λ i. p (suc i)))) ∙ bit_number k (λ i. p (suc i)) i (omega arith)

pub number_below : (k : ℕ) (p : ℕ → Bool) → number k p < 2 ^ k
unfolding number
number_below zero p = omega arith
number_below (suc k) p = go (p 0) (number_below k (λ i. p (suc i)))
  where
    go : (b : Bool) → number k (λ i. p (suc i)) < 2 ^ k → cond b 1 0 + 2 * number k (λ i. p (suc i)) < 2 ^ suc k
    go true h = omega (arith, pow-suc 2 k)
    go false h = omega (arith, pow-suc 2 k)

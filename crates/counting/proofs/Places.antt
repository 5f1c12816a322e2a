-- The step to the next assignment, and the number that rises as assignments go by. Assumes nothing.
use Rattle.std.proofs.Common.{◌≡◌, ℕ, zero, suc, ◌+◌, ◌*◌, ◌%◌, ◌^◌, ◌<◌, ◌≤◌, Bool, true, false, cond, ◌||◌, eqb, refl, ap, ◌∙◌, ap₂, pow-suc, arith, pow_mono}
use mathlib.Core.Bool.{or-false}
use lib.Bits.{bit_or}
use Rattle.std.proofs.lemmas.Nat.{one_shl}
use Rattle.std.proofs.lemmas.Bool.{eq-eqb, ne_eqb, or_right, or_from}
use Rattle.system.specs.Literals.{bit}
use Rattle.system.proofs.Bits.{bit_of_or, bit_pow, bit_above, bit_top, low_bits, high_bits}
use Rattle.counting.specs.Orders.{rank, Stepped}

pub stepped : (t f q b : ℕ) → q < 128 → 2 ^ q ≤ f → f < 2 * 2 ^ q → b ≡ (1 * 2 ^ q) % 2 ^ 128 → Stepped t f (bit_or (t % b) b) q
stepped t f q b small l k g =
    let bq : b ≡ 2 ^ q = g ∙ one_shl q 128 small in
    let top : f < 2 ^ suc q = omega (arith, pow-suc 2 q) in
    let bits : (i : ℕ) → bit (bit_or (t % b) b) i ≡ (bit (t % 2 ^ q) i || eqb i q) =
    λ i. ap (λ x. bit (bit_or (t % x) x) i) bq ∙ bit_of_or (t % 2 ^ q) (2 ^ q) i ∙ ap (λ x. bit (t % 2 ^ q) i || x) (bit_pow q i) in
    record {
      small = small;
      last = bit_top f q l top;
      above = λ i d. bit_above f i (let m = pow_mono {i = suc q} {j = i} (omega arith) in omega arith);
      now_true = bits q ∙ or_right (bit (t % 2 ^ q) q) (eqb q q) (eq-eqb q q refl);
      same = λ i d. bits i ∙ ap₂ ◌||◌ (low_bits t i q d) (ne_eqb i q (omega arith)) ∙ or-false (bit t i);
      cleared = λ i d. bits i ∙ or_from (bit (t % 2 ^ q) i) (eqb i q) (high_bits t i q (omega arith)) (ne_eqb i q (omega arith));
    }

-- the place in the order
pub rank_below : (n : ℕ) (p : ℕ → Bool) → rank n p < 2 ^ n
unfolding rank
rank_below zero p = omega arith
rank_below (suc n) p = go (p 0) (rank_below n (λ i. p (suc i)))
  where
    go : (b : Bool) → rank n (λ i. p (suc i)) < 2 ^ n → cond b (2 ^ n) 0 + rank n (λ i. p (suc i)) < 2 ^ suc n
    go true h = omega (arith, pow-suc 2 n)
    go false h = omega (arith, pow-suc 2 n)

pub rank_rises : (n : ℕ) (p r : ℕ → Bool) (q : ℕ) → q < n → ((j : ℕ) → j < q → r j ≡ p j) → p q ≡ false → r q ≡ true → rank n p < rank n r
unfolding rank
rank_rises zero p r q h f e g = absurd (let z : ⊥ = omega arith in z)
rank_rises (suc n) p r zero h f e g =
    let b = rank_below n (λ i. p (suc i)) in
    let x : cond (p 0) (2 ^ n) 0 ≡ 0 = ap (λ y. cond y (2 ^ n) 0) e in
    let y : cond (r 0) (2 ^ n) 0 ≡ 2 ^ n = ap (λ z. cond z (2 ^ n) 0) g in
    omega arith
rank_rises (suc n) p r (suc q) h f e g =
    let i = rank_rises n (λ k. p (suc k)) (λ k. r (suc k)) q (omega arith) (λ j d. f (suc j) (omega arith)) e g in
    let x : cond (r 0) (2 ^ n) 0 ≡ cond (p 0) (2 ^ n) 0 = ap (λ z. cond z (2 ^ n) 0) (f 0 (omega arith)) in
    omega arith

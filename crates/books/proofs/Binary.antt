-- Numbers below 2 ^ n by their bits: which lie below, two of them that differ, and the one with given bits. Assumes nothing.
use Rattle.std.proofs.Common.{◌≡◌, ℕ, zero, suc, ◌+◌, ◌*◌, ◌/◌, ◌%◌, ◌^◌, ◌<◌, min, Bool, true, false, cond, not, T, sym, refl, ap, ◌∙◌, inl, inr, pow-suc, arith, pow_pos, pow_mono, nat_eq}
use Rattle.std.proofs.Math.Bool.{not-eq-not}
use Rattle.std.proofs.lemmas.Bool.{true≢false, cases_lt, cases_eq, eq-eqb, ne_eqb}
use lib.Bits.{bit_and, and_step}
use Rattle.system.specs.Literals.{bit}
use Rattle.system.specs.Spelling.{number}
use Rattle.system.proofs.Truth.{T_of, T_true}
use Rattle.system.proofs.Bits.{bit_suc, bit_above}
use Rattle.system.proofs.Numbers.{bit_number, number_below}

-- a bit that is set lies below
pub bit_high : (n x i : ℕ) → x < 2 ^ n → T (bit x i) → i < n
bit_high n x i h t =
    elim (cases_lt i n) [
      | inl l ↦ l
      | inr g ↦ (let p = pow_mono g in absurd (true≢false (sym (T_true (bit x i) t) ∙ bit_above x i (omega arith))))
    ]

parity : (x y : ℕ) → x < 2 → y < 2 → (x ≡ y → ⊥) → nat_eq x 1 ≡ not (nat_eq y 1)
parity x y a b h =
    elim (cases_eq x 1) [
      | inl e ↦ eq-eqb x 1 e ∙ sym (ap not (ne_eqb y 1 (omega arith)))
      | inr n ↦ ne_eqb x 1 n ∙ sym (ap not (eq-eqb y 1 (omega arith)))
    ]

pub bits_differ : (n s u : ℕ) → s < 2 ^ n → u < 2 ^ n → (s ≡ u → ⊥) → (i : ℕ) × (i < n) × (bit s i ≡ not (bit u i))
bits_differ zero s u a b h = absurd (h (omega arith))
bits_differ (suc n) s u a b h =
    let p = pow-suc 2 n in
    elim (cases_eq (s % 2) (u % 2)) [
      | inl e ↦ (let r = bits_differ n (s / 2) (u / 2) (omega arith) (omega arith) (λ q. h (omega arith)) in (suc r.0, omega (arith, r.1), bit_suc s r.0 ∙ r.2 ∙ ap not (sym (bit_suc u r.0))))
      | inr d ↦ (0, omega arith, parity (s / 1 % 2) (u / 1 % 2) (omega arith) (omega arith) (λ q. d (omega arith)))
    ]

pub same_bits : (n s u : ℕ) → s < 2 ^ n → u < 2 ^ n → ((i : ℕ) → i < n → bit s i ≡ bit u i) → s ≡ u
same_bits n s u a b h =
    elim (cases_eq s u) [
      | inl e ↦ e
      | inr d ↦ absurd (let r = bits_differ n s u a b d in not-eq-not.1 refl (sym (h r.0 r.1) ∙ r.2))
    ]

pub number_bits : (n x : ℕ) (p : ℕ → Bool) → x < 2 ^ n → ((i : ℕ) → i < n → bit x i ≡ p i) → x ≡ number n p
number_bits n x p h e = same_bits n x (number n p) h (number_below n p) (λ i l. e i l ∙ sym (bit_number n p i l))

-- a number whose bits lie below n
pub number_low : (k n : ℕ) (p : ℕ → Bool) → ((i : ℕ) → i < k → T (p i) → i < n) → number k p < 2 ^ n
unfolding number
number_low zero n p h = pow_pos n
number_low (suc k) zero p h = go (p 0) refl (number_low k 0 (λ i. p (suc i)) (λ i l t. let z = h (suc i) (omega arith) t in omega arith))
  where
    go : (b : Bool) → p 0 ≡ b → number k (λ i. p (suc i)) < 2 ^ 0 → cond b 1 0 + 2 * number k (λ i. p (suc i)) < 2 ^ 0
    go true e l = let z = h 0 (omega arith) (T_of e) in omega arith
    go false e l = omega arith
number_low (suc k) (suc n) p h = go (p 0) (number_low k n (λ i. p (suc i)) (λ i l t. let z = h (suc i) (omega arith) t in omega arith))
  where
    go : (b : Bool) → number k (λ i. p (suc i)) < 2 ^ n → cond b 1 0 + 2 * number k (λ i. p (suc i)) < 2 ^ suc n
    go true h = omega (arith, pow-suc 2 n)
    go false h = omega (arith, pow-suc 2 n)

halved : (b : Bool) (y : ℕ) → ((cond b 1 0 + 2 * y) / 2 ≡ y) × ((cond b 1 0 + 2 * y) % 2 ≡ cond b 1 0)
halved true y = (omega arith, omega arith)
halved false y = (omega arith, omega arith)

-- bits within others
pub number_within : (k : ℕ) (p q : ℕ → Bool) → ((i : ℕ) → T (q i) → T (p i)) → bit_and (number k p) (number k q) ≡ number k q
unfolding number
number_within zero p q h = refl
number_within (suc k) p q h = go (p 0) (q 0) (h 0) (number k (λ i. p (suc i))) (number k (λ i. q (suc i))) (number_within k (λ i. p (suc i)) (λ i. q (suc i)) (λ i. h (suc i)))
  where
    low : (a b : Bool) → (T b → T a) → min (cond a 1 0) (cond b 1 0) ≡ cond b 1 0
    low true true f = refl
    low true false f = refl
    low false true f = absurd (f tt)
    low false false f = refl

    go : (a b : Bool) → (T b → T a) → (x y : ℕ) → bit_and x y ≡ y → bit_and (cond a 1 0 + 2 * x) (cond b 1 0 + 2 * y) ≡ cond b 1 0 + 2 * y
    go a b f x y e =
        and_step (cond a 1 0 + 2 * x) (cond b 1 0 + 2 * y)
        ∙ rw ((halved a x).0, (halved b y).0, (halved a x).1, (halved b y).1, e, low a b f) (omega arith)

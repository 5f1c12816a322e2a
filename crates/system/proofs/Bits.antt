-- Numbers by their bits: what & and | do to each bit, the lowest and the highest bit that is set, the low bits. Assumes nothing.
use Rattle.std.proofs.Common.{◌≡◌, ℕ, zero, suc, ◌+◌, ◌-◌, ◌*◌, ◌/◌, ◌%◌, ◌^◌, ◌<◌, ◌≤◌, min, max, true, false, ◌&&◌, ◌||◌, eqb, sym, refl, ap, ◌∙◌, inl, inr, pow-suc, one-add, arith, pow_pos, pow_mono, shr-shr}
use native.Mathlib.Nat.{zero-div}
use lib.Bits.{bit_and, bit_or, and_shr, or_shr, and_step, or_step}
use lib.Count.{count_trailing_zeros, under}
use lib.Dec.{eqb-suc-suc}
use lib.Pow.{field, mod-mod-pow}
use Rattle.std.proofs.Math.Nat.{div-le_self}
use Rattle.std.proofs.lemmas.Nat.{le-div, div_below, mod_below, div-add-mod'}
use Rattle.std.proofs.lemmas.Bool.{true≢false, cases_eq, cases_lt, eq-eqb, ne_eqb, eqb-true}
use Rattle.system.specs.Literals.{bit}

-- what holds of the digits 0 and 1 holds of any two numbers below 2
digits : (P : ℕ → ℕ → Type 0) → P 0 0 → P 0 1 → P 1 0 → P 1 1 → (p q : ℕ) → p < 2 → q < 2 → P p q
digits P a b c d zero zero h k = a
digits P a b c d zero (suc zero) h k = b
digits P a b c d (suc zero) zero h k = c
digits P a b c d (suc zero) (suc zero) h k = d
digits P a b c d zero (suc (suc q)) h k = absurd (let z : ⊥ = omega arith in z)
digits P a b c d (suc zero) (suc (suc q)) h k = absurd (let z : ⊥ = omega arith in z)
digits P a b c d (suc (suc p)) q h k = absurd (let z : ⊥ = omega arith in z)

and_digit : (p q : ℕ) → p < 2 → q < 2 → eqb (min p q) 1 ≡ (eqb p 1 && eqb q 1)
and_digit = digits (λ p q. eqb (min p q) 1 ≡ (eqb p 1 && eqb q 1)) refl refl refl refl

or_digit : (p q : ℕ) → p < 2 → q < 2 → eqb (max p q) 1 ≡ (eqb p 1 || eqb q 1)
or_digit = digits (λ p q. eqb (max p q) 1 ≡ (eqb p 1 || eqb q 1)) refl refl refl refl

odd_rest : (x r : ℕ) → r < 2 → (x * 2 + r) % 2 ≡ r
odd_rest x r h = omega arith

min_digit : (p q : ℕ) → p < 2 → q < 2 → min p q < 2
min_digit p q h k = omega arith

max_digit : (p q : ℕ) → p < 2 → q < 2 → max p q < 2
max_digit p q h k = omega arith

low_lt : (x : ℕ) → x % 2 < 2
low_lt x = omega arith

and_low : (x y : ℕ) → bit_and x y % 2 ≡ min (x % 2) (y % 2)
and_low x y = ap (λ z. z % 2) (and_step x y) ∙ odd_rest (bit_and (x / 2) (y / 2)) (min (x % 2) (y % 2)) (min_digit _ _ (low_lt x) (low_lt y))

or_low : (x y : ℕ) → bit_or x y % 2 ≡ max (x % 2) (y % 2)
or_low x y = ap (λ z. z % 2) (or_step x y) ∙ odd_rest (bit_or (x / 2) (y / 2)) (max (x % 2) (y % 2)) (max_digit _ _ (low_lt x) (low_lt y))

pub bit_of_and : (a b i : ℕ) → bit (bit_and a b) i ≡ (bit a i && bit b i)
bit_of_and a b i =
    ap (λ z. eqb (z % 2) 1) (and_shr a b i) ∙ ap (λ z. eqb z 1) (and_low (a / 2 ^ i) (b / 2 ^ i)) ∙ and_digit _ _ (low_lt _) (low_lt _)

pub bit_of_or : (a b i : ℕ) → bit (bit_or a b) i ≡ (bit a i || bit b i)
bit_of_or a b i =
    ap (λ z. eqb (z % 2) 1) (or_shr a b i) ∙ ap (λ z. eqb z 1) (or_low (a / 2 ^ i) (b / 2 ^ i)) ∙ or_digit _ _ (low_lt _) (low_lt _)

pub bit_suc : (x j : ℕ) → bit x (suc j) ≡ bit (x / 2) j
bit_suc x j = ap (λ y. eqb (y % 2) 1) (ap (λ k. x / 2 ^ k) (sym (one-add j)) ∙ sym (shr-shr x 1 j))

pub bit_none : (i : ℕ) → bit 0 i ≡ false
bit_none i = ap (λ y. eqb (y % 2) 1) (zero-div (2 ^ i))

twice_half : (k : ℕ) → 2 ^ suc k / 2 ≡ 2 ^ k
twice_half k = omega (arith, pow-suc 2 k)

twice_even : (k : ℕ) → 2 ^ suc k % 2 ≡ 0
twice_even k = omega (arith, pow-suc 2 k)

by_one : (x : ℕ) → x / 2 ^ 0 ≡ x
by_one x = omega arith

pub bit_pow : (k i : ℕ) → bit (2 ^ k) i ≡ eqb i k
bit_pow zero zero = refl
bit_pow zero (suc i) = bit_suc 1 i ∙ bit_none i ∙ sym (ne_eqb (suc i) 0 (omega arith))
bit_pow (suc k) zero = ap (λ z. eqb z 1) (ap (λ z. z % 2) (by_one (2 ^ suc k)) ∙ twice_even k) ∙ sym (ne_eqb 0 (suc k) (omega arith))
bit_pow (suc k) (suc i) = bit_suc (2 ^ suc k) i ∙ ap (λ z. bit z i) (twice_half k) ∙ bit_pow k i ∙ sym (eqb-suc-suc i k)

-- the lowest bit of a number that is not 0
pub record Lowest (k n v : ℕ) : Type 0 where
  pub small : v < k
  pub is : bit n v ≡ true
  pub first : (j : ℕ) → j < v → bit n j ≡ false

lowest_step : (k n d : ℕ) → n % 2 ≡ d → (n % 2 ≡ 0 → Lowest k (n / 2) (count_trailing_zeros k (n / 2))) → Lowest (suc k) n (under d (count_trailing_zeros k (n / 2)))
lowest_step k n zero e f = go (f e)
  where
    below : Lowest k (n / 2) (count_trailing_zeros k (n / 2)) → (j : ℕ) → j < suc (count_trailing_zeros k (n / 2)) → bit n j ≡ false
    below r zero q = ap (λ z. eqb z 1) (ap (λ z. z % 2) (by_one n) ∙ e)
    below r (suc j) q = bit_suc n j ∙ r.first j (omega arith)

    go : Lowest k (n / 2) (count_trailing_zeros k (n / 2)) → Lowest (suc k) n (suc (count_trailing_zeros k (n / 2)))
    go r = record { small = omega (arith, r.small); is = bit_suc n (count_trailing_zeros k (n / 2)) ∙ r.is; first = below r }
lowest_step k n (suc d) e f =
    record {
      small = omega arith;
      is = ap (λ z. eqb (z % 2) 1) (by_one n) ∙ eq-eqb (n % 2) 1 (omega arith);
      first = λ j q. absurd (let z : ⊥ = omega arith in z);
    }

pub lowest : (k n : ℕ) → 0 < n → n < 2 ^ k → Lowest k n (count_trailing_zeros k n)
unfolding count_trailing_zeros
lowest zero n p h = absurd (let z : ⊥ = omega arith in z)
lowest (suc k) n p h = lowest_step k n (n % 2) refl (λ e. lowest k (n / 2) (omega arith) (omega (arith, pow-suc 2 k)))

-- no bit above a number's length
pub bit_above : (a i : ℕ) → a < 2 ^ i → bit a i ≡ false
bit_above a i h =
    let p = pow_pos i in
    let q : a / 2 ^ i < 1 = div_below a (2 ^ i) 1 p (omega arith) in
    ne_eqb (a / 2 ^ i % 2) 1 (omega arith)

pub bit_top : (a j : ℕ) → 2 ^ j ≤ a → a < 2 ^ suc j → bit a j ≡ true
bit_top a j l h =
    let p = pow_pos j in
    let s = pow-suc 2 j in
    let q : a / 2 ^ j < 2 = div_below a (2 ^ j) 2 p (omega arith) in
    let r : 1 ≤ a / 2 ^ j = le-div 1 a (2 ^ j) p (omega arith) in
    eq-eqb (a / 2 ^ j % 2) 1 (omega arith)

pub low_bits : (t v k : ℕ) → v < k → bit (t % 2 ^ k) v ≡ bit t v
low_bits t v k h =
    let e : k - v + v ≡ k = omega arith in
    let f : k - v - 1 + 1 ≡ k - v = omega arith in
    ap (λ y. eqb (y % 2) 1) (ap (λ n. t % 2 ^ n / 2 ^ v) (sym e) ∙ field t (k - v) v)
    ∙ ap (λ y. eqb y 1) (ap (λ n. t / 2 ^ v % 2 ^ n % 2) (sym f) ∙ mod-mod-pow (t / 2 ^ v) (k - v - 1) 1)

pub high_bits : (t v k : ℕ) → k ≤ v → bit (t % 2 ^ k) v ≡ false
high_bits t v k h =
    let m = mod_below t (2 ^ k) (pow_pos k) in
    let n = pow_mono h in
    bit_above (t % 2 ^ k) v (omega arith)

-- the number has no other bits than from its lowest on
low_empty : (k x v : ℕ) → Lowest k x v → x % 2 ^ v ≡ 0
low_empty k x v l = elim (cases_eq (x % 2 ^ v) 0) [ inl e ↦ e | inr n ↦ absurd (none (lowest v (x % 2 ^ v) (omega arith) (mod_below x (2 ^ v) (pow_pos v)))) ]
  where
    none : Lowest v (x % 2 ^ v) (count_trailing_zeros v (x % 2 ^ v)) → ⊥
    none r = true≢false (sym r.is ∙ low_bits x _ v r.small ∙ l.first _ r.small)

-- a number that is more than its lowest bit has another
pub second : (k x v : ℕ) → x < 2 ^ k → Lowest k x v → (x ≡ 2 ^ v → ⊥) → (j : ℕ) × (v < j) × (bit x j ≡ true)
second k x v h l more = elim (cases_lt x (2 ^ suc v)) [ inl b ↦ absurd (more (alone b)) | inr g ↦ above (le-div 1 x (2 ^ suc v) (pow_pos (suc v)) (omega arith)) ]
  where
    alone : x < 2 ^ suc v → x ≡ 2 ^ v
    alone b =
        let p = pow_pos v in
        let q : x / 2 ^ v < 2 = div_below x (2 ^ v) 2 p (omega (arith, pow-suc 2 v)) in
        let odd = eqb-true (x / 2 ^ v % 2) 1 l.is in
        let one : x / 2 ^ v ≡ 1 = omega arith in
        sym (div-add-mod' x (2 ^ v)) ∙ ap (λ d. d * 2 ^ v + x % 2 ^ v) one ∙ omega (arith, low_empty k x v l)

    above : 1 ≤ x / 2 ^ suc v → (j : ℕ) × (v < j) × (bit x j ≡ true)
    above r =
        let b = lowest k (x / 2 ^ suc v) (omega arith) (let d = div-le_self x (2 ^ suc v) in omega arith) in
        let u = count_trailing_zeros k (x / 2 ^ suc v) in
        (suc v + u, omega arith, ap (λ y. eqb (y % 2) 1) (sym (shr-shr x (suc v) u)) ∙ b.is)

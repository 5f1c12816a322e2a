-- The order of the assignments, and the step from one to the next.
use Rattle.std.specs.Prelude.{◌≡◌, ℕ, zero, suc, ◌+◌, ◌^◌, ◌<◌, Bool, true, false, cond}
use Rattle.system.specs.Literals.{Valuation, bit}
use Rattle.masks.specs.declared.mask.ClauseMask.{ClauseMask}

-- a, on the variables of x, comes before the assignment t: at the first where they differ a is false
abbrev pub Before : ℕ → Valuation → ℕ → Type 0
Before x a t = (v : ℕ) × ((u : ℕ) → u < v → bit x u ≡ true → a u ≡ bit t u) × (bit x v ≡ true) × (a v ≡ false) × (bit t v ≡ true)

-- the place of an assignment in the order, by n variables, the first the most significant
unfoldable pub rank : ℕ → (ℕ → Bool) → ℕ
rank zero p = 0
rank (suc n) p = cond (p 0) (2 ^ n) 0 + rank n (λ i. p (suc i))

-- the step to the next assignment: q is the last variable of f, and becomes true; those behind it become false
pub record Stepped (t f r q : ℕ) : Type 0 where
  pub small : q < 128
  pub last : bit f q ≡ true
  pub above : (j : ℕ) → q < j → bit f j ≡ false
  pub now_true : bit r q ≡ true
  pub same : (j : ℕ) → j < q → bit r j ≡ bit t j
  pub cleared : (j : ℕ) → q < j → bit r j ≡ false

-- the opposites of the literals of a set
abbrev pub opposed : ClauseMask → ClauseMask
opposed m = record { positive = m.negative; negative = m.positive }

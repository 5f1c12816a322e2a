-- A set of literals as two numbers, by bits: the variables that it has plain, and those that it has negated.
-- It stands for a clause, and for the literals that a partial assignment makes true.
use Rattle.std.specs.Prelude.{◌≡◌, ℕ, ◌/◌, ◌%◌, ◌^◌, Bool, true, false, cond, not, T, List, fold, ◌==◌, bit_or}
use Rattle.system.specs.Literals.{Valuation, bit, clauses}
use Rattle.masks.specs.declared.mask.ClauseMask.{ClauseMask}

-- whether the literal of variable j is in the set, plain where b is true and negated where b is false
abbrev pub inside : ClauseMask → ℕ → Bool → Bool
inside m j true = bit m.positive j
inside m j false = bit m.negative j

abbrev pub none : ClauseMask
none = record { positive = 0; negative = 0 }

-- the set with the literal that is true where variable v has the value b
abbrev pub with_value : ClauseMask → ℕ → Bool → ClauseMask
with_value m v b =
    cond b
    (record { positive = bit_or m.positive (2 ^ v); negative = m.negative })
    (record { positive = m.positive; negative = bit_or m.negative (2 ^ v) })

-- the set with the literal l
abbrev pub with_literal : ClauseMask → ℕ → ClauseMask
with_literal m l = with_value m (l / 2) (l % 2 == 0)

-- the literals of a clause
abbrev pub mask_of : List ℕ → ClauseMask
mask_of c = fold with_literal none c

-- one literal is in both sets
abbrev pub Meets : ClauseMask → ClauseMask → Type 0
Meets m s = (j : ℕ) × (b : Bool) × (inside m j b ≡ true) × (inside s j b ≡ true)

-- no literal is in both sets
abbrev pub Apart : ClauseMask → ClauseMask → Type 0
Apart m s = (j : ℕ) (b : Bool) → inside m j b ≡ true → inside s j b ≡ false

-- every literal of the set is false under the valuation
abbrev pub Fails : Valuation → ClauseMask → Type 0
Fails a m = (j : ℕ) (b : Bool) → inside m j b ≡ true → a j ≡ not b

-- no valuation that makes all of base true makes every literal of the set false
abbrev pub Implied : List (List ℕ) → ClauseMask → Type 0
Implied base m = (a : Valuation) → T (clauses a base) → Fails a m → ⊥

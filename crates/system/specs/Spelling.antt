-- Clauses over relays, spelled by the relays that occur and their signs, and numbers, by their bits.
use Rattle.std.specs.Prelude.{ℕ, zero, suc, ◌+◌, ◌*◌, Bool, cond, List, [], ◌∷◌, ◌++◌}

-- the literal of a variable: plain where the sign is true, negated where it is false
abbrev pub literal_of : ℕ → Bool → ℕ
literal_of v sign = 2 * v + cond sign 0 1

-- the literals of those of the first k variables from one on that lie inside, each with its sign, in rising order
unfoldable pub spelled : ℕ → ℕ → (ℕ → Bool) → (ℕ → Bool) → List ℕ
spelled first zero inside sign = []
spelled first (suc k) inside sign = spelled first k inside sign ++ cond (inside k) (literal_of (first + k) (sign k) ∷ []) []

-- the number below 2 ^ k of which bit i is 1 where p i is true
unfoldable pub number : ℕ → (ℕ → Bool) → ℕ
number zero p = 0
number (suc k) p = cond (p 0) 1 0 + 2 * number k (λ i. p (suc i))

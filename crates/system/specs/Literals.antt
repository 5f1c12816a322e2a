-- Literals, clauses and lists of clauses, and their truth under a valuation of the variables.
-- A literal is a byte: twice its variable, plus 1 if negated. A clause is a list of literals, read as a set.
use Rattle.std.specs.Prelude.{◌≡◌, ℕ, ◌+◌, ◌/◌, ◌%◌, ◌^◌, Bool, true, false, ◌&&◌, ◌||◌, ◌⊎◌, List, [], ◌∷◌, length, ◌==◌}
use Rattle.std.specs.Bool.{beq}

-- the truth of every variable
abbrev pub Valuation : Type 0
Valuation = ℕ → Bool

-- the valuation that a number gives: variable i is true where bit i of x is 1
abbrev pub bit : ℕ → Valuation
bit x i = x / 2 ^ i % 2 == 1

-- the variable of a literal
abbrev pub variable_of : ℕ → ℕ
variable_of l = l / 2

-- a literal is true where its variable is, and a negated one where its variable is not
abbrev pub literal : Valuation → ℕ → Bool
literal a l = beq (a (variable_of l)) (l % 2 == 0)

-- a clause is true where one of its literals is
abbrev pub clause : Valuation → List ℕ → Bool
clause a [] = false
clause a (l ∷ c) = literal a l || clause a c

-- a list of clauses is true where each of them is
abbrev pub clauses : Valuation → List (List ℕ) → Bool
clauses a [] = true
clauses a (c ∷ cs) = clause a c && clauses a cs

-- x stands in the list
abbrev pub Member : {A : Type 0} → A → List A → Type 0
Member x [] = ⊥
Member x (y ∷ ys) = (x ≡ y) ⊎ Member x ys

-- variable v occurs in a clause, and in a list of clauses
abbrev pub Occurs : ℕ → List ℕ → Type 0
Occurs v c = (l : ℕ) × Member l c × (variable_of l ≡ v)

abbrev pub OccursAmong : ℕ → List (List ℕ) → Type 0
OccursAmong v cs = (c : List ℕ) × Member c cs × Occurs v c

-- how many literals a list of clauses has, each counted as often as it stands there
abbrev pub size : List (List ℕ) → ℕ
size [] = 0
size (c ∷ cs) = length c + size cs

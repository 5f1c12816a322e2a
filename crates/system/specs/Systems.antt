-- Transition systems over n relays and m inputs: initial states, steps, runs, safety, and what is inductive.
-- A state is a number below 2 ^ n whose bit i is relay i.
use Rattle.std.specs.Prelude.{ℕ, ◌-◌, ◌^◌, ◌<◌, Bool, cond, not, ◌&&◌, ◌||◌, T, List, [], ◌∷◌, nat_le, nat_lt}
use Rattle.std.specs.List.{AllByRecursion}
use Rattle.system.specs.Literals.{Valuation, bit, variable_of, clauses, Member}

pub record System : Type 0 where
  pub n : ℕ
  pub m : ℕ
  pub start : List (List ℕ)
  pub step : List (List ℕ)
  pub safety : List (List ℕ)

-- the variables of a step: relay i before it is i, after it 32 + i, and input j is 64 + j
abbrev pub step_bits : ℕ → ℕ → ℕ → Valuation
step_bits s t x v = cond (nat_lt v 32) (bit s v) (cond (nat_lt v 64) (bit t (v - 32)) (bit x (v - 64)))

-- an initial state makes every start clause true
pub record Initial (c : System) (s : ℕ) : Type 0 where
  pub low : s < 2 ^ c.n
  pub starts : T (clauses (bit s) c.start)

-- a step from s to t: some values of the inputs make every step clause true
pub record Step (c : System) (s t : ℕ) : Type 0 where
  pub low : s < 2 ^ c.n
  pub next_low : t < 2 ^ c.n
  pub inputs : ℕ
  pub inputs_low : inputs < 2 ^ c.m
  pub joins : T (clauses (step_bits s t inputs) c.step)

-- steps lead from s through the states of the list in turn
abbrev pub Steps : System → ℕ → List ℕ → Type 0
Steps c s [] = Unit {0}
Steps c s (t ∷ r) = Step c s t × Steps c t r

-- a run: one state or more, the first initial, each neighbouring pair a step
abbrev pub Run : System → List ℕ → Type 0
Run c [] = ⊥
Run c (s ∷ r) = Initial c s × Steps c s r

-- a reached state is one that a run contains
abbrev pub Reached : System → ℕ → Type 0
Reached c s = (r : List ℕ) × Run c r × Member s r

-- a broken state makes some safety clause false
abbrev pub Broken : System → ℕ → Type 0
Broken c s = T (not (clauses (bit s) c.safety))

-- a broken run contains a broken state
abbrev pub BrokenRun : System → List ℕ → Type 0
BrokenRun c r = Run c r × ((s : ℕ) × Member s r × Broken c s)

-- a safe system has no broken run
abbrev pub Safe : System → Type 0
Safe c = (r : List ℕ) → BrokenRun c r → ⊥

-- initiation: p is true in every initial state
abbrev pub Initiation : System → (ℕ → Bool) → Type 0
Initiation c p = (s : ℕ) → Initial c s → T (p s)

-- consecution relative to q: p is true after every step from a state where q and p are
abbrev pub Consecution : System → (ℕ → Bool) → (ℕ → Bool) → Type 0
Consecution c q p = (s t : ℕ) → T (q s) → T (p s) → Step c s t → T (p t)

-- p is inductive relative to q
abbrev pub Inductive : System → (ℕ → Bool) → (ℕ → Bool) → Type 0
Inductive c q p = Initiation c p × Consecution c q p

-- a clause over the relays before a step
abbrev pub OverRelays : ℕ → List ℕ → Type 0
OverRelays n c = AllByRecursion (λ l. variable_of l < n) c

-- v is a variable of a system with n relays and m inputs: a relay before a step, a relay after it, or an input
abbrev pub is_variable : ℕ → ℕ → ℕ → Bool
is_variable n m v = nat_lt v n || (nat_le 32 v && nat_lt (v - 32) n) || (nat_le 64 v && nat_lt (v - 64) m)

-- a clause over all the variables of a step
abbrev pub OverVariables : ℕ → ℕ → List ℕ → Type 0
OverVariables n m c = AllByRecursion (λ l. T (is_variable n m (variable_of l))) c

-- the variables of a clause's literals rise, so that none occurs twice
abbrev pub Rising : List ℕ → Type 0
Rising [] = Unit {0}
Rising (l ∷ c) = AllByRecursion (λ k. variable_of l < variable_of k) c × Rising c

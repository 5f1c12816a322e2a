-- The laws of systems that every layer above rests on.
use Rattle.std.specs.Prelude.{◌≡◌, ℕ, Bool, T, ◌↔◌, List, ◌∷◌, ◌++◌}
use Rattle.system.specs.Literals.{Valuation, clauses, OccursAmong}
use Rattle.system.specs.Systems.{System, Run, Reached, Broken, Safe, Inductive}

-- valuations that agree on the variables that occur in clauses give these the same truth
abbrev pub TruthByOccurring : Type 0
TruthByOccurring = (a b : Valuation) (cs : List (List ℕ)) → ((v : ℕ) → OccursAmong v cs → a v ≡ b v) → clauses a cs ≡ clauses b cs

-- a run that is cut after any of its states is a run
abbrev pub RunPrefix : Type 0
RunPrefix = (c : System) (s : ℕ) (r q : List ℕ) → Run c (s ∷ (r ++ q)) → Run c (s ∷ r)

-- what is inductive relative to something that is true in every reached state is itself true in every reached state
abbrev pub InductiveReached : Type 0
InductiveReached =
    (c : System) (q p : ℕ → Bool) → ((s : ℕ) → Reached c s → T (q s)) → Inductive c q p → (s : ℕ) → Reached c s → T (p s)

-- a system is safe exactly when no reached state is broken
abbrev pub SafeWhenReached : Type 0
SafeWhenReached = (c : System) → Safe c ↔ ((s : ℕ) → Reached c s → Broken c s → ⊥)

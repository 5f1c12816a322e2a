-- What is asked about clauses together, and what follows for their marks.
use Rattle.std.specs.Prelude.{◌≡◌, ℕ, ◌<◌, not, cond, T, List, [], ◌∷◌, Some, None, Option}
use Rattle.system.specs.Literals.{Valuation, bit, clause, clauses}
use Rattle.system.specs.Preserving.{after}
use Rattle.sieve.specs.declared.sifting.Sifting.{Sifting}
use Rattle.sieve.specs.declared.sifting.Sifting.TheVariants.{Closed, Fewer}

-- t is the state after a step that the held clauses admit, and it makes one of the clauses false
pub record Breaks (held cs : List (List ℕ)) (t : ℕ) : Type 0 where
  pub values : Valuation
  pub admitted : T (clauses values held)
  pub next : (v : ℕ) → v < 32 → bit t v ≡ after values v
  pub broken : T (not (clauses (bit t) cs))

-- such a state, or that the clauses are true after every step that the held clauses admit
abbrev pub Found : List (List ℕ) → List (List ℕ) → Option ℕ → Type 0
Found held cs (Some t) = Breaks held cs t
Found held cs None = (a : Valuation) → T (clauses a held) → T (clauses (after a) cs)

-- the marks without those of the clauses that are false in a state
abbrev pub unmarked : ℕ → List ℕ → List (List ℕ) → List ℕ
unmarked t [] cs = []
unmarked t (x ∷ M) [] = x ∷ M
unmarked t (x ∷ M) (c ∷ cs) = cond (clause (bit t) c) x 0 ∷ unmarked t M cs

-- what follows: the marks are left as closed, or those of the clauses that are false in the state are taken away
abbrev pub Settled : List ℕ → List (List ℕ) → Option ℕ → Sifting → List ℕ → Type 0
Settled M cs None said out = (said ≡ Closed) × (out ≡ M)
Settled M cs (Some t) said out = (said ≡ Fewer) × (out ≡ unmarked t M cs)

-- Candidates, those of them that are marked, and when marks are closed.
use Rattle.std.specs.Prelude.{ℕ, cond, List, [], ◌∷◌, ◌==◌}
use Rattle.system.specs.Systems.{OverRelays, Rising}
use Rattle.system.specs.Preserving.{Preserved}

-- a clause over relays before a step, in which they rise
abbrev pub Formed : List ℕ → Type 0
Formed c = OverRelays 32 c × Rising c

-- the marked ones of a list, in order
abbrev pub chosen : List ℕ → List (List ℕ) → List (List ℕ)
chosen [] cs = []
chosen (x ∷ M) [] = []
chosen (x ∷ M) (c ∷ cs) = cond (x == 1) (c ∷ chosen M cs) (chosen M cs)

-- the marked ones, all met with the held clauses before a step, are all true after it
abbrev pub TogetherClosed : List (List ℕ) → List (List ℕ) → List ℕ → Type 0
TogetherClosed cs held M = Preserved held (chosen M cs)

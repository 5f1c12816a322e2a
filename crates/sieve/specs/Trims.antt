-- Trimming a closed set: its places are tried one after another, and each goes where the descent without it ends on a set
-- that is still good.
use Rattle.std.specs.Prelude.{◌≡◌, ℕ, zero, suc, T, List, set, replicate}
use Rattle.sieve.specs.Marks.{marked, Largest}

-- every place
abbrev pub full : ℕ → List ℕ
full places = replicate places 1

-- place i tried: where it is marked, what the descent without it ends on replaces the marks if that is good
pub data Tried (places : ℕ) (closed good : List ℕ → Type 0) (i : ℕ) (M out : List ℕ) : Type 0 where
  tried_absent : (T (marked M i) → ⊥) → out ≡ M → Tried places closed good i M out
  tried_dropped : T (marked M i) → Largest places closed (set M i 0) out → good out → Tried places closed good i M out
  tried_needed : T (marked M i) → (L : List ℕ) → Largest places closed (set M i 0) L → (good L → ⊥) → out ≡ M → Tried places closed good i M out

-- the places below k tried in turn, from 0 up
unfoldable pub Trimmed : ℕ → (List ℕ → Type 0) → (List ℕ → Type 0) → ℕ → List ℕ → List ℕ → Type 0
Trimmed places closed good zero M out = out ≡ M
Trimmed places closed good (suc k) M out = (L : List ℕ) × Trimmed places closed good k M L × Tried places closed good k L out

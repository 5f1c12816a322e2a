-- Descents, worked out over the definitions: which marks are the largest closed set within those given.
use Rattle.std.specs.Prelude.{◌≡◌, ℕ, ◌<◌, T, ◌↔◌, List, [], ◌∷◌, slice_index_or}
use Rattle.system.specs.Literals.{bit, clause}
use Rattle.system.specs.Systems.{Initiation}
use Rattle.system.specs.Preserving.{loaded}
use Rattle.sieve.specs.Marks.{marked, Largest}
use Rattle.literal_sieve.specs.Literal.{ClauseClosed}
use Rattle.candidate_sieve.specs.Candidates.{TogetherClosed}
use Rattle.worked.specs.Systems.{follower, exchange}

-- just these marks are the largest closed set within those given
abbrev pub DescendsTo : ℕ → (List ℕ → Type 0) → List ℕ → List ℕ → Type 0
DescendsTo places family given out = (M : List ℕ) → Largest places family given M ↔ (M ≡ out)

-- the literals of the follower that are false at a state
abbrev pub Literals : ℕ → List ℕ → Type 0
Literals s = ClauseClosed (record { n = 2; state = s }) (loaded follower [])

-- candidates for the exchange
abbrev pub Together : List (List ℕ) → List ℕ → Type 0
Together cs = TogetherClosed cs (loaded exchange [])

-- relay 0 is off, relay 1 is off, relay 0 is on
abbrev pub three : List (List ℕ)
three = (1 ∷ []) ∷ (3 ∷ []) ∷ (0 ∷ []) ∷ []

pub record WorkedDescents : Type 0 where
  -- the first two of the three candidates are those that are true in every initial state, and they stand together
  pub started : (i : ℕ) → i < 3 → T (marked (1 ∷ 1 ∷ 0 ∷ []) i) ↔ Initiation exchange (λ s. clause (bit s) (slice_index_or three i []))
  pub stand : DescendsTo 3 (Together three) (1 ∷ 1 ∷ 0 ∷ []) (1 ∷ 1 ∷ 0 ∷ [])
  -- no state meets all three, so that no step breaks them; two of them that some state meets fall
  pub opposed : DescendsTo 3 (Together three) (1 ∷ 1 ∷ 1 ∷ []) (1 ∷ 1 ∷ 1 ∷ [])
  pub fall : DescendsTo 3 (Together three) (0 ∷ 1 ∷ 1 ∷ []) (0 ∷ 0 ∷ 0 ∷ [])
  -- the first alone falls too
  pub alone : DescendsTo 1 (Together ((1 ∷ []) ∷ [])) (1 ∷ []) (0 ∷ [])
  -- from the literals false where relay 1 is on: all stay, and each alone, that of relay 0 since no safe state meets it
  pub both : DescendsTo 2 (Literals 2) (1 ∷ 1 ∷ []) (1 ∷ 1 ∷ [])
  pub second : DescendsTo 2 (Literals 2) (0 ∷ 1 ∷ []) (0 ∷ 1 ∷ [])
  pub first : DescendsTo 2 (Literals 2) (1 ∷ 0 ∷ []) (1 ∷ 0 ∷ [])
  -- from those false where both are on: that of relay 0 falls, also alone
  pub kept : DescendsTo 2 (Literals 3) (1 ∷ 1 ∷ []) (0 ∷ 1 ∷ [])
  pub dropped : DescendsTo 2 (Literals 3) (1 ∷ 0 ∷ []) (0 ∷ 0 ∷ [])

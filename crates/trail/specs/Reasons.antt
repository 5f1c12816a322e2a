-- Why the decisions of a trail stand, and the number that rises as a search goes on.
use Rattle.std.specs.Prelude.{◌≡◌, ℕ, zero, suc, ◌+◌, ◌*◌, ◌^◌, ◌<◌, Bool, true, not, T, ◌⊎◌, List, [], ◌∷◌, length, take, slice_index_or}
use Rattle.system.specs.Literals.{Valuation, clauses}
use Rattle.masks.specs.Masks.{inside, Implied}
use Rattle.masks.specs.declared.mask.ClauseMask.{ClauseMask}
use Rattle.trail.specs.Decisions.{has}
use Rattle.trail.specs.declared.decision.Decision.{Decision}
use Rattle.trail.specs.declared.decision.Forcing.{Forcing}
use Rattle.trail.specs.declared.decision.Forcing.TheVariants.{Assumed, Chosen, Forced}

-- each literal of m is false by the decisions
abbrev pub Refuted : ClauseMask → List Decision → Type 0
Refuted m ds = (j : ℕ) (c : Bool) → inside m j c ≡ true → has ds j (not c) ≡ true

-- each literal of m is, but perhaps that of v with the sign b
abbrev pub Forces : ClauseMask → List Decision → ℕ → Bool → Type 0
Forces m ds v b = (j : ℕ) (c : Bool) → inside m j c ≡ true → ((j ≡ v) × (c ≡ b)) ⊎ (has ds j (not c) ≡ true)

-- why a decision stands after those before it: what holds in every model of base
abbrev pub Reason : List (List ℕ) → List Decision → ℕ → Bool → Forcing → Type 0
Reason base before v b Assumed = (a : Valuation) → T (clauses a base) → a v ≡ b
Reason base before v b Chosen = Unit {0}
Reason base before v b (Forced m) = Implied base m × Forces m before v b

-- the reason of one decision, and of all of them
abbrev pub Because : List (List ℕ) → List Decision → Decision → Type 0
Because base before d = Reason base before d.variable d.value d.forcing

abbrev pub Sound : List (List ℕ) → List Decision → Type 0
Sound base ds = (k : ℕ) (e : Decision) → k < length ds → Because base (take k ds) (slice_index_or ds k e)

-- a trail as digits to the base 3, the first the most significant: 1 for a choice and 2 for what had to be
abbrev pub digit : Forcing → ℕ
digit Assumed = 2
digit Chosen = 1
digit (Forced m) = 2

abbrev pub height : ℕ → List Decision → ℕ
height zero ds = 0
height (suc n) [] = 0
height (suc n) (d ∷ ds) = digit d.forcing * 3 ^ n + height n ds

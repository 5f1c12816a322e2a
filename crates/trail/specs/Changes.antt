-- What becomes of the decisions of a trail when one is made or changed.
use Rattle.std.specs.Prelude.{◌≡◌, ℕ, ◌<◌, Bool, List, [], ◌∷◌, ◌++◌, length, take}
use Rattle.trail.specs.Decisions.{Free}
use Rattle.trail.specs.declared.decision.Decision.{Decision}
use Rattle.trail.specs.declared.decision.Forcing.{Forcing}

-- the decisions, and one more: the variable v has the value b, forced by f
pub record Appended (before : List Decision) (v : ℕ) (b : Bool) (f : Forcing) (after : List Decision) : Type 0 where
  pub made : Decision
  pub variable : made.variable ≡ v
  pub value : made.value ≡ b
  pub forcing : made.forcing ≡ f
  pub is : after ≡ before ++ made ∷ []

-- a decision is appended where the variable is one and has no value, and else nothing changes
pub record Assigned (before : List Decision) (v : ℕ) (b : Bool) (f : Forcing) (after : List Decision) : Type 0 where
  pub taken : v < 128 → Free before v → Appended before v b f after
  pub left : ((v < 128) × Free before v → ⊥) → after ≡ before

-- the entry at a place is changed and those behind it go, where the variable has no value before it, and else nothing changes
pub record Changed (before : List Decision) (at v : ℕ) (b : Bool) (f : Forcing) (after : List Decision) : Type 0 where
  pub taken : at < length before → v < 128 → Free (take at before) v → Appended (take at before) v b f after
  pub left : ((at < length before) × (v < 128) × Free (take at before) v → ⊥) → after ≡ before

-- What a conflict teaches: a clause that forces a variable at an earlier choice, or that nothing can be true.
use Rattle.std.specs.Prelude.{◌≡◌, ℕ, ◌+◌, ◌<◌, ◌≤◌, Bool, true, false, cond, not, ◌||◌, List, [], ◌∷◌, length, reverse, take, Some, None, Option, IfSome, slice_index_or}
use Rattle.system.specs.Literals.{bit}
use Rattle.masks.specs.Masks.{none, Implied}
use Rattle.masks.specs.Questions.{Hopeless}
use Rattle.masks.specs.declared.mask.ClauseMask.{ClauseMask}
use Rattle.trail.specs.Decisions.{has, Free}
use Rattle.trail.specs.Reasons.{Refuted, Forces, Sound}
use Rattle.trail.specs.declared.decision.Decision.{Decision}
use Rattle.trail.specs.declared.decision.Forcing.{Forcing}
use Rattle.trail.specs.declared.decision.Forcing.TheVariants.{Assumed, Chosen, Forced}
use Rattle.analysis.specs.declared.jump.Jump.{Jump}

-- some decision is on the variable
abbrev pub Named : List Decision → ℕ → Type 0
Named ds j = (b : Bool) × (has ds j b ≡ true)

-- the entry at k is a choice
abbrev pub ChosenAt : List Decision → ℕ → Type 0
ChosenAt ds k = (e : Decision) → (slice_index_or ds k e).forcing ≡ Chosen

-- whether it is a free choice
abbrev pub is_choice : Forcing → Bool
is_choice Assumed = false
is_choice Chosen = true
is_choice (Forced m) = false

-- of decisions, the latest first, those before the last choice, and none where there is no choice
abbrev pub before_choice : List Decision → List Decision
before_choice [] = []
before_choice (d ∷ ds) = cond (is_choice d.forcing) ds (before_choice ds)

-- x has just the variables that the decisions are on
abbrev pub Covers : List Decision → ℕ → Type 0
Covers ds x = (j : ℕ) → bit x j ≡ (has ds j true || has ds j false)

-- x has just the variables that have a value before the last choice
abbrev pub Settled : List Decision → ℕ → Type 0
Settled ds x = Covers (before_choice (reverse ds)) x

-- a choice, up to the entry last, before which each of the needed variables has a value
abbrev pub Lands : List Decision → ℕ → ℕ → Option ℕ → Type 0
Lands ds last needed r = IfSome r (λ to. (to ≤ last) × ChosenAt ds to × ((j : ℕ) → bit needed j ≡ true → Named (take to ds) j))

-- the clause behind a decision
abbrev pub reason_of : Forcing → ClauseMask
reason_of Assumed = none
reason_of Chosen = none
reason_of (Forced m) = m

-- a choice where the clause, false up to the entry at, forces the variable of that entry to the value that it has not; there
-- is one where that entry is itself a choice
abbrev pub Asserts : List Decision → ℕ → ClauseMask → Option ℕ → Type 0
Asserts ds at clause None = ChosenAt ds at → ⊥
Asserts ds at clause (Some to) = (to ≤ at) × ChosenAt ds to
    × ((e : Decision) → Refuted clause (take (at + 1) ds) → Forces clause (take to ds) (slice_index_or ds at e).variable (not (slice_index_or ds at e).value))

-- a clause, all false, that follows from base teaches that nothing makes base true, or it teaches a clause that follows
-- from base too and forces a variable at an earlier choice, before which the variable has no value
abbrev pub Analyzed : List Decision → ClauseMask → Option Jump → Type 0
Analyzed ds conflict None = (base : List (List ℕ)) → Refuted conflict ds → Sound base ds → Implied base conflict → Hopeless base
Analyzed ds conflict (Some j) =
    (j.to < length ds) × (j.literal.variable < 128) × Free (take j.to ds) j.literal.variable × ChosenAt ds j.to
    × ((base : List (List ℕ)) → Refuted conflict ds → Sound base ds → Implied base conflict
    → Implied base j.clause × Forces j.clause (take j.to ds) j.literal.variable j.literal.value)

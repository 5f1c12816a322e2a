-- A question to a solver over sets of literals: what follows from held clauses and assumed literals, and when all are true.
-- What follows is said of any list of clauses, base, from which the held clauses and the assumed literals follow.
use Rattle.std.specs.Prelude.{◌≡◌, ℕ, ◌<◌, Bool, true, T, ◌⊎◌, List, map, length, slice_index, All, Contains, Some, None, Option}
use Rattle.system.specs.Literals.{Valuation, bit, clauses}
use Rattle.solver.specs.Answers.{Answered}
use Rattle.solver.specs.declared.answer.Answer.{Answer}
use Rattle.masks.specs.Masks.{inside, none, with_literal, mask_of, Implied, Meets, Apart}
use Rattle.masks.specs.declared.mask.ClauseMask.{ClauseMask}
use Rattle.masks.specs.declared.question.Question.{Question}

-- the clause of an assumed literal
abbrev pub unit : ℕ → ClauseMask
unit l = with_literal none l

-- every clause of the list is implied
abbrev pub Each : List (List ℕ) → List ClauseMask → Type 0
Each base masks = All (Implied base) masks

-- every assumed literal is implied
abbrev pub Units : List (List ℕ) → List ℕ → Type 0
Units base assumed = (k : ℕ) → k < length assumed → Implied base (unit (slice_index assumed k))

-- the clauses that are held and the literals that are assumed follow from base
abbrev pub Given : List ClauseMask → List ℕ → List (List ℕ) → Type 0
Given masks assumed base = Each base masks × Units base assumed

-- no valuation makes all of base true
abbrev pub Hopeless : List (List ℕ) → Type 0
Hopeless base = (a : Valuation) → T (clauses a base) → ⊥

-- every clause has a literal that is true under the assignment
abbrev pub AllMet : List ClauseMask → ClauseMask → Type 0
AllMet masks assigned = All (λ m. Meets m assigned) masks

-- every assumed literal is true under it
abbrev pub AllKept : List ℕ → ClauseMask → Type 0
AllKept assumed assigned = (k : ℕ) → k < length assumed → Meets (unit (slice_index assumed k)) assigned

-- a held clause, or that of an assumed literal
abbrev pub Among : List ClauseMask → List ℕ → ClauseMask → Type 0
Among masks assumed m = Contains masks m ⊎ ((l : ℕ) × Contains assumed l × (m ≡ unit l))

-- variable j occurs in a held clause or in an assumed literal
abbrev pub Mentioned : List ClauseMask → List ℕ → ℕ → Type 0
Mentioned masks assumed j = (m : ClauseMask) × (b : Bool) × Among masks assumed m × (inside m j b ≡ true)

-- every variable of the set is one of x
abbrev pub Within : ℕ → ClauseMask → Type 0
Within x m = (j : ℕ) (c : Bool) → inside m j c ≡ true → bit x j ≡ true

-- every clause and every assumed literal has a literal in the set, or this clause has none
abbrev pub Checked : List ClauseMask → List ℕ → ClauseMask → Option ClauseMask → Type 0
Checked masks assumed set None = AllMet masks set × AllKept assumed set
Checked masks assumed set (Some m) = Among masks assumed m × Apart m set

-- the answer is right for every list of held clauses whose sets of literals these are
abbrev pub Decided : Question → Answer → Type 0
Decided question r = (held : List (List ℕ)) → question.masks.now ≡ map mask_of held → Answered held question.assumed.now r

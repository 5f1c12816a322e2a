-- Lists of decisions: which value they give a variable, and which literals they make true.
use Rattle.std.specs.Prelude.{◌≡◌, ℕ, ◌%◌, Bool, true, false, not, ◌&&◌, ◌||◌, List, [], ◌∷◌, ◌==◌, fold}
use Rattle.std.specs.Bool.{beq}
use Rattle.masks.specs.Masks.{inside, none, with_value}
use Rattle.masks.specs.declared.mask.ClauseMask.{ClauseMask}
use Rattle.trail.specs.declared.decision.Decision.{Decision}

-- whether some decision gives variable j the value b
abbrev pub has : List Decision → ℕ → Bool → Bool
has [] j b = false
has (d ∷ ds) j b = (d.variable == j && beq d.value b) || has ds j b

-- no decision is on variable j
abbrev pub Free : List Decision → ℕ → Type 0
Free ds j = (b : Bool) → has ds j b ≡ false

-- no two decisions are on one variable
abbrev pub distinct : List Decision → Bool
distinct [] = true
distinct (d ∷ ds) = not (has ds d.variable true || has ds d.variable false) && distinct ds

-- the literals that the decisions make true
abbrev pub literals_of : List Decision → ClauseMask
literals_of ds = fold (λ m d. with_value m (d.variable % 128) d.value) none ds

-- the set has the literals that the decisions make true
abbrev pub Spells : ClauseMask → List Decision → Type 0
Spells s ds = (j : ℕ) (b : Bool) → inside s j b ≡ has ds j b

-- How a clause stands under a partial assignment, given as the set of the literals that it makes true.
use Rattle.std.specs.Prelude.{◌≡◌, ℕ, ◌<◌, Bool, true, false, not, ◌⊎◌}
use Rattle.masks.specs.Masks.{inside, Meets, Apart}
use Rattle.masks.specs.declared.mask.ClauseMask.{ClauseMask}
use Rattle.masks.specs.declared.mask.Standing.{Standing}
use Rattle.masks.specs.declared.mask.Standing.TheVariants.{True, Open, Forces, False}

-- a variable that the assignment gives no value
abbrev pub Unassigned : ClauseMask → ℕ → Type 0
Unassigned s v = (b : Bool) → inside s v b ≡ false

-- each literal of m is false under s, but perhaps that of v with the sign b
abbrev pub Alone : ClauseMask → ClauseMask → ℕ → Bool → Type 0
Alone m s v b = (j : ℕ) (c : Bool) → inside m j c ≡ true → ((j ≡ v) × (c ≡ b)) ⊎ (inside s j (not c) ≡ true)

-- each literal of m is false under s
abbrev pub AllFalse : ClauseMask → ClauseMask → Type 0
AllFalse m s = (j : ℕ) (c : Bool) → inside m j c ≡ true → inside s j (not c) ≡ true

-- two literals of m, of variables that s gives no value
pub record TwoOpen (m s : ClauseMask) : Type 0 where
  pub one : ℕ
  pub one_sign : Bool
  pub one_inside : inside m one one_sign ≡ true
  pub one_open : Unassigned s one
  pub other : ℕ
  pub other_sign : Bool
  pub other_inside : inside m other other_sign ≡ true
  pub other_open : Unassigned s other
  pub different : one ≡ other → one_sign ≡ other_sign → ⊥

-- what each standing says
abbrev pub Stands : ClauseMask → ClauseMask → Standing → Type 0
Stands m s True = Meets m s
Stands m s Open = Apart m s × TwoOpen m s
Stands m s (Forces l) = (l.variable < 128) × (inside m l.variable l.value ≡ true) × Unassigned s l.variable × Alone m s l.variable l.value
Stands m s False = AllFalse m s

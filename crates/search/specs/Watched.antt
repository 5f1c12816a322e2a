-- Which variables of a clause are watched, and what is watched.
use Rattle.std.specs.Prelude.{◌≡◌, ℕ, zero, suc, ◌%◌, ◌^◌, ◌<◌, Bool, true, false, cond, not, ◌&&◌, ◌||◌, List, [], ◌∷◌, ◌++◌, length, map, None, ◌==◌, nat_lt, replicate, vec_items, vec_capacity}
use Rattle.system.specs.Literals.{bit}
use Rattle.system.specs.Spelling.{literal_of}
use Rattle.masks.specs.Masks.{inside}
use Rattle.masks.specs.declared.mask.ClauseMask.{ClauseMask}
use Rattle.masks.specs.declared.mask.Standing.{Standing}
use Rattle.masks.specs.declared.mask.Standing.TheVariants.{True, Open, Forces, False}
use Rattle.trail.specs.declared.decision.Decision.{Decision}
use Rattle.search.specs.declared.watches.Watches.{Watches}

-- the highest of the variables x, or 0 where there is none
pub record Highest (x v : ℕ) : Type 0 where
  pub is : 0 < x → bit x v ≡ true
  pub last : (j : ℕ) → v < j → bit x j ≡ false
  pub none : x ≡ 0 → v ≡ 0

-- whether the decision is on a variable of the clause other than v
abbrev pub on_other : ClauseMask → ℕ → Decision → Bool
on_other m v d = not (d.variable == v) && (inside m d.variable true || inside m d.variable false)

-- the variable of the first such decision, or 0 where there is none
abbrev pub first_other : ClauseMask → ℕ → List Decision → ℕ
first_other m v [] = 0
first_other m v (d ∷ ds) = cond (on_other m v d) d.variable (first_other m v ds)

-- what is watched: of each link its clause and its literal
abbrev pub watched : Watches → List (ℕ × ℕ)
watched w = map (λ l. (l.clause, l.literal)) (vec_items w.links)

-- of which clause each link is
abbrev pub numbers : Watches → List ℕ
numbers w = map (λ l. l.clause) (vec_items w.links)

-- two links for each of so many clauses, side by side
abbrev pub pairs : ℕ → List ℕ
pairs zero = []
pairs (suc n) = pairs n ++ n ∷ n ∷ []

-- how many links there is room for
abbrev pub room : Watches → ℕ
room w = vec_capacity w.links

-- each link stays of its clause, and there is room for as many
pub record Stays (before after : Watches) : Type 0 where
  pub clauses : numbers after ≡ numbers before
  pub space : room after ≡ room before

-- nothing is watched: there is no link, and no literal leads to one
pub record Idle (w : Watches) : Type 0 where
  pub none : vec_items w.links ≡ []
  pub heads : w.heads.value ≡ replicate 256 None

-- one more is watched, where there is room for it
abbrev pub added : ℕ → ℕ × ℕ → List (ℕ × ℕ) → List (ℕ × ℕ)
added room link links = cond (nat_lt (length links) room) (links ++ link ∷ []) links

-- the literal of the variable in the clause, plain where it has both; variables count modulo 128
abbrev pub literal_by : ClauseMask → ℕ → ℕ
literal_by m v = literal_of (v % 128) (inside m (v % 128) true)

-- the literals that the clause has of two variables are watched
abbrev pub both : ℕ → ℕ → ClauseMask → ℕ → ℕ → List (ℕ × ℕ) → List (ℕ × ℕ)
both room clause m one other links = added room (clause, literal_by m other) (added room (clause, literal_by m one) links)

-- the two highest of the variables of the clause that have no value are watched
pub record Begins (m : ClauseMask) (known clause room : ℕ) (before after : List (ℕ × ℕ)) : Type 0 where
  pub free : ℕ
  pub is : (j : ℕ) → bit free j ≡ ((inside m j true || inside m j false) && not (bit known j))
  pub one : ℕ
  pub highest : Highest free one
  pub rest : ℕ
  pub others : (j : ℕ) → bit rest j ≡ (bit free j && not (bit (2 ^ (one % 128)) j))
  pub other : ℕ
  pub next : Highest rest other
  pub made : after ≡ both room clause m one other before

-- so they are of a clause that is open, and else nothing more is watched
abbrev pub Begun : ClauseMask → ℕ → ℕ → ℕ → Standing → List (ℕ × ℕ) → List (ℕ × ℕ) → Type 0
Begun m known clause room True before after = after ≡ before
Begun m known clause room Open before after = Begins m known clause room before after
Begun m known clause room (Forces l) before after = after ≡ before
Begun m known clause room False before after = after ≡ before

-- the literal l is of the highest of the variables of the clause that have no value and are not the partner's
pub record Moves (m : ClauseMask) (known partner l : ℕ) : Type 0 where
  pub free : ℕ
  pub is : (j : ℕ) → bit free j ≡ ((inside m j true || inside m j false) && not (bit known j))
  pub rest : ℕ
  pub others : (j : ℕ) → bit rest j ≡ (bit free j && not (bit partner j))
  pub other : ℕ
  pub small : other < 128
  pub highest : Highest rest other
  pub literal : l ≡ literal_by m other

-- a link of a clause that is open comes to be of that literal, and else it stays of the one that it was of
abbrev pub Advanced : ClauseMask → ℕ → ℕ → Standing → ℕ → ℕ → Type 0
Advanced m known partner True before after = after ≡ before
Advanced m known partner Open before after = Moves m known partner after
Advanced m known partner (Forces l) before after = after ≡ before
Advanced m known partner False before after = after ≡ before

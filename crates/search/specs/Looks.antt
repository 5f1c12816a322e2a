-- Which clauses propagation looks at, and what it leaves behind.
use Rattle.std.specs.Prelude.{◌≡◌, ℕ, ◌/◌, ◌%◌, ◌==◌, ◌<◌, ◌≤◌, Bool, true, false, not, ◌||◌, ◌⊎◌, List, ◌++◌, length, slice_index, slice_index_or, vec_items}
use Rattle.system.specs.Literals.{bit}
use Rattle.system.specs.Spelling.{literal_of}
use Rattle.masks.specs.Masks.{inside}
use Rattle.masks.specs.Standings.{Stands}
use Rattle.masks.specs.declared.mask.ClauseMask.{ClauseMask}
use Rattle.masks.specs.declared.mask.Standing.{Standing}
use Rattle.masks.specs.declared.mask.Standing.TheVariants.{False}
use Rattle.trail.specs.Decisions.{has, Spells}
use Rattle.trail.specs.Entries.{entries, handed_out}
use Rattle.trail.specs.declared.decision.Decision.{Decision}
use Rattle.search.specs.Chains.{link_at}
use Rattle.search.specs.Watched.{watched, Begun}
use Rattle.search.specs.Searches.{Extends, NoChoice, Brings}
use Rattle.search.specs.declared.search.Search.{Search}
use Rattle.search.specs.declared.watches.Link.{Link}

-- on the way from the decisions ds to es the clause was looked at: it was not all false then, and what it brought was done
pub record Looked (m : ClauseMask) (ds es : List Decision) : Type 0 where
  pub before : List Decision
  pub known : ClauseMask
  pub stood : Standing
  pub after : List Decision
  pub reached : Extends ds before
  pub spelled : Spells known before
  pub stands : Stands m known stood
  pub brings : Brings m before stood after
  pub left : Extends after es
  pub not_false : stood ≡ False → ⊥

-- the first pass over clause k: it was looked at, and where it was open, two literals of it came to be watched, those of the
-- highest of its variables that had no value
pub record Swept (m : ClauseMask) (k room : ℕ) (ds es : List Decision) (links : List (ℕ × ℕ)) : Type 0 where
  pub looked : Looked m ds es
  pub known : ℕ
  pub of_known : (j : ℕ) → bit known j ≡ (has looked.after j true || has looked.after j false)
  pub before : List (ℕ × ℕ)
  pub after : List (ℕ × ℕ)
  pub begun : Begun m known k room looked.stood before after
  pub more : List (ℕ × ℕ)
  pub stand : links ≡ after ++ more

-- so it was with each of the first n clauses
abbrev pub SweptTo : ℕ → List ClauseMask → ℕ → List Decision → List Decision → List (ℕ × ℕ) → Type 0
SweptTo n ms room ds es links = (k : ℕ) (m : ClauseMask) → k < n → Swept (slice_index_or ms k m) k room ds es links

-- whether the decisions make the literal true
abbrev pub true_by : List Decision → ℕ → Bool
true_by ds l = has ds (l / 2) (l % 2 == 0)

-- the first n of the assumed literals are true by the decisions
abbrev pub AssumedTo : ℕ → List ℕ → List Decision → Type 0
AssumedTo n ls ds = (k : ℕ) → k < n → true_by ds (slice_index ls k) ≡ true

-- the first decisions, among which is no choice, make every one of the literals true
pub record Grounded (ls : List ℕ) (ds : List Decision) : Type 0 where
  pub first : List Decision
  pub unchosen : NoChoice first
  pub reached : Extends first ds
  pub assumed : AssumedTo (length ls) ls first

-- the first pass went over all the clauses, from decisions that make every assumed literal true
pub record FirstPass (ms : List ClauseMask) (ls : List ℕ) (room : ℕ) (s : Search) : Type 0 where
  pub start : List Decision
  pub assumed : AssumedTo (length ls) ls start
  pub left : Extends start (entries s.trail)
  pub swept : SweptTo (length ms) ms room start (entries s.trail) (watched s.watches)

-- the clauses of the links are numbers below n
abbrev pub Named : List Link → ℕ → Type 0
Named links n = (q : ℕ) → q < length links → (link_at links q).clause < n

-- so it was with the clause of each link of the literal
abbrev pub LookedAt : List Link → ℕ → List ClauseMask → List Decision → List Decision → Type 0
LookedAt links l ms ds es = (q : ℕ) (m : ClauseMask) → q < length links → (link_at links q).literal ≡ l → Looked (slice_index_or ms (link_at links q).clause m) ds es

-- a literal of the clause is true by the decisions, or it has both literals of a variable and so is true whatever is decided
abbrev pub Settled : ClauseMask → List Decision → Type 0
Settled m es = ((j : ℕ) × (b : Bool) × (inside m j b ≡ true) × (has es j b ≡ true)) ⊎ ((j : ℕ) × (inside m j true ≡ true) × (inside m j false ≡ true))

-- after the links of the literal l were followed: each link that is now of a literal that the decisions ds make false is of a
-- clause that is settled by the decisions es, or it was of that literal before, which is another than l
abbrev pub Settles : List Link → List Link → ℕ → List ClauseMask → List Decision → List Decision → Type 0
Settles was now l ms ds es =
    (q v : ℕ) (b : Bool) (m : ClauseMask) → q < length now → has ds v b ≡ true → (link_at now q).literal ≡ literal_of v (not b)
    → Settled (slice_index_or ms (link_at now q).clause m) es ⊎ (((link_at was q).literal ≡ (link_at now q).literal) × ((link_at now q).literal ≡ l → ⊥))

-- of the decisions es those from the place a on and before the place b leave no watched literal false behind: each link of the
-- literal that one of them makes false is of a clause that is settled by es
abbrev pub NoneBehind : List Link → List ClauseMask → List Decision → ℕ → ℕ → Type 0
NoneBehind links ms es a b =
    (j q : ℕ) (d : Decision) (m : ClauseMask) → a ≤ j → j < b → q < length links
    → (link_at links q).literal ≡ literal_of (slice_index_or es j d).variable (not (slice_index_or es j d).value)
    → Settled (slice_index_or ms (link_at links q).clause m) es

-- propagation came to its end: every decision was handed out, and those from the place a on leave no watched literal false
-- behind, neither of a held clause nor of a learned one
pub record Propagated (held : List ClauseMask) (a : ℕ) (s : Search) : Type 0 where
  pub all : length (entries s.trail) ≤ handed_out s.trail
  pub of_held : NoneBehind (vec_items s.watches.links) held (entries s.trail) a (length (entries s.trail))
  pub of_learned : NoneBehind (vec_items s.learned.watches.links) (vec_items s.learned.clauses) (entries s.trail) a (length (entries s.trail))

-- What the steps of a search do: propagating, choosing, and jumping back.
use Rattle.std.specs.Prelude.{◌≡◌, ℕ, ◌<◌, ◌≤◌, true, false, List, [], ◌∷◌, ◌++◌, length, take, All, Some, None, Option, vec_items, vec_len}
use Rattle.system.specs.Literals.{bit}
use Rattle.masks.specs.Masks.{Implied}
use Rattle.masks.specs.Questions.{Each, Given, Hopeless, AllMet, AllKept, Among, Within}
use Rattle.masks.specs.declared.question.Question.{Question}
use Rattle.masks.specs.declared.mask.ClauseMask.{ClauseMask}
use Rattle.masks.specs.declared.mask.Standing.{Standing}
use Rattle.masks.specs.declared.mask.Standing.TheVariants.{True, Open, Forces, False}
use Rattle.trail.specs.Entries.{entries, made_true, handed_out}
use Rattle.trail.specs.Changes.{Appended}
use Rattle.trail.specs.Reasons.{Refuted, Sound, height}
use Rattle.trail.specs.declared.decision.Decision.{Decision}
use Rattle.trail.specs.declared.decision.Forcing.TheVariants.{Chosen, Forced}
use Rattle.analysis.specs.Conflicts.{ChosenAt}
use Rattle.search.specs.Watched.{Idle}
use Rattle.search.specs.declared.learned.TheConstants.{MOST}
use Rattle.search.specs.declared.progress.Progress.{Progress}
use Rattle.search.specs.declared.progress.Progress.TheVariants.{Satisfied, Further}
use Rattle.search.specs.declared.search.Search.{Search}

-- decisions were added at the end
abbrev pub Extends : List Decision → List Decision → Type 0
Extends ds es = (more : List Decision) × (es ≡ ds ++ more)

-- none of the decisions is a choice
abbrev pub NoChoice : List Decision → Type 0
NoChoice ds = All (λ (d : Decision). d.forcing ≡ Chosen → ⊥) ds

-- what the decisions begin with stays, as far as there is no choice in it
abbrev pub Lasts : List Decision → List Decision → Type 0
Lasts ds es = (first : List Decision) → NoChoice first → Extends first ds → Extends first es

-- a jump goes back to a choice: those before it stay, and one decision takes the place of the choice and of all behind it
pub record Jumped (ds es : List Decision) : Type 0 where
  pub place : ℕ
  pub within : place < length ds
  pub chosen : ChosenAt ds place
  pub made : Decision
  pub is : es ≡ take place ds ++ made ∷ []

-- what looking at a clause brings, by how it stood: a literal that it forces is decided, with the clause as the reason, and else
-- the decisions stay; one that is all false is so by the decisions
abbrev pub Brings : ClauseMask → List Decision → Standing → List Decision → Type 0
Brings m ds True es = es ≡ ds
Brings m ds Open es = es ≡ ds
Brings m ds (Forces l) es = Appended ds l.variable l.value (Forced m) es
Brings m ds False es = (es ≡ ds) × Refuted m es

-- a clause that is all false, and implied wherever the premise holds
abbrev pub Conflict : List Decision → (List (List ℕ) → Type 0) → Option ClauseMask → Type 0
Conflict ds premise None = Unit {0}
Conflict ds premise (Some m) = Refuted m ds × ((base : List (List ℕ)) → premise base → Implied base m)

-- what there is of n learned clauses, or nothing where there is no room for one more
abbrev pub Roomy : {A : Type 0} → ℕ → List A → List A → Type 0
Roomy n xs ys = (n < MOST → ys ≡ xs) × (MOST ≤ n → ys ≡ [])

-- what a question asks about: the clauses that are held and the literals that are assumed follow from base
abbrev pub Asked : Question → List (List ℕ) → Type 0
Asked question base = Given question.masks.now question.assumed.now base

-- every variable of the question is one of x
abbrev pub Occurring : Question → ℕ → Type 0
Occurring question x = (m : ClauseMask) → Among question.masks.now question.assumed.now m → Within x m

-- the decisions stand and the learned clauses are implied
abbrev pub Upheld : List (List ℕ) → Search → Type 0
Upheld base s = Sound base (entries s.trail) × Each base (vec_items s.learned.clauses)

-- wherever the premise holds, they do so afterwards if they did before
abbrev pub Keeps : (List (List ℕ) → Type 0) → Search → Search → Type 0
Keeps premise before after = (base : List (List ℕ)) → premise base → Upheld base before → Upheld base after

-- wherever the premise holds and they do so, nothing can be true
abbrev pub Refutes : (List (List ℕ) → Type 0) → Search → Type 0
Refutes premise s = (base : List (List ℕ)) → premise base → Upheld base s → Hopeless base

-- a search that has not begun: nothing is decided, nothing is learned, and nothing is watched
pub record Fresh (s : Search) : Type 0 where
  pub undecided : entries s.trail ≡ []
  pub first : handed_out s.trail ≡ 0
  pub unlearned : vec_items s.learned.clauses ≡ []
  pub unwatched : Idle s.watches
  pub idle : Idle s.learned.watches

-- the last clause that was learned is what forced the last decision
abbrev pub Taught : Search → Type 0
Taught s =
    (m : ClauseMask) × (d : Decision) × (ds : List Decision) × (ms : List ClauseMask)
    × (entries s.trail ≡ ds ++ d ∷ []) × (d.forcing ≡ Forced m) × (vec_items s.learned.clauses ≡ ms ++ m ∷ [])

-- one clause more was learned, and the others were let go only where there was no room
abbrev pub Remembers : Search → Search → Type 0
Remembers before after =
    (earlier : List ClauseMask) × (m : ClauseMask) × Roomy (vec_len before.learned.clauses) (vec_items before.learned.clauses) earlier
    × (vec_items after.learned.clauses ≡ earlier ++ m ∷ [])

-- the lowest of the variables was chosen, as false
pub record Chooses (x : ℕ) (ds es : List Decision) : Type 0 where
  pub lowest : ℕ
  pub is : bit x lowest ≡ true
  pub first : (j : ℕ) → j < lowest → bit x j ≡ false
  pub made : Appended ds lowest false Chosen es

-- the number of the trail rises
abbrev pub Rises : Search → Search → Type 0
Rises before after = height 128 (entries before.trail) < height 128 (entries after.trail)

-- by the trail every clause and every assumed literal is true
abbrev pub Satisfies : Search → Question → Type 0
Satisfies s question = AllMet question.masks.now (made_true s.trail) × AllKept question.assumed.now (made_true s.trail)

-- what a turn comes to: all is true, or the number has risen
abbrev pub Turned : Question → Search → Search → Progress → Type 0
Turned question before after Satisfied = Satisfies after question
Turned question before after Further = Rises before after

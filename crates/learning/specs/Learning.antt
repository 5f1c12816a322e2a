-- What is learned from a state: the trimmed clause of literals false there, or that there is none.
use Rattle.std.specs.Prelude.{◌≡◌, ℕ, List, Some, None, Option}
use Rattle.system.specs.Literals.{bit, clause}
use Rattle.system.specs.Systems.{System, Initiation, Consecution}
use Rattle.sieve.specs.Marks.{Largest}
use Rattle.sieve.specs.Trims.{full, Trimmed}
use Rattle.literal_sieve.specs.Literal.{false_at}
use Rattle.books.specs.declared.entry.Entry.{Entry}
use Rattle.books.specs.declared.entry.Kind.TheVariants.{Found}
use Rattle.books.specs.Entries.{entry_of}
use Rattle.books.specs.Books.{meets}

-- marked literals false at s are closed where their clause, true with the book before a step, is true after it
abbrev pub LiteralClosed : System → List Entry → ℕ → List ℕ → Type 0
LiteralClosed c es s M = Consecution c (meets c es) (λ t. clause (bit t) (false_at c.n s M))

-- their clause is true in every initial state
abbrev pub Initiated : System → ℕ → List ℕ → Type 0
Initiated c s M = Initiation c (λ t. clause (bit t) (false_at c.n s M))

-- the descent from all literals false at s ends on L
abbrev pub DescendedTo : System → List Entry → ℕ → List ℕ → Type 0
DescendedTo c es s L = Largest c.n (LiteralClosed c es s) (full c.n) L

-- and L is trimmed to M: each relay from 0 up that still occurs goes where the descent without it stays initiated
abbrev pub TrimmedTo : System → List Entry → ℕ → List ℕ → List ℕ → Type 0
TrimmedTo c es s L M = Trimmed c.n (LiteralClosed c es s) (Initiated c s) c.n L M

-- the entry of the trimmed clause, where what the descent ends on is initiated
pub record LearnedClause (c : System) (es : List Entry) (s : ℕ) (e : Entry) : Type 0 where
  pub largest : List ℕ
  pub descended : DescendedTo c es s largest
  pub initiated : Initiated c s largest
  pub trimmed : List ℕ
  pub trims : TrimmedTo c es s largest trimmed
  pub entry : e ≡ entry_of Found (false_at c.n s trimmed)

-- what the descent ends on is not
pub record NothingLearned (c : System) (es : List Entry) (s : ℕ) : Type 0 where
  pub largest : List ℕ
  pub descended : DescendedTo c es s largest
  pub uninitiated : Initiated c s largest → ⊥

abbrev pub LearnedAt : System → List Entry → ℕ → Option Entry → Type 0
LearnedAt c es s (Some e) = LearnedClause c es s e
LearnedAt c es s None = NothingLearned c es s

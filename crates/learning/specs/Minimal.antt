-- What is learned from a state, in the words of induction: a minimal inductive clause that is false there, or that none is.
use Rattle.std.specs.Prelude.{◌≡◌, ℕ, not, T, List, Some, None, Option}
use Rattle.system.specs.Literals.{bit, clause, Member}
use Rattle.system.specs.Systems.{System, Inductive, OverRelays}
use Rattle.books.specs.declared.entry.Entry.{Entry}
use Rattle.books.specs.declared.entry.Kind.TheVariants.{Found}
use Rattle.books.specs.Entries.{clause_of}
use Rattle.books.specs.Books.{meets}

-- every literal of c is one of d
abbrev pub Part : List ℕ → List ℕ → Type 0
Part c d = (l : ℕ) → Member l c → Member l d

-- a part that lacks a literal of d
abbrev pub ProperPart : List ℕ → List ℕ → Type 0
ProperPart c d = Part c d × ((l : ℕ) × Member l d × (Member l c → ⊥))

-- a clause is inductive relative to the book
abbrev pub InductiveClause : System → List Entry → List ℕ → Type 0
InductiveClause c es d = Inductive c (meets c es) (λ s. clause (bit s) d)

-- no clause that is false at s is inductive
abbrev pub NoneInductive : System → List Entry → ℕ → Type 0
NoneInductive c es s = (d : List ℕ) → OverRelays c.n d → T (not (clause (bit s) d)) → InductiveClause c es d → ⊥

-- a clause that is false at s and inductive, of which no proper part is
pub record MinimalInductive (c : System) (es : List Entry) (s : ℕ) (d : List ℕ) : Type 0 where
  pub false_there : T (not (clause (bit s) d))
  pub inductive : InductiveClause c es d
  pub minimal : (p : List ℕ) → ProperPart p d → InductiveClause c es p → ⊥

-- an entry is learned exactly where some clause that is false at s is inductive, and it is a minimal one; otherwise none is
abbrev pub LearnsMinimal : System → List Entry → ℕ → Option Entry → Type 0
LearnsMinimal c es s (Some e) = (e.kind ≡ Found) × MinimalInductive c es s (clause_of e)
LearnsMinimal c es s None = NoneInductive c es s

-- What is asked of a system and its book: where a clause over relays is false.
use Rattle.std.specs.Prelude.{ℕ, not, T, List, Some, None, Option}
use Rattle.system.specs.Literals.{bit, clause}
use Rattle.system.specs.Systems.{System, Initial, Step, Initiation}
use Rattle.books.specs.declared.entry.Entry.{Entry}
use Rattle.books.specs.Books.{meets}
use Rattle.questions.specs.declared.transition.Transition.{Transition}

-- an initial state that makes a clause false, or that each makes it true
abbrev pub InitialAgainst : System → List ℕ → Option ℕ → Type 0
InitialAgainst c d (Some s) = Initial c s × T (not (clause (bit s) d))
InitialAgainst c d None = Initiation c (λ s. clause (bit s) d)

-- a step from a state that is consistent with the book to one that makes a clause false
pub record Against (c : System) (es : List Entry) (d : List ℕ) (x : Transition) : Type 0 where
  pub consistent : T (meets c es x.state)
  pub joined : Step c x.state x.successor
  pub broken : T (not (clause (bit x.successor) d))

-- such a step, or that each makes it true
abbrev pub StepAgainst : System → List Entry → List ℕ → Option Transition → Type 0
StepAgainst c es d (Some x) = Against c es d x
StepAgainst c es d None = (s t : ℕ) → T (meets c es s) → Step c s t → T (clause (bit t) d)

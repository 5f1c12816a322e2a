-- What the clause readers give where they find no fault.
use Rattle.std.specs.Prelude.{◌≡◌, ℕ, ◌+◌, List, ◌∷◌, ◌++◌, length, None}
use Rattle.system.specs.Literals.{variable_of}
use Rattle.lists.specs.Spelling.{clause_at, after_clause, clauses_in, after_clauses, spell_clauses}
use Rattle.clauses.specs.Reading.{literal_fault, clause_fault, clauses_fault}
use Rattle.lists.specs.Lists.{clauses_of}
use Rattle.clauses.specs.declared.scope.Scope.{Scope}
use Rattle.lists.specs.declared.list.ClauseList.{ClauseList}

-- a literal has no fault, and the next is to be about a variable from next up
pub record LiteralPassed (scope : Scope) (at low l next : ℕ) : Type 0 where
  pub sound : literal_fault scope at low l ≡ None
  pub above : next ≡ variable_of l + 1

-- the clause at the front was taken off without a fault
pub record ClauseOff (scope : Scope) (at : ℕ) (bs literals after : List ℕ) : Type 0 where
  pub sound : clause_fault scope at bs ≡ None
  pub front : literals ≡ clause_at bs
  pub back : after ≡ after_clause bs
  pub whole : bs ≡ length literals ∷ (literals ++ after)

-- so many clauses were: the bytes are those of the list and then the rest
pub record ClausesOff (scope : Scope) (count at : ℕ) (bs : List ℕ) (list : ClauseList) (after : List ℕ) : Type 0 where
  pub sound : clauses_fault scope count at bs ≡ None
  pub clauses : clauses_of list ≡ clauses_in count bs
  pub back : after ≡ after_clauses count bs
  pub whole : bs ≡ spell_clauses (clauses_of list) ++ after

-- What reading clauses from bytes gives: the first fault, in the order in which they are looked for.
use Rattle.std.specs.Prelude.{ℕ, zero, suc, ◌+◌, Bool, List, [], ◌∷◌, length, take, Some, None, Option, nat_le, nat_lt}
use Rattle.system.specs.Literals.{variable_of}
use Rattle.system.specs.Systems.{is_variable}
use Rattle.faults.specs.Firsts.{unmet, or_else}
use Rattle.faults.specs.declared.clause.ClauseFault.{ClauseFault}
use Rattle.faults.specs.declared.clause.ClauseFault.TheVariants.{PastEnd, Variable, Order}
use Rattle.lists.specs.Spelling.{clause_at, after_clause}
use Rattle.clauses.specs.declared.scope.Scope.{Scope}
use Rattle.clauses.specs.declared.scope.Scope.TheVariants.{Before, Across}

-- v is a variable that the clauses of a list may be about
abbrev pub in_scope : Scope → ℕ → Bool
in_scope (Before n) v = nat_lt v n
in_scope (Across n m) v = is_variable n m v

-- a literal at index at, which is to be about a variable from low up: it is first looked up in its scope and then
-- compared with the one before it
abbrev pub literal_fault : Scope → ℕ → ℕ → ℕ → Option ClauseFault
literal_fault scope at low l = or_else (unmet (in_scope scope (variable_of l)) (Variable at)) (unmet (nat_le low (variable_of l)) (Order at))

-- the literals of a clause from index at on, each about a variable above the one before
abbrev pub literals_fault : Scope → ℕ → ℕ → List ℕ → Option ClauseFault
literals_fault scope at low [] = None
literals_fault scope at low (l ∷ ls) = or_else (literal_fault scope at low l) (literals_fault scope (at + 1) (variable_of l + 1) ls)

-- the clause that the bytes from index at on begin with: first its end, then its literals
abbrev pub clause_fault : Scope → ℕ → List ℕ → Option ClauseFault
clause_fault scope at [] = Some (PastEnd at)
clause_fault scope at (len ∷ rest) = or_else (unmet (nat_le len (length rest)) (PastEnd at)) (literals_fault scope (at + 1) 0 (take len rest))

-- the first k clauses, in order
unfoldable pub clauses_fault : Scope → ℕ → ℕ → List ℕ → Option ClauseFault
clauses_fault scope zero at bs = None
clauses_fault scope (suc k) at bs = or_else (clause_fault scope at bs) (clauses_fault scope k (at + 1 + length (clause_at bs)) (after_clause bs))

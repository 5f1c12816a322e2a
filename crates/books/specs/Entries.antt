-- Entries of a book: what each kind stands for, and the clause by which a solver holds an entry.
use Rattle.std.specs.Prelude.{ℕ, Bool, true, false, not, ◌||◌, List, [], ◌∷◌, ◌==◌}
use Rattle.system.specs.Literals.{bit, clause}
use Rattle.system.specs.Spelling.{literal_of, spelled, number}
use Rattle.books.specs.declared.entry.Entry.{Entry}
use Rattle.books.specs.declared.entry.Kind.{Kind}
use Rattle.books.specs.declared.entry.Kind.TheVariants.{Blank, Found, Subgoal, Taken}

-- the number of a kind
abbrev pub kind_number : Kind → ℕ
kind_number Blank = 0
kind_number Found = 1
kind_number Subgoal = 2
kind_number Taken = 3

abbrev pub is_subgoal : Kind → Bool
is_subgoal Blank = false
is_subgoal Found = false
is_subgoal Subgoal = true
is_subgoal Taken = false

abbrev pub is_taken : Kind → Bool
is_taken Blank = false
is_taken Found = false
is_taken Subgoal = false
is_taken Taken = true

-- found and taken entries are clauses
abbrev pub is_clause : Kind → Bool
is_clause Blank = false
is_clause Found = true
is_clause Subgoal = false
is_clause Taken = true

-- what unwritten memory holds
abbrev pub blank : Entry
blank = record { kind = Blank; first = 0; second = 0; third = 0 }

-- the clause of an entry: first has the relays that occur, second those of them not negated
abbrev pub clause_of : Entry → List ℕ
clause_of e = spelled 0 32 (bit e.first) (bit e.second)

-- whether a literal stands in a clause
abbrev pub has_literal : List ℕ → ℕ → Bool
has_literal [] l = false
has_literal (k ∷ d) l = (k == l) || has_literal d l

-- the entry of a clause over relays
abbrev pub entry_of : Kind → List ℕ → Entry
entry_of kind d = record {
  kind = kind;
  first = number 32 (λ i. has_literal d (literal_of i true) || has_literal d (literal_of i false));
  second = number 32 (λ i. has_literal d (literal_of i true));
  third = 0;
}

-- the entry of a state, its successor and the target there
abbrev pub subgoal : ℕ → ℕ → ℕ → Entry
subgoal s t k = record { kind = Subgoal; first = s; second = t; third = k }

-- a clause entry admits the states where its clause is true, a subgoal every state but its own
abbrev pub admits_as : Kind → Entry → ℕ → Bool
admits_as Blank e s = true
admits_as Found e s = clause (bit s) (clause_of e)
admits_as Subgoal e s = not (s == e.first)
admits_as Taken e s = clause (bit s) (clause_of e)

abbrev pub admits : Entry → ℕ → Bool
admits e s = admits_as e.kind e s

-- the clause by which a solver holds an entry: a subgoal is the clause over so many relays that is false just at its state
abbrev pub held_as : Kind → ℕ → Entry → List ℕ
held_as Blank n e = clause_of e
held_as Found n e = clause_of e
held_as Subgoal n e = spelled 0 n (λ i. true) (λ i. not (bit e.first i))
held_as Taken n e = clause_of e

abbrev pub held_clause : ℕ → Entry → List ℕ
held_clause n e = held_as e.kind n e

-- the clauses of entries in order
abbrev pub held_clauses : ℕ → List Entry → List (List ℕ)
held_clauses n [] = []
held_clauses n (e ∷ es) = held_clause n e ∷ held_clauses n es

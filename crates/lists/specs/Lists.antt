-- The clauses that a list in bytes means.
use Rattle.std.specs.Prelude.{ℕ, List}
use Rattle.lists.specs.Spelling.{clauses_in}
use Rattle.lists.specs.declared.list.ClauseList.{ClauseList}

-- the clauses of a list
abbrev pub clauses_of : ClauseList → List (List ℕ)
clauses_of list = clauses_in list.count list.bytes.now

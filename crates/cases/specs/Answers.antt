-- The lists of a system by name, and a clause by its number.
use Rattle.std.specs.Prelude.{◌≡◌, ℕ, ◌+◌, ◌<◌, ◌≤◌, List, [], length, take, drop, Ok, Err, Result, slice_index_or}
use Rattle.system.specs.Systems.{System}
use Rattle.faults.specs.declared.case.ListName.{ListName}
use Rattle.faults.specs.declared.case.ListName.TheVariants.{Start, Step, Safety}
use Rattle.faults.specs.declared.work.WorkFault.{WorkFault}
use Rattle.faults.specs.declared.work.WorkFault.TheVariants.{NoSuchClause}
use Rattle.lists.specs.Spelling.{spell_clauses}
use Rattle.layout.specs.Spelling.{step_at, safety_at, spell}
use Rattle.cases.specs.declared.answers.Clause.{Clause}

abbrev pub list_of : ListName → System → List (List ℕ)
list_of Start c = c.start
list_of Step c = c.step
list_of Safety c = c.safety

-- the index of the first byte of a list
abbrev pub beginning : ListName → System → ℕ
beginning Start c = 18
beginning Step c = step_at c
beginning Safety c = safety_at c

-- clause j of a list, with the index of its first literal: past the clauses before it, and past its length byte; its
-- literals are the part of the bytes that begins there
pub record ClauseOf (list : ListName) (c : System) (j : ℕ) (d : Clause) : Type 0 where
  pub there : j < length (list_of list c)
  pub literals : d.literals.now ≡ slice_index_or (list_of list c) j []
  pub place : d.at ≡ beginning list c + length (spell_clauses (take j (list_of list c))) + 1
  pub part : take (length d.literals.now) (drop d.at (spell c)) ≡ d.literals.now

-- a clause by its number, or that there is none
abbrev pub Numbered : ListName → System → ℕ → Result Clause WorkFault → Type 0
Numbered list c j (Ok d) = ClauseOf list c j d
Numbered list c j (Err e) = (length (list_of list c) ≤ j) × (e ≡ NoSuchClause j)

use Rattle.std.proofs.Common.{◌≡◌, ℕ, ◌<◌, ◌||◌, true, drop}
use Rattle.system.specs.Literals.{bit}
use Rattle.system.specs.Spelling.{literal_of}
use Rattle.books.specs.Entries.{has_literal}
use Rattle.books.proofs.Meanings.{occurs}
use Rattle.books.proofs.entry.Entry.of_clause.Given as goal

-- what is noted and what is left, relay by relay
abbrev pub invariant-loop-literal : goal.invariant-loop-literal
invariant-loop-literal l = record {
  first : (i : ℕ) → i < 32 → (bit l.first i || occurs (drop l.literal-index l.literals) i) ≡ occurs l.literals i;
  second : (i : ℕ) → i < 32 → (bit l.second i || has_literal (drop l.literal-index l.literals) (literal_of i true)) ≡ has_literal l.literals (literal_of i true);
}

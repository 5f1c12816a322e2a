-- Targets, and counterexamples to induction: steps from a consistent state to a target; and the run that subgoals spell.
use Rattle.std.specs.Prelude.{ℕ, zero, suc, ◌-◌, ◌<◌, Bool, cond, not, ◌&&◌, T, List, [], ◌∷◌, length, nat_le, nat_lt, slice_index_or}
use Rattle.system.specs.Literals.{bit, clause}
use Rattle.system.specs.Systems.{System, Step}
use Rattle.books.specs.declared.entry.Entry.{Entry}
use Rattle.books.specs.Entries.{blank}
use Rattle.books.specs.Books.{meets, subgoal_at}

-- targets by number: below the number of safety clauses that clause, false at t; from 256 on the state of subgoal k - 256
abbrev pub aimed : System → List Entry → ℕ → ℕ → Bool
aimed c es k t = cond (nat_lt k (length c.safety)) (not (clause (bit t) (slice_index_or c.safety k []))) (nat_le 256 k && subgoal_at es (k - 256) t)

-- a counterexample to induction: a state that is consistent with the book has a step to a target
pub record Counterexample (c : System) (es : List Entry) (k s t : ℕ) : Type 0 where
  pub before : T (meets c es s)
  pub joined : Step c s t
  pub at : T (aimed c es k t)

-- a counterexample for the first target that has one; state and successor are free
pub record FirstCounterexample (c : System) (es : List Entry) (k s t : ℕ) : Type 0 where
  pub found : Counterexample c es k s t
  pub earliest : (j : ℕ) → j < k → (u v : ℕ) → Counterexample c es j u v → ⊥

-- no target has a counterexample
abbrev pub NoCounterexample : System → List Entry → Type 0
NoCounterexample c es = (k s t : ℕ) → Counterexample c es k s t → ⊥

-- the states after subgoal j's: its successor, then each target's successor until the target is a safety clause. Every
-- target is an earlier entry, so that j + 1 turns are enough
abbrev pub path : System → List Entry → ℕ → ℕ → List ℕ
path c es zero j = []
path c es (suc turns) j =
    (slice_index_or es j blank).second
    ∷ cond (nat_lt (slice_index_or es j blank).third (length c.safety)) [] (path c es turns ((slice_index_or es j blank).third - 256))

-- the run that ends a book: the last entry's state, and on
abbrev pub run_of : System → List Entry → List ℕ
run_of c es = (slice_index_or es (length es - 1) blank).first ∷ path c es (length es) (length es - 1)

-- What is taken of a list of candidates: those true in every initial state, and of these the largest set that steps preserve
-- together.
use Rattle.std.specs.Prelude.{ℕ, ◌<◌, T, List, [], map, length, slice_index_or}
use Rattle.system.specs.Literals.{bit, clause, clauses}
use Rattle.system.specs.Systems.{System, Initiation, Consecution, Inductive}
use Rattle.clauses.specs.Candidates.{CandidateList}
use Rattle.sieve.specs.Marks.{marked, Marks, Within, Largest}
use Rattle.candidate_sieve.specs.Candidates.{chosen}
use Rattle.learning.specs.Minimal.{Part}
use Rattle.books.specs.declared.entry.Entry.{Entry}
use Rattle.books.specs.declared.entry.Kind.TheVariants.{Taken}
use Rattle.books.specs.Entries.{clause_of, entry_of}
use Rattle.books.specs.Books.{meets}

-- marked candidates are closed where they all, true with the book before a step, are true after it
abbrev pub CandidateClosed : System → List Entry → List (List ℕ) → List ℕ → Type 0
CandidateClosed c es ds M = Consecution c (meets c es) (λ s. clauses (bit s) (chosen M ds))

-- the marks of the candidates that are true in every initial state
pub record InitiallyTrue (c : System) (ds : List (List ℕ)) (M : List ℕ) : Type 0 where
  pub marks : Marks (length ds) M
  pub only : (i : ℕ) → T (marked M i) → Initiation c (λ s. clause (bit s) (slice_index_or ds i []))
  pub every : (i : ℕ) → i < length ds → Initiation c (λ s. clause (bit s) (slice_index_or ds i [])) → T (marked M i)

-- candidates that are false in some initial state are removed, and M is what the descent on the others ends on
pub record Sieved (c : System) (es : List Entry) (ds : List (List ℕ)) (M : List ℕ) : Type 0 where
  pub candidates : CandidateList c.n ds
  pub initially : List ℕ
  pub initially_true : InitiallyTrue c ds initially
  pub largest : Largest (length ds) (CandidateClosed c es ds) initially M

-- the entries of the marked candidates, in list order
abbrev pub taken_entries : List (List ℕ) → List ℕ → List Entry
taken_entries ds M = map (entry_of Taken) (chosen M ds)

-- clauses are inductive together relative to the book
abbrev pub JointlyInductive : System → List Entry → List (List ℕ) → Type 0
JointlyInductive c es ds = Inductive c (meets c es) (λ s. clauses (bit s) ds)

-- the marked candidates are inductive together, and contain every other set of candidates that is; and the entry of each
-- candidate is its clause
pub record TakesLargest (c : System) (es : List Entry) (ds : List (List ℕ)) (M : List ℕ) : Type 0 where
  pub marks : Marks (length ds) M
  pub together : JointlyInductive c es (chosen M ds)
  pub largest : (N : List ℕ) → Marks (length ds) N → JointlyInductive c es (chosen N ds) → Within N M
  pub meaning : (i : ℕ) → i < length ds → Part (clause_of (entry_of Taken (slice_index_or ds i []))) (slice_index_or ds i []) × Part (slice_index_or ds i []) (clause_of (entry_of Taken (slice_index_or ds i [])))

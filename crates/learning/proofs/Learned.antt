-- What a learning loads, asks and descends to, where there is room for a system and its book. Assumes nothing.
use Rattle.std.proofs.Common.{◌≡◌, ℕ, ◌≤◌, true, false, Bool, not, T, ◌↔◌, List, [], length, take, set, replicate, Some, None, Ok, Err, Option, Result, sym, refl, ap, ◌∙◌, subst, subst₂, arith}
use Rattle.std.specs.Prelude.{IsTrue, is_none, if◌then◌else◌}
use Rattle.std.proofs.Math.Dec.{T_not}
use Rattle.std.proofs.lemmas.List.{take-replicate}
use Rattle.system.specs.Literals.{bit, clause}
use Rattle.system.specs.Systems.{System, Initiation}
use Rattle.system.proofs.Spelled.{spelled_over}
use Rattle.solver.specs.Answers.{need_of, spare}
use Rattle.solver.specs.declared.capacity.Capacity.{Capacity}
use Rattle.faults.specs.declared.work.WorkFault.{WorkFault}
use Rattle.sieve.specs.Marks.{marked, Marks, Largest}
use Rattle.sieve.specs.Sieves.{sift_fault, Descended}
use Rattle.sieve.specs.Trims.{full}
use Rattle.sieve.proofs.Trims.{full_marks, without_marks}
use Rattle.sieve.proofs.MarksChecked.{sift_sound}
use Rattle.sieve.proofs.Descents.{largest_same}
use Rattle.literal_sieve.specs.Literal.{AtState, false_at, ClauseClosed, need, ClosedIsConsecution}
use Rattle.books.specs.declared.entry.Entry.{Entry}
use Rattle.books.specs.Entries.{held_clauses}
use Rattle.books.specs.Books.{book_loaded, Ready}
use Rattle.books.proofs.Rooms.{clause_room, loaded_room, start_room}
use Rattle.books.proofs.Consistent.{held_over, consecution_meets}
use Rattle.questions.specs.Questions.{InitialAgainst}
use Rattle.questions.proofs.Whole.{Narrow}
use Rattle.learning.specs.Learning.{LiteralClosed, Initiated, DescendedTo}

-- what a solver holds where what was loaded fits
pub all_held : (b : Bool) (held cs : List (List ℕ)) → held ≡ (if b then cs else []) → b ≡ true → held ≡ cs
all_held true held cs e t = e
all_held false held cs e t = cc t

-- what is answered of initial states
module _ (c : System) (s : ℕ) (M d : List ℕ) (same : d ≡ false_at c.n s M) where
  told : (o : Option ℕ) → InitialAgainst c d o → IsTrue (is_none o) ↔ Initiated c s M
  told None h = (λ e. subst (λ x. Initiation c (λ t. clause (bit t) x)) same h, λ i. refl)
  told (Some t) h = (λ e. cc e, λ i. absurd (T_not _ h.1 (subst (λ x. T (clause (bit t) x)) (sym same) (i t h.0))))

  pub initiated_told : length d ≤ 32 → (o : Option ℕ) → (Narrow c.n d → InitialAgainst c d o) → (b : Bool) → b ≡ is_none o → IsTrue b ↔ Initiated c s M
  initiated_told few o answer b e =
      subst (λ x. IsTrue x ↔ Initiated c s M) (sym e)
      (told o (answer (record { over = rw same (spelled_over c.n c.n (marked M) (λ i. not (bit s i)) (omega arith)); short = few })))

-- the descent from marks given ends on out
abbrev pub DescendedFrom : System → List Entry → ℕ → List ℕ → List ℕ → Type 0
DescendedFrom c es s given out = Largest c.n (LiteralClosed c es s) given out

-- with room for a system and its book, the family over the loaded book is that over the states that are consistent with it
module _ (c : System) (es : List Entry) (s : ℕ) (capacity : Capacity) (ready : Ready c es capacity) where
  pub start_fits : (now : Capacity) → now ≡ capacity → spare (need_of c.start) [] now ≡ true
  start_fits now same = ap (spare (need_of c.start) []) same ∙ start_room c capacity (length es) ready.room

  abbrev at : AtState
  at = record { n = c.n; state = s }

  closed_same : ClosedIsConsecution c s (ClauseClosed at) → (M : List ℕ) → ClauseClosed at (book_loaded c es) M ↔ LiteralClosed c es s M
  closed_same law M =
      let a = law (held_clauses c.n es) M (held_over c es ready.ruled) in
      let b = consecution_meets c es ready.ruled (λ t. clause (bit t) (false_at c.n s M)) in
      (λ x. b.0 (a.0 x), λ x. a.1 (b.1 x))

  -- the descent over it is not refused
  module _ (given out : List ℕ) where
    abbrev Descends : AtState → List (List ℕ) → Capacity → Result (Unit {0}) WorkFault → Type 0
    Descends a held now r = Descended a.n (ClauseClosed a held) (sift_fault a.n (need a) held now given) given r out

    largest_there : ClosedIsConsecution c s (ClauseClosed at) → (r : Result (Unit {0}) WorkFault) → Descended c.n (ClauseClosed at (book_loaded c es)) None given r out → DescendedFrom c es s given out
    largest_there law (Ok x) h = largest_same c.n (ClauseClosed at (book_loaded c es)) (LiteralClosed c es s) (closed_same law) given out h
    largest_there law (Err f) h = absurd h

    descended : Marks c.n given → (a : AtState) → a ≡ at → ClosedIsConsecution c s (ClauseClosed a) → (held : List (List ℕ)) → held ≡ book_loaded c es → (now : Capacity) → now ≡ capacity
        → (r : Result (Unit {0}) WorkFault) → Descends a held now r → DescendedFrom c es s given out
    descended marks a is law held loads now same r h =
        let sound : sift_fault c.n (need at) (book_loaded c es) capacity given ≡ None = sift_sound c.n (need at) (book_loaded c es) capacity given marks (clause_room c es ready.ruled capacity ready.room) in
        let there = subst (λ x. Descends x (book_loaded c es) capacity r) is (subst₂ (λ x y. Descends a x y r) loads same h) in
        largest_there (subst (λ x. ClosedIsConsecution c s (ClauseClosed x)) is law) r
        (subst (λ (o : Option WorkFault). Descended c.n (ClauseClosed at (book_loaded c es)) o given r out) sound there)

  -- the descent from all places, as they stand first in an array
  pub descended_all : (a : AtState) → a ≡ at → ClosedIsConsecution c s (ClauseClosed a) → (held : List (List ℕ)) → held ≡ book_loaded c es → (places : ℕ) → places ≡ a.n → places ≤ 32
      → (out : List ℕ) (r : Result (Unit {0}) WorkFault) → Descends (take places (replicate 32 1)) out a held capacity r → DescendedTo c es s out
  descended_all a is law held loads places e few out r h =
      let given : take places (replicate {A = ℕ} 32 1) ≡ full c.n = take-replicate places 32 1 few ∙ ap full (e ∙ ap (λ v. v.n) is) in
      subst (λ M. DescendedFrom c es s M out) given (descended (take places (replicate 32 1)) out (subst (Marks c.n) (sym given) (full_marks c.n)) a is law held loads capacity refl r h)

  -- and the one without a relay, after the book was loaded
  pub descended_without : (M : List ℕ) → Marks c.n M → (relay : ℕ) (a : AtState) → a ≡ at → ClosedIsConsecution c s (ClauseClosed a)
      → (b : Bool) (held : List (List ℕ)) → b ≡ spare (need_of (book_loaded c es)) [] capacity → held ≡ (if b then book_loaded c es else []) → (now : Capacity) → now ≡ capacity
      → (out : List ℕ) (r : Result (Unit {0}) WorkFault) → Descends (set M relay 0) out a held now r → DescendedFrom c es s (set M relay 0) out
  descended_without M marks relay a is law b held test loads now same out r =
      descended (set M relay 0) out (without_marks c.n M relay marks) a is law held (all_held b held (book_loaded c es) loads (test ∙ loaded_room c es ready.ruled capacity ready.room)) now same r

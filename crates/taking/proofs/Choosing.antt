-- What the descent ends on where a solver holds a system and its book. Assumes nothing.
use Rattle.std.proofs.Common.{◌≡◌, ℕ, Bool, if◌then◌else◌, ◌↔◌, List, [], length, None, Ok, Err, Result, Option, ap, ◌∙◌, subst, subst₂}
use Rattle.system.specs.Literals.{bit, clauses}
use Rattle.system.specs.Systems.{System}
use Rattle.solver.specs.Answers.{need_of, spare}
use Rattle.solver.specs.declared.capacity.Capacity.{Capacity}
use Rattle.faults.specs.declared.work.WorkFault.{WorkFault}
use Rattle.layout.specs.Spelling.{Admitted}
use Rattle.clauses.specs.Candidates.{CandidateList}
use Rattle.cases.proofs.Steps.{admitted_consecution}
use Rattle.sieve.specs.Marks.{Largest}
use Rattle.sieve.specs.Sieves.{sift_fault, Descended}
use Rattle.sieve.proofs.MarksChecked.{sift_sound}
use Rattle.sieve.proofs.Descents.{largest_same}
use Rattle.candidate_sieve.specs.Candidates.{chosen, TogetherClosed}
use Rattle.candidate_sieve.proofs.Reading.{candidates_consecution}
use Rattle.books.specs.declared.entry.Entry.{Entry}
use Rattle.books.specs.Entries.{held_clauses}
use Rattle.books.specs.Books.{book_loaded, Ready}
use Rattle.books.proofs.Rooms.{loaded_room, candidates_room}
use Rattle.books.proofs.Consistent.{held_over, consecution_meets}
use Rattle.taking.specs.Taking.{CandidateClosed, InitiallyTrue, Sieved}

module _ (c : System) (es : List Entry) (capacity : Capacity) (ready : Ready c es capacity) where
  -- the book is loaded
  pub book_held : (room : Capacity) (ok : Bool) (held : List (List ℕ)) → room ≡ capacity → ok ≡ spare (need_of (book_loaded c es)) [] room
      → held ≡ (if ok then book_loaded c es else []) → held ≡ book_loaded c es
  book_held room ok held same test h =
      let e = test ∙ ap (spare (need_of (book_loaded c es)) []) same ∙ loaded_room c es ready.ruled capacity ready.room in
      h ∙ ap (λ (b : Bool). if b then book_loaded c es else []) e

  module _ (admitted : Admitted c) (ds : List (List ℕ)) (list : CandidateList c.n ds) where
    -- marks are closed relative to what is held where they are relative to the book
    closed_same : (M : List ℕ) → TogetherClosed ds (book_loaded c es) M ↔ CandidateClosed c es ds M
    closed_same M =
        let held = candidates_consecution c ds list (admitted_consecution c admitted) (held_clauses c.n es) M (held_over c es ready.ruled) in
        let book = consecution_meets c es ready.ruled (λ s. clauses (bit s) (chosen M ds)) in
        (λ h. book.0 (held.0 h), λ h. held.1 (book.1 h))

    -- nothing is refused
    ended : (given out : List ℕ) (r : Result (Unit {0}) WorkFault) → Descended (length ds) (TogetherClosed ds (book_loaded c es)) None given r out
        → Largest (length ds) (CandidateClosed c es ds) given out
    ended given out (Ok x) h = largest_same (length ds) (TogetherClosed ds (book_loaded c es)) (CandidateClosed c es ds) closed_same given out h
    ended given out (Err f) h = absurd h

    module _ (held : List (List ℕ)) (room : Capacity) (loads : held ≡ book_loaded c es) (same : room ≡ capacity) (given out : List ℕ) (initially : InitiallyTrue c ds given) where
      pub sieved : (r : Result (Unit {0}) WorkFault) → Descended (length ds) (TogetherClosed ds held) (sift_fault (length ds) (need_of ds) held room given) given r out → Sieved c es ds out
      sieved r h = record {
        candidates = list;
        initially = given;
        initially_true = initially;
        largest = ended given out r (subst (λ (o : Option WorkFault). Descended (length ds) (TogetherClosed ds (book_loaded c es)) o given r out) none
            (subst₂ (λ fs k. Descended (length ds) (TogetherClosed ds fs) (sift_fault (length ds) (need_of ds) fs k given) given r out) loads same h));
      }
        where
          none : sift_fault (length ds) (need_of ds) (book_loaded c es) capacity given ≡ None
          none = sift_sound (length ds) (need_of ds) (book_loaded c es) capacity given initially.marks (candidates_room c es ready.ruled capacity ready.room ds list.few list.formed)

-- The laws over any list of calls: soundness, decision, and what each accepted call stores.
use Rattle.std.specs.Prelude.{◌≡◌, ℕ, ◌+◌, ◌^◌, ◌<◌, ◌≤◌, true, cond, T, ◌⊎◌, ◌↔◌, List, [], ◌∷◌, length, take, Ok, Err, Result, slice_index_or}
use Rattle.system.specs.Literals.{bit, clause, Member}
use Rattle.system.specs.Systems.{System, Step, Reached, BrokenRun, Safe, Inductive}
use Rattle.solver.specs.declared.capacity.Capacity.{Capacity}
use Rattle.faults.specs.declared.work.WorkFault.{WorkFault}
use Rattle.faults.specs.declared.work.WorkFault.TheVariants.{NoSuchState, NoPlace}
use Rattle.layout.specs.Spelling.{Admitted}
use Rattle.books.specs.declared.entry.Entry.{Entry}
use Rattle.books.specs.declared.entry.Kind.TheVariants.{Found}
use Rattle.books.specs.Entries.{is_subgoal, is_clause, is_taken, blank, clause_of, subgoal}
use Rattle.books.specs.Books.{Ruled, meets}
use Rattle.books.specs.Targets.{aimed, FirstCounterexample}
use Rattle.learning.specs.Minimal.{NoneInductive, MinimalInductive}
use Rattle.taking.specs.Taking.{taken_entries, TakesLargest}
use Rattle.histories.specs.declared.verdict.Verdict.{Verdict}
use Rattle.histories.specs.declared.verdict.Verdict.TheVariants.{Undecided, Holds, BrokenAt, BrokenByEntry}
use Rattle.histories.specs.Calls.{Progress, Stage, entries, written, decided, Learned, Turned, Took}
use Rattle.histories.specs.Histories.{kept, Lived, is_broken}
use Rattle.histories.specs.Reads.{read_out, state_at}

-- in a safe system every clause of the book is true in every reached state
abbrev pub ClausesHold : System → List Entry → Type 0
ClausesHold c es = Safe c → (e : Entry) → Member e es → T (is_clause e.kind) → (s : ℕ) → Reached c s → T (clause (bit s) (clause_of e))

-- every clause of the book is inductive relative to the whole book
abbrev pub ClausesInductive : System → List Entry → Type 0
ClausesInductive c es = (e : Entry) → Member e es → T (is_clause e.kind) → Inductive c (meets c es) (λ s. clause (bit s) (clause_of e))

-- where the system holds, to be consistent with the book is inductive on its own; and only states that keep the safety list are
-- consistent. So the book shows by itself that the system is safe
abbrev pub Certified : System → Verdict → List Entry → Type 0
Certified c Undecided es = Unit {0}
Certified c Holds es = Inductive c (λ s. true) (meets c es)
Certified c (BrokenAt s) es = Unit {0}
Certified c BrokenByEntry es = Unit {0}

-- what a verdict says of the system: holding, that it is safe; broken, that the states read out are a run that contains a
-- broken state
abbrev pub Concluded : System → Verdict → List Entry → Type 0
Concluded c Undecided es = Unit {0}
Concluded c Holds es = Safe c
Concluded c (BrokenAt s) es = BrokenRun c (read_out c (BrokenAt s) es)
Concluded c BrokenByEntry es = BrokenRun c (read_out c BrokenByEntry es)

-- the entries that takings stored
abbrev pub taken_count : List Entry → ℕ
taken_count [] = 0
taken_count (e ∷ es) = cond (is_taken e.kind) 1 0 + taken_count es

-- every subgoal's state has a step to its successor, which is at its target, a safety clause or an earlier subgoal
abbrev pub SubgoalsLead : System → List Entry → Type 0
SubgoalsLead c es =
    (j : ℕ) → j < length es → T (is_subgoal (slice_index_or es j blank).kind)
    → Step c (slice_index_or es j blank).first (slice_index_or es j blank).second
    × T (aimed c (take j es) (slice_index_or es j blank).third (slice_index_or es j blank).second)

-- what holds of every work and its used entries after any list of calls
pub record Lawful (c : System) (w : Progress) (es : List Entry) : Type 0 where
  pub system : w.system ≡ c
  pub used : w.used ≡ length es
  pub within : w.used ≤ w.places
  pub ruled : Ruled c es
  pub leading : SubgoalsLead c es
  pub inductive : ClausesInductive c es
  pub sound : ClausesHold c es
  pub concluded : Concluded c w.verdict es
  pub certified : Certified c w.verdict es

abbrev pub EveryListLawful : Type 0
EveryListLawful = (c : System) (k : ℕ) (w : Progress) (es : List Entry) → Lived c k w es → Lawful c w es

-- with 2 ^ n places besides the taken entries no turn is refused for want of a place, and after 2 ^ n accepted turns an
-- accepted turn decides
abbrev pub PlacesSuffice : System → ℕ → Progress → List Entry → Type 0
PlacesSuffice c k w es =
    taken_count es + 2 ^ c.n ≤ w.places
    → (capacity : Capacity) (x y : Stage) → x.work ≡ w → kept es x ≡ es → Turned capacity x (Err NoPlace) y → ⊥

abbrev pub TurnsDecide : System → ℕ → Progress → List Entry → Type 0
TurnsDecide c k w es =
    2 ^ c.n ≤ k
    → (capacity : Capacity) (x y : Stage) → x.work ≡ w → kept es x ≡ es → Turned capacity x (Ok tt) y → T (decided y.work.verdict)

abbrev pub EveryListDecides : Type 0
EveryListDecides = (c : System) (k : ℕ) (w : Progress) (es : List Entry) → Lived c k w es → PlacesSuffice c k w es × TurnsDecide c k w es

-- what an accepted turn stores, with the verdict: the state found as a subgoal exactly where no clause false there is inductive,
-- and otherwise a minimal inductive clause that is false there. The target is the only first one, and nothing else can be stored
-- of the state and the successor
pub record Stores (c : System) (es : List Entry) (e : Entry) (v : Verdict) : Type 0 where
  pub target : ℕ
  pub state : ℕ
  pub successor : ℕ
  pub first : FirstCounterexample c es target state successor
  pub subgoal_exactly : (e ≡ subgoal state successor target) ↔ NoneInductive c es state
  pub else_minimal : (e ≡ subgoal state successor target → ⊥) → (e.kind ≡ Found) × MinimalInductive c es state (clause_of e)
  pub only_target : (k s t : ℕ) → FirstCounterexample c es k s t → k ≡ target
  pub only_entry : (d : Entry) (p : Verdict) → Learned c es target state successor d p → (d ≡ e) × (p ≡ v)

-- an accepted turn decides that the system holds and leaves the book, or stores one entry in the next place
abbrev pub Learns : Stage → Stage → Type 0
Learns x y =
    ((y.work.verdict ≡ Holds) × (y.book ≡ x.book))
    ⊎ ((e : Entry) × (y.book ≡ written x.book x.work.used (e ∷ [])) × Stores x.work.system (entries x) e y.work.verdict)

abbrev pub TurnLearns : Type 0
TurnLearns = (capacity : Capacity) (x y : Stage) → Admitted x.work.system → Turned capacity x (Ok tt) y → Learns x y

-- an accepted taking stores, in list order, the candidates of the largest set that is inductive together
pub record Takes (x : Stage) (ds : List (List ℕ)) (y : Stage) : Type 0 where
  pub marks : List ℕ
  pub stored : y.book ≡ written x.book x.work.used (taken_entries ds marks)
  pub largest : TakesLargest x.work.system (entries x) ds marks

abbrev pub TakingLargest : Type 0
TakingLargest =
    (capacity : Capacity) (x y : Stage) (ds : List (List ℕ)) → Admitted x.work.system → Took capacity x (Ok ds) (Ok tt) y → Takes x ds y

-- the state found and its successor determine the entry and the verdict of a turn, and there is one first target
abbrev pub TurnDetermined : Type 0
TurnDetermined =
    (c : System) (es : List Entry) (j k s t u v : ℕ) (d e : Entry) (p q : Verdict)
    → FirstCounterexample c es j s t → FirstCounterexample c es k u v
    → (j ≡ k) × (Learned c es k s t d p → Learned c es k s t e q → (d ≡ e) × (p ≡ q))

-- a taking leaves nothing free: it can answer and leave nothing else
abbrev pub OnlyTaking : Capacity → Stage → Result (List (List ℕ)) WorkFault → Result (Unit {0}) WorkFault → Stage → Type 0
OnlyTaking capacity x read r y = (q : Result (Unit {0}) WorkFault) (z : Stage) → Took capacity x read q z → (q ≡ r) × (z ≡ y)

abbrev pub TakingDetermined : Type 0
TakingDetermined =
    (capacity : Capacity) (x : Stage) (read : Result (List (List ℕ)) WorkFault) (r : Result (Unit {0}) WorkFault) (y : Stage)
    → Took capacity x read r y → OnlyTaking capacity x read r y

-- of a broken work over its book as left, the states read out from 0 until none is left are a run that contains a broken state
pub record ReadsRun (c : System) (w : Progress) (book : List Entry) : Type 0 where
  pub run : List ℕ
  pub broken_run : BrokenRun c run
  pub read : (j : ℕ) → j < length run → state_at w book j ≡ Ok (slice_index_or run j 0)
  pub ended : (j : ℕ) → length run ≤ j → state_at w book j ≡ Err (NoSuchState j)

abbrev pub BrokenReadsRun : Type 0
BrokenReadsRun =
    (c : System) (k : ℕ) (w : Progress) (es book : List Entry) → Lived c k w es → T (is_broken w.verdict) → length book ≡ w.places
    → kept es (record { work = w; book = book; held = [] }) ≡ es → ReadsRun c w book

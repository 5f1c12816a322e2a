-- What calls on small systems give, worked out over the definitions: each example says of one call all that it can answer
-- and leave.
use Rattle.std.specs.Prelude.{◌≡◌, ℕ, ◌<◌, ◌≤◌, true, ◌⊎◌, ◌↔◌, List, [], ◌∷◌, ◌++◌, length, Ok, Err, Result}
use Rattle.system.specs.Systems.{System}
use Rattle.solver.specs.declared.capacity.Capacity.{Capacity}
use Rattle.solver.specs.Laws.{SmallestQuestions}
use Rattle.faults.specs.declared.work.WorkFault.{WorkFault}
use Rattle.faults.specs.declared.work.WorkFault.TheVariants.{NoPlace}
use Rattle.books.specs.declared.entry.Entry.{Entry}
use Rattle.books.specs.declared.entry.Kind.{Kind}
use Rattle.books.specs.declared.entry.Kind.TheVariants.{Found, Taken}
use Rattle.books.specs.Entries.{subgoal}
use Rattle.books.specs.Books.{enough}
use Rattle.histories.specs.declared.verdict.Verdict.TheVariants.{Undecided, BrokenAt, BrokenByEntry}
use Rattle.histories.specs.Calls.{Progress, Stage, entries, storing, holding, wiped, fresh, Opened, Turned, Took}
use Rattle.histories.specs.Reads.{read_out}
use Rattle.layout.specs.Reading.{read_case}
use Rattle.worked.specs.Systems.{follower, follower_bytes, loose, exchange, single}
use Rattle.worked.specs.Descents.{WorkedDescents, three}

-- a stage on which nothing is decided, with just these entries used of a book of so many places, and room in the solver
pub record StandingAt (c : System) (places : ℕ) (es : List Entry) (capacity : Capacity) (x : Stage) : Type 0 where
  pub work : x.work ≡ record { system = c; places = places; used = length es; verdict = Undecided }
  pub size : length x.book ≡ places
  pub used : entries x ≡ es
  pub room : enough capacity c places ≡ true

-- what a call on a stage answers and leaves
abbrev pub Outcome : Type 1
Outcome = Stage → Result (Unit {0}) WorkFault → Stage → Type 0

-- just this answer and just this stage
abbrev pub only : Result (Unit {0}) WorkFault → (Stage → Stage) → Outcome
only answer left x r y = (r ≡ answer) × (y ≡ left x)

-- from every such stage, a turn and a taking of these candidates give exactly this
abbrev pub TurnGives : System → ℕ → List Entry → Outcome → Type 0
TurnGives c places es outcome =
    (capacity : Capacity) (x : Stage) → StandingAt c places es capacity x
    → (r : Result (Unit {0}) WorkFault) (y : Stage) → Turned capacity x r y ↔ outcome x r y

abbrev pub TakingGives : System → ℕ → List Entry → List (List ℕ) → Outcome → Type 0
TakingGives c places es candidates outcome =
    (capacity : Capacity) (x : Stage) → StandingAt c places es capacity x
    → (r : Result (Unit {0}) WorkFault) (y : Stage) → Took capacity x (Ok candidates) r y ↔ outcome x r y

-- opening gives exactly this work, and a solver that holds nothing
abbrev pub OpeningGives : System → (ℕ → Progress) → Type 0
OpeningGives c new =
    (capacity : Capacity) (places : ℕ) (held : List (List ℕ)) → places ≤ 8192 → enough capacity c places ≡ true
    → (r : Result Progress WorkFault) (after : List (List ℕ)) → Opened capacity c places held r after ↔ ((r ≡ Ok (new places)) × (after ≡ []))

-- the clause that one of the relays with these bits is off, as an entry
abbrev pub off_as : Kind → ℕ → Entry
off_as kind relays = record { kind = kind; first = relays; second = 0; third = 0 }

-- the states of two relays in which relay 0 is on
abbrev pub ZeroOn : ℕ → Type 0
ZeroOn t = (t ≡ 1) ⊎ (t ≡ 3)

pub record WorkedExamples : Type 0 where
  -- the descents over the follower and the exchange, and the smallest questions to a solver
  pub descents : WorkedDescents
  pub questions : SmallestQuestions
  -- the bytes of the follower are read as it
  pub read : read_case follower_bytes ≡ Ok follower
  -- there is such a stage wherever the entries fit, and storing one entry more leaves that with one entry more
  pub stages : (c : System) (places : ℕ) (es : List Entry) → length es ≤ places → (capacity : Capacity) × ((x : Stage) × StandingAt c places es capacity x)
  pub next : (c : System) (places : ℕ) (es : List Entry) (capacity : Capacity) (x : Stage) → StandingAt c places es capacity x → length es < places
      → (e : Entry) → StandingAt c places (es ++ (e ∷ [])) capacity (storing x (e ∷ []) Undecided)
  -- the follower: one turn finds the clause that relay 1 is off, and the next that the system holds
  pub found : TurnGives follower 4 [] (only (Ok tt) (λ x. storing x (off_as Found 2 ∷ []) Undecided))
  pub holds : TurnGives follower 4 (off_as Found 2 ∷ []) (only (Ok tt) holding)
  -- in a book without places the turn is refused, and the work stays undecided
  pub no_place : TurnGives follower 0 [] (only (Err NoPlace) wiped)
  -- with relay 1 free: one turn makes state 2 a subgoal, before either state in which relay 0 is on; the next makes state 0
  -- one, before that one, which breaks the system since it is initial; and the run read out is these three states
  pub blocked : TurnGives loose 4 [] (λ x r y. (r ≡ Ok tt) × ((t : ℕ) × ZeroOn t × (y ≡ storing x (subgoal 2 t 0 ∷ []) Undecided)))
  pub broken : (t : ℕ) → ZeroOn t → TurnGives loose 4 (subgoal 2 t 0 ∷ []) (only (Ok tt) (λ x. storing x (subgoal 0 2 256 ∷ []) BrokenByEntry))
  pub run : (t : ℕ) → read_out loose BrokenByEntry (subgoal 2 t 0 ∷ subgoal 0 2 256 ∷ []) ≡ 0 ∷ 2 ∷ t ∷ []
  -- the exchange: of the three candidates the two that are true at the start are taken; the first of these alone is not
  pub taken : TakingGives exchange 4 [] three (only (Ok tt) (λ x. storing x (off_as Taken 1 ∷ off_as Taken 2 ∷ []) Undecided))
  pub not_taken : TakingGives exchange 4 [] ((1 ∷ []) ∷ []) (only (Ok tt) (λ x. storing x [] Undecided))
  -- the single relay: it may be on at the start, where it is broken, and the run read out is that state
  pub opened : OpeningGives single (λ places. fresh single places (BrokenAt 1))
  pub opened_run : read_out single (BrokenAt 1) [] ≡ 1 ∷ []

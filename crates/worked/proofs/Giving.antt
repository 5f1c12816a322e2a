-- What a call gives on a stage whose work and used entries are known. Assumes nothing.
use Rattle.std.proofs.Common.{◌≡◌, ℕ, ◌+◌, ◌<◌, ◌≤◌, not, Option, nat_eq, ◌↔◌, List, [], ◌∷◌, length, None, Ok, Err, Result, refl, sym, ap, ap₂, ◌∙◌, subst, subst₂, arith}
use Rattle.std.proofs.lemmas.Bool.{eq-eqb}
use Rattle.system.specs.Systems.{System}
use Rattle.solver.specs.declared.capacity.Capacity.{Capacity}
use Rattle.faults.specs.declared.work.WorkFault.{WorkFault}
use Rattle.faults.specs.declared.work.WorkFault.TheVariants.{NoPlace, Decided, BookSize, NoCapacity}
use Rattle.faults.specs.Firsts.{unmet}
use Rattle.faults.proofs.Firsts.{none_first, none_unmet}
use Rattle.books.specs.declared.entry.Entry.{Entry}
use Rattle.books.specs.Books.{Ruled, rules_fault, enough}
use Rattle.books.specs.Targets.{Counterexample, FirstCounterexample, NoCounterexample}
use Rattle.taking.specs.Taking.{Sieved, taken_entries}
use Rattle.histories.specs.declared.verdict.Verdict.{Verdict}
use Rattle.histories.specs.declared.verdict.Verdict.TheVariants.{Undecided}
use Rattle.histories.specs.Calls.{Progress, Stage, entries, decided, checked, storing, holding, wiped, Learned, Turned, turn_refused, turn_holds, turn_full, turn_stores, Took, take_stores}
use Rattle.worked.specs.Examples.{StandingAt}
use Rattle.histories.proofs.Determined.{turn_determined, taking_determined}

module _ (c : System) (places : ℕ) (es : List Entry) (capacity : Capacity) (x : Stage) (h : StandingAt c places es capacity x) (ruled : Ruled c es) where
  system_is : x.work.system ≡ c
  system_is = ap (λ (w : Progress). w.system) h.work

  places_is : x.work.places ≡ places
  places_is = ap (λ (w : Progress). w.places) h.work

  used_is : x.work.used ≡ length es
  used_is = ap (λ (w : Progress). w.used) h.work

  -- the checks, of which none refuses
  abbrev checks : List (Option WorkFault)
  checks =
      unmet (not (decided x.work.verdict)) Decided
      ∷ unmet (nat_eq (length x.book) x.work.places) BookSize
      ∷ rules_fault x.work.system (entries x)
      ∷ unmet (enough capacity x.work.system x.work.places) NoCapacity
      ∷ []

  passes : checked capacity x ≡ None
  passes = none_first checks (undecided, (right_size, (ap₂ rules_fault system_is h.used ∙ ruled, (ample, tt))))
    where
      undecided : unmet (not (decided x.work.verdict)) Decided ≡ None
      undecided = ap (λ (w : Progress). unmet (not (decided w.verdict)) Decided) h.work

      right_size : unmet (nat_eq (length x.book) x.work.places) BookSize ≡ None
      right_size = none_unmet (nat_eq (length x.book) x.work.places) BookSize (eq-eqb (length x.book) x.work.places (h.size ∙ sym places_is))

      ample : unmet (enough capacity x.work.system x.work.places) NoCapacity ≡ None
      ample = none_unmet (enough capacity x.work.system x.work.places) NoCapacity (ap₂ (enough capacity) system_is places_is ∙ h.room)

  to_stage : (P : System → List Entry → Type 0) → P c es → P x.work.system (entries x)
  to_stage P = subst₂ P (sym system_is) (sym h.used)

  from_stage : (P : System → List Entry → Type 0) → P x.work.system (entries x) → P c es
  from_stage P = subst₂ P system_is h.used

  module _ (r : Result (Unit {0}) WorkFault) (y : Stage) where
    -- no counterexample: the turn decides
    pub turn_decides : NoCounterexample c es → Turned capacity x r y ↔ ((r ≡ Ok tt) × (y ≡ holding x))
    turn_decides n = (to, λ o. turn_holds passes (to_stage NoCounterexample n) o.0 o.1)
      where
        none : (k s t : ℕ) → FirstCounterexample x.work.system (entries x) k s t → ⊥
        none k s t f = n k s t (from_stage (λ d ds. Counterexample d ds k s t) f.found)

        to : Turned capacity x r y → (r ≡ Ok tt) × (y ≡ holding x)
        to (turn_refused f a e q) = let p = passes in cc
        to (turn_holds a m e q) = (e, q)
        to (turn_full a k s t f l e q) = absurd (none k s t f)
        to (turn_stores a k s t f l e v learned b q) = absurd (none k s t f)

    module _ (k s t : ℕ) (first : FirstCounterexample c es k s t) where
      some : NoCounterexample x.work.system (entries x) → ⊥
      some m = from_stage NoCounterexample m k s t first.found

      -- a counterexample and no place: the turn is refused
      pub turn_refuses : places ≤ length es → Turned capacity x r y ↔ ((r ≡ Err NoPlace) × (y ≡ wiped x))
      turn_refuses low = (to, λ o. turn_full passes k s t (to_stage (λ d ds. FirstCounterexample d ds k s t) first) (let p = used_is in let q = places_is in omega arith) o.0 o.1)
        where
          to : Turned capacity x r y → (r ≡ Err NoPlace) × (y ≡ wiped x)
          to (turn_refused f a e q) = let p = passes in cc
          to (turn_holds a m e q) = absurd (some m)
          to (turn_full a i u v f l e q) = (e, q)
          to (turn_stores a i u v f l e w learned b q) = absurd (let p = used_is in let q = places_is in let z : ⊥ = omega arith in z)

      -- a counterexample and a place: the turn stores what it learns from one for the same target
      pub turn_learns : length es < places → Turned capacity x r y
          → (r ≡ Ok tt) × ((u v : ℕ) × FirstCounterexample c es k u v × ((e : Entry) (w : Verdict) → Learned c es k u v e w → y ≡ storing x (e ∷ []) w))
      turn_learns low (turn_refused f a e q) = let p = passes in cc
      turn_learns low (turn_holds a m e q) = absurd (some m)
      turn_learns low (turn_full a i u v f l e q) = absurd (let p = used_is in let q = places_is in let z : ⊥ = omega arith in z)
      turn_learns low (turn_stores a i u v f l d p learned b q) =
          let first_here = from_stage (λ z zs. FirstCounterexample z zs i u v) f in
          let same = (turn_determined c es i k u v s t d d p p first_here first).0 in
          let mine = subst (λ j. Learned c es j u v d p) same (from_stage (λ z zs. Learned z zs i u v d p) learned) in
          let counter = subst (λ j. FirstCounterexample c es j u v) same first_here in
          (b, (u, v, counter, λ e w l. let z = (turn_determined c es k k u v s t d e p w counter first).1 mine l in q ∙ ap (λ a. storing x (a ∷ []) p) z.0 ∙ ap (storing x (e ∷ [])) z.1))

      pub learns_turn : length es < places → (e : Entry) (v : Verdict) → Learned c es k s t e v → (r ≡ Ok tt) × (y ≡ storing x (e ∷ []) v) → Turned capacity x r y
      learns_turn low e v l o =
          turn_stores passes k s t (to_stage (λ d ds. FirstCounterexample d ds k s t) first) (let p = used_is in let q = places_is in omega arith) e v (to_stage (λ d ds. Learned d ds k s t e v) l) o.0 o.1

      -- where what it learns is one entry whatever the counterexample
      pub turn_stores_one : length es < places → (e : Entry) (v : Verdict) → ((i j : ℕ) → Counterexample c es k i j → Learned c es k i j e v) → Turned capacity x r y ↔ ((r ≡ Ok tt) × (y ≡ storing x (e ∷ []) v))
      turn_stores_one low e v every = (λ o. let z = turn_learns low o in (z.0, z.1.3 e v (every z.1.0 z.1.1 z.1.2.found)), learns_turn low e v (every s t first.found))

  -- the outcome of the sieve and the places for it: the taking stores it
  module _ (ds : List (List ℕ)) (M : List ℕ) (sieved : Sieved c es ds M) (low : length es + length (taken_entries ds M) ≤ places) where
    stores : (r : Result (Unit {0}) WorkFault) (y : Stage) → (r ≡ Ok tt) × (y ≡ storing x (taken_entries ds M) Undecided) → Took capacity x (Ok ds) r y
    stores r y o = take_stores passes ds refl M (to_stage (λ d fs. Sieved d fs ds M) sieved) (let p = used_is in let q = places_is in omega arith) o.0 o.1

    pub taking_stores : (r : Result (Unit {0}) WorkFault) (y : Stage) → Took capacity x (Ok ds) r y ↔ ((r ≡ Ok tt) × (y ≡ storing x (taken_entries ds M) Undecided))
    taking_stores r y =
        (taking_determined capacity x (Ok ds) (Ok tt) (storing x (taken_entries ds M) Undecided) (stores (Ok tt) (storing x (taken_entries ds M) Undecided) (refl, refl)) r y, stores r y)

-- What a turn comes to after its checks. Assumes nothing.
use Rattle.std.proofs.Common.{◌≡◌, ℕ, ◌+◌, ◌≤◌, true, List, [], ◌∷◌, length, take, None, Ok, Err, Result, is_ok, if◌then◌else◌, sym, refl, ap, ◌∙◌, subst, arith}
use Rattle.std.proofs.lemmas.List.{length-take-le}
use Rattle.system.specs.Systems.{System}
use Rattle.solver.specs.Answers.{need_of, spare}
use Rattle.solver.specs.declared.capacity.Capacity.{Capacity}
use Rattle.solver.specs.declared.capacity.NoCapacity.{NoCapacity}
use Rattle.faults.specs.declared.work.WorkFault.{WorkFault}
use Rattle.faults.specs.declared.work.WorkFault.TheVariants.{NoPlace}
use Rattle.books.specs.declared.entry.Entry.{Entry}
use Rattle.books.specs.Books.{book_loaded, Ready, Holding}
use Rattle.books.specs.Targets.{FirstCounterexample, NoCounterexample}
use Rattle.books.proofs.Rooms.{loaded_room}
use Rattle.histories.specs.declared.verdict.Verdict.{Verdict}
use Rattle.histories.specs.declared.verdict.Verdict.TheVariants.{Holds}
use Rattle.histories.specs.Calls.{Progress, Stage, checked, written, Learned, Turned, turn_holds, turn_full, turn_stores}
use Rattle.histories.proofs.Standing.{checked_open}
use Rattle.work.proofs.Checked.{checked_ready}

-- a work after one entry more, with a verdict
abbrev pub stored_to : Progress → Verdict → Progress
stored_to w v = record { system = w.system; places = w.places; used = w.used + 1; verdict = v }

module _ (capacity : Capacity) (c : System) (places used : ℕ) (v : Verdict) (work : Progress) (view : record { system = c; places = places; used = used; verdict = v } ≡ work)
    (book : List Entry) (held : List (List ℕ)) where
  -- the stage of a work, as the turn finds it
  abbrev with_work : Progress → Stage
  with_work w = record { work = w; book = book; held = held }

  module _ (h : checked capacity (with_work work) ≡ None) (within : used ≤ places) (most : places ≤ 8192) where
    passes : checked capacity (with_work (record { system = c; places = places; used = used; verdict = v })) ≡ None
    passes = subst (λ w. checked capacity (with_work w) ≡ None) (sym view) h

    -- in the words of the work
    told : (r : Result (Unit {0}) WorkFault) (after : Progress → Stage) → Turned capacity (with_work (record { system = c; places = places; used = used; verdict = v })) r (after (record { system = c; places = places; used = used; verdict = v }))
        → Turned capacity (with_work work) r (after work)
    told r after t = subst (λ w. Turned capacity (with_work w) r (after w)) view t

    abbrev es : List Entry
    es = take used book

    ready : Ready c es capacity
    ready = checked_ready capacity (with_work (record { system = c; places = places; used = used; verdict = v })) passes within

    -- the solver was loaded with case and book
    pub holding_now : (r : Result (Unit {0}) NoCapacity) (after : List (List ℕ)) (room : Capacity) → is_ok r ≡ spare (need_of (book_loaded c es)) [] capacity
        → after ≡ (if is_ok r then book_loaded c es else []) → room ≡ capacity → Holding c es after room × (length es ≤ 65280)
    holding_now r after room test e same =
        let ok : is_ok r ≡ true = test ∙ loaded_room c es ready.ruled capacity ready.room in
        let size = (checked_open capacity (with_work (record { system = c; places = places; used = used; verdict = v })) passes).1 in
        let long = length-take-le used book (omega arith) in
        (record { ready = subst (Ready c es) (sym same) ready; loads = e ∙ ap (λ b. if b then book_loaded c es else []) ok }, omega arith)

    pub holds_now : (after : List (List ℕ)) → NoCounterexample c es → after ≡ book_loaded c es
        → Turned capacity (with_work work) (Ok tt) (record { work = record { system = c; places = places; used = used; verdict = Holds }; book = book; held = after })
    holds_now after none e =
        let y : Progress → Stage = λ w. record { work = record { system = c; places = places; used = used; verdict = Holds }; book = book; held = after } in
        told (Ok tt) y (turn_holds passes none refl (ap (λ hs. record { work = record { system = c; places = places; used = used; verdict = Holds }; book = book; held = hs }) e))

    pub full_now : (k s t : ℕ) (after : List (List ℕ)) → FirstCounterexample c es k s t → used ≡ places → after ≡ []
        → Turned capacity (with_work work) (Err NoPlace) (record { work = work; book = book; held = after })
    full_now k s t after first full e =
        let y : Progress → Stage = λ w. record { work = w; book = book; held = after } in
        told (Err NoPlace) y (turn_full passes k s t first (omega arith) refl (ap (λ hs. record { work = record { system = c; places = places; used = used; verdict = v }; book = book; held = hs }) e))

    pub stores_now : (k s t : ℕ) (e : Entry) (b : Verdict) (next : Progress) (more : List Entry) (after : List (List ℕ)) → FirstCounterexample c es k s t
        → (used ≡ places → ⊥) → Learned c es k s t e b
        → next ≡ record { system = c; places = places; used = used + 1; verdict = b } → more ≡ written book used (e ∷ []) → after ≡ []
        → Turned capacity (with_work work) (Ok tt) (record { work = next; book = more; held = after })
    stores_now k s t e b next more after first room learned p q d =
        let y : Progress → Stage = λ w. record { work = next; book = more; held = after } in
        told (Ok tt) y (turn_stores passes k s t first (omega arith) e b learned refl (rw (p, q, d) refl))

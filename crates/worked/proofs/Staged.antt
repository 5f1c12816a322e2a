-- That there are stages on which nothing is decided, and that storing an entry leaves one. Assumes nothing.
use Rattle.std.proofs.Common.{◌≡◌, ℕ, ◌+◌, ◌-◌, ◌<◌, ◌≤◌, true, List, [], ◌∷◌, ◌++◌, length, take, drop, replicate, ◌&&◌, le-leb, refl, sym, ap, ap₂, ◌∙◌, arith}
use Rattle.std.proofs.lemmas.List.{length-append, length-replicate, length-drop}
use Rattle.std.proofs.Math.Seq.{take-append_seam, take-append-add}
use Rattle.system.specs.Systems.{System}
use Rattle.solver.specs.declared.capacity.Capacity.{Capacity}
use Rattle.books.specs.declared.entry.Entry.{Entry}
use Rattle.books.specs.Entries.{blank}
use Rattle.books.specs.Books.{room_for, enough}
use Rattle.histories.specs.declared.verdict.Verdict.TheVariants.{Undecided}
use Rattle.histories.specs.Calls.{Progress, Stage, storing}
use Rattle.worked.specs.Examples.{StandingAt}

pub stages : (c : System) (places : ℕ) (es : List Entry) → length es ≤ places → (capacity : Capacity) × ((x : Stage) × StandingAt c places es capacity x)
stages c places es h = (room_for c places, (record { work = w; book = es ++ rest; held = [] }, record { work = refl; size = size; used = take-append_seam es rest; room = room }))
  where
    w : Progress
    w = record { system = c; places = places; used = length es; verdict = Undecided }

    rest : List Entry
    rest = replicate (places - length es) blank

    size : length (es ++ rest) ≡ places
    size = length-append es rest ∙ ap (λ k. length es + k) (length-replicate (places - length es) blank) ∙ omega arith

    room : enough (room_for c places) c places ≡ true
    room = ap₂ ◌&&◌ (le-leb (0 + (room_for c places).clauses) (room_for c places).clauses (omega arith)) (le-leb (0 + (room_for c places).literals) (room_for c places).literals (omega arith))

pub next : (c : System) (places : ℕ) (es : List Entry) (capacity : Capacity) (x : Stage) → StandingAt c places es capacity x → length es < places
    → (e : Entry) → StandingAt c places (es ++ (e ∷ [])) capacity (storing x (e ∷ []) Undecided)
next c places es capacity x h less e = record { work = work; size = size; used = used; room = h.room }
  where
    used_is : x.work.used ≡ length es
    used_is = ap (λ (w : Progress). w.used) h.work

    work : (storing x (e ∷ []) Undecided).work ≡ record { system = c; places = places; used = length (es ++ (e ∷ [])); verdict = Undecided }
    work = ap (λ (w : Progress). record { system = w.system; places = w.places; used = w.used + 1; verdict = Undecided }) h.work
        ∙ ap (λ k. record { system = c; places = places; used = k; verdict = Undecided }) (sym (length-append es (e ∷ [])))

    size : length (take x.work.used x.book ++ (e ∷ drop (x.work.used + 1) x.book)) ≡ places
    size = ap (λ fs. length (fs ++ (e ∷ drop (x.work.used + 1) x.book))) h.used
        ∙ length-append es (e ∷ drop (x.work.used + 1) x.book)
        ∙ (let d = length-drop (x.work.used + 1) x.book in let b = h.size in let u = used_is in omega arith)

    used : take (x.work.used + 1) (take x.work.used x.book ++ (e ∷ drop (x.work.used + 1) x.book)) ≡ es ++ (e ∷ [])
    used = ap₂ (λ k fs. take (k + 1) (fs ++ (e ∷ drop (x.work.used + 1) x.book))) used_is h.used
        ∙ take-append-add es (e ∷ drop (x.work.used + 1) x.book) 1

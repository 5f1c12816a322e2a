-- Turning until a verdict is given or a turn is refused: what was done so far, that it ends, and what it ends on. Assumes nothing.
use Rattle.std.proofs.Common.{◌≡◌, ℕ, suc, ◌+◌, ◌-◌, ◌<◌, ◌≤◌, Bool, true, false, cond, not, T, List, length, get_or, Ok, Option, sym, refl, subst, arith, w8, Fits}
use Rattle.solver.specs.declared.capacity.Capacity.{Capacity}
use Rattle.faults.specs.declared.work.WorkFault.{WorkFault}
use Rattle.faults.specs.declared.work.WorkFault.TheVariants.{NoPlace}
use Rattle.books.specs.declared.entry.Entry.{Entry}
use Rattle.histories.specs.Calls.{Progress, Stage, decided, OpenedFrom, Turned, turn_refused, turn_holds, turn_full, turn_stores}
use Rattle.histories.specs.Promises.{Turns, Ended, Judging, JudgingPromises}
use Rattle.histories.proofs.Promised.{err_ok}
use Rattle.histories.proofs.Judged.{judging_promises}

-- how many turns are left at most
pub turns_left : Progress → ℕ
turns_left w = (w.places - w.used) + cond (decided w.verdict) 0 1

open_left : (places used : ℕ) (b : Bool) → T (not b) → (places - used) + cond b 0 1 ≡ suc (places - used)
open_left places used b u = grind arith

most_left : (places used : ℕ) (b : Bool) → (places - used) + cond b 0 1 ≤ suc (places - used)
most_left places used b = grind arith

pub turn_nearer : (capacity : Capacity) (x y : Stage) → T (not (decided x.work.verdict)) → Turned capacity x (Ok tt) y → turns_left y.work < turns_left x.work
unfolding turns_left
turn_nearer capacity x y u (turn_refused f a e z) = absurd (err_ok (Ok tt) f tt e refl)
turn_nearer capacity x y u (turn_full a k s t f l e z) = absurd (err_ok (Ok tt) NoPlace tt e refl)
turn_nearer capacity x y u (turn_holds a n e z) =
    let now = open_left x.work.places x.work.used (decided x.work.verdict) u in
    subst (λ (y : Stage). (y.work.places - y.work.used) + cond (decided y.work.verdict) 0 1 < (x.work.places - x.work.used) + cond (decided x.work.verdict) 0 1) (sym z) (omega arith)
turn_nearer capacity x y u (turn_stores a k s t f l e v learned r z) =
    let now = open_left x.work.places x.work.used (decided x.work.verdict) u in
    let next = most_left x.work.places (x.work.used + 1) (decided v) in
    subst (λ (y : Stage). (y.work.places - y.work.used) + cond (decided y.work.verdict) 0 1 < (x.work.places - x.work.used) + cond (decided x.work.verdict) 0 1) (sym z) (omega arith)

-- some turns were accepted since the opening
pub record Turning (capacity : Capacity) (x y : Stage) : Type 0 where
  pub accepted : ℕ
  pub turns : Turns capacity x accepted y

-- what turning ends on is a judging, and keeps its promises
module _ (capacity : Capacity) (bs : List ℕ) (small : (i : ℕ) → Fits w8 (get_or bs i 0)) (book : List Entry) (held after : List (List ℕ)) (w : Progress) where
  pub judged : OpenedFrom capacity bs (length book) held (Ok w) after → (last : Stage) → Turning capacity (record { work = w; book = book; held = after }) last
      → (f : Option WorkFault) (y : Stage) → Ended capacity last f y → (closed : Progress) → closed ≡ y.work
      → Judging capacity bs book held f (record { work = closed; book = y.book; held = y.held }) × JudgingPromises bs f closed y.book
  judged o last t f y e closed same =
      let told : Judging capacity bs book held f y = record { opened = w; after = after; opening = o; accepted = t.accepted; last = last; turns = t.turns; ends = e } in
      subst (λ v. Judging capacity bs book held f (record { work = v; book = y.book; held = y.held }) × JudgingPromises bs f v y.book) (sym same)
      (told, judging_promises capacity bs small book held f y told)

-- the loop's test
pub undecided : (b d : Bool) → b ≡ d → b ≡ false → T (not d)
undecided b d e f = grind arith

pub ended : (b d : Bool) → b ≡ d → b ≡ true → T d
ended b d e f = grind arith

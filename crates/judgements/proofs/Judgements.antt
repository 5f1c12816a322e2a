-- What a judging comes to: how many turns were accepted, what is told of it, and that nothing else is refused. Assumes nothing.
use Rattle.std.proofs.Common.{◌≡◌, ℕ, ◌+◌, ◌<◌, ◌≤◌, true, not, T, List, [], length, get_or, take, Some, None, Ok, Err, Option, sym, refl, ap, ◌∙◌, subst, subst₂, inl, inr, arith, nat_le, w8, Fits}
use Rattle.std.proofs.lemmas.Bool.{le-leb, lt-leb}
use Rattle.system.specs.Systems.{System}
use Rattle.solver.specs.declared.capacity.Capacity.{Capacity}
use Rattle.faults.specs.Firsts.{unmet}
use Rattle.faults.proofs.Firsts.{or_none, unmet_none, none_unmet}
use Rattle.faults.specs.declared.case.CaseFault.{CaseFault}
use Rattle.faults.specs.declared.case.CaseFault.TheVariants.{NoMemory}
use Rattle.faults.specs.declared.work.WorkFault.{WorkFault}
use Rattle.faults.specs.declared.work.WorkFault.TheVariants.{InCase, TooManyPlaces, Decided, NoPlace}
use Rattle.layout.specs.Reading.{case_fault, system_in, read_case}
use Rattle.layout.proofs.Law.{read_as_spelled, none_read, fault_read}
use Rattle.books.specs.declared.entry.Entry.{Entry}
use Rattle.books.proofs.Rooms.{room_enough}
use Rattle.histories.specs.declared.verdict.Verdict.{Verdict}
use Rattle.histories.specs.declared.verdict.Verdict.TheVariants.{Undecided, Holds, BrokenAt, BrokenByEntry}
use Rattle.histories.specs.Calls.{Progress, Stage, decided, fresh, open_refused, open_broken, open_sound, OpenedFrom, open_unread, open_scarce, open_read, Learned, learned_clause, learned_subgoal, Turned, turn_refused, turn_holds, turn_full, turn_stores}
use Rattle.histories.specs.Laws.{Concluded}
use Rattle.histories.specs.Reads.{read_out}
use Rattle.histories.specs.Promises.{Turns, turns_none, turns_more, Ended, Judging, JudgingPromises}
use Rattle.histories.proofs.Promised.{some_none, err_ok}
use Rattle.judgements.specs.declared.told.JudgeTold.{JudgeTold}
use Rattle.judgements.specs.Outcomes.{room, verdict_number, storeless, Right, right_undecided, right_holds, right_broken, Judgement, judge_fault}

-- each accepted turn stores one entry, but for the one that decides that the system holds
undecided_storeless : (v : Verdict) → not (decided v) ≡ true → storeless v ≡ 0
undecided_storeless Undecided e = refl
undecided_storeless Holds e = cc
undecided_storeless (BrokenAt s) e = refl
undecided_storeless BrokenByEntry e = refl

learned_storeless : (c : System) (es : List Entry) (k s t : ℕ) (e : Entry) (v : Verdict) → Learned c es k s t e v → storeless v ≡ 0
learned_storeless c es k s t e v (learned_clause l u) = ap storeless u
learned_storeless c es k s t e v (learned_subgoal l q (inl j)) = ap storeless j.1
learned_storeless c es k s t e v (learned_subgoal l q (inr j)) = ap storeless j.1

record Counted (x : Stage) (k : ℕ) (y : Stage) : Type 0 where
  places : y.work.places ≡ x.work.places
  turns : k + (x.work.used + storeless x.work.verdict) ≡ y.work.used + storeless y.work.verdict

turn_counted : (capacity : Capacity) (x y : Stage) → Turned capacity x (Ok tt) y → Counted x 1 y
turn_counted capacity x y (turn_refused f a e z) = absurd (err_ok (Ok tt) f tt e refl)
turn_counted capacity x y (turn_full a k s t f l e z) = absurd (err_ok (Ok tt) NoPlace tt e refl)
turn_counted capacity x y (turn_holds a n e z) =
    let before = undecided_storeless x.work.verdict (unmet_none (not (decided x.work.verdict)) Decided (or_none (unmet (not (decided x.work.verdict)) Decided) _ a).0) in
    subst (Counted x 1) (sym z) (record { places = refl; turns = omega arith })
turn_counted capacity x y (turn_stores a k s t f l e v learned r z) =
    let before = undecided_storeless x.work.verdict (unmet_none (not (decided x.work.verdict)) Decided (or_none (unmet (not (decided x.work.verdict)) Decided) _ a).0) in
    let now = learned_storeless _ _ k s t e v learned in
    subst (Counted x 1) (sym z) (record { places = refl; turns = omega arith })

turns_counted : (capacity : Capacity) (x : Stage) (k : ℕ) (y : Stage) → Turns capacity x k y → Counted x k y
turns_counted capacity x k y turns_none = record { places = refl; turns = omega arith }
turns_counted capacity x k y (turns_more {k = i} {y = z} ts w t) =
    let before = turns_counted capacity x i z ts in
    let now = turn_counted capacity z y t in
    record { places = now.places ∙ before.places; turns = let a = before.turns in let b = now.turns in omega arith }

-- a refused turn leaves the work
refused_work : (capacity : Capacity) (x : Stage) (f : WorkFault) (y : Stage) → Turned capacity x (Err f) y → y.work ≡ x.work
refused_work capacity x f y (turn_refused g a e z) = ap (λ (z : Stage). z.work) z
refused_work capacity x f y (turn_holds a n e z) = absurd (err_ok (Err f) f tt refl e)
refused_work capacity x f y (turn_full a k s t g l e z) = ap (λ (z : Stage). z.work) z
refused_work capacity x f y (turn_stores a k s t g l e v learned r z) = absurd (err_ok (Err f) f tt refl r)

ended_work : (capacity : Capacity) (last : Stage) (f : Option WorkFault) (y : Stage) → Ended capacity last f y → y.work ≡ last.work
ended_work capacity last None y (d, e) = ap (λ (z : Stage). z.work) e
ended_work capacity last (Some f) y (u, t) = refused_work capacity last f y t

-- an opened work has the places given, and no entries
record Fresh (places : ℕ) (w : Progress) : Type 0 where
  places_same : w.places ≡ places
  none_used : w.used + storeless w.verdict ≡ 0

opened_fresh : (capacity : Capacity) (bs : List ℕ) (places : ℕ) (held after : List (List ℕ)) (w : Progress) → OpenedFrom capacity bs places held (Ok w) after → Fresh places w
opened_fresh capacity bs places held after w (open_unread f a e h) = absurd (err_ok (Ok w) (InCase f) w e refl)
opened_fresh capacity bs places held after w (open_scarce c read n e h) = absurd (err_ok (Ok w) (InCase NoMemory) w e refl)
opened_fresh capacity bs places held after w (open_read c read (open_refused f a e h)) = absurd (err_ok (Ok w) f w e refl)
opened_fresh capacity bs places held after w (open_read c read (open_broken a s i b e h)) =
    let same : w ≡ fresh c places (BrokenAt s) = cc in subst (Fresh places) (sym same) (record { places_same = refl; none_used = omega arith })
opened_fresh capacity bs places held after w (open_read c read (open_sound a n e h)) =
    let same : w ≡ fresh c places Undecided = cc in subst (Fresh places) (sym same) (record { places_same = refl; none_used = omega arith })

-- a verdict is wanting only where a turn was refused
undecided_refused : (capacity : Capacity) (last : Stage) (f : Option WorkFault) (y : Stage) → Ended capacity last f y → y.work.verdict ≡ Undecided → (g : WorkFault) × (f ≡ Some g)
undecided_refused capacity last None y (d, e) u = absurd (subst (λ v. T (decided v)) (ap (λ (z : Stage). z.work.verdict) (sym e) ∙ u) d)
undecided_refused capacity last (Some g) y h u = (g, refl)

module _ (bs : List ℕ) (book : List Entry) (f : Option WorkFault) (y : Stage) (j : Judging room bs book [] f y) where
  -- places and turns of a judging
  judged_counts : (y.work.places ≡ length book) × (j.accepted ≡ y.work.used + storeless y.work.verdict)
  judged_counts =
      let start = opened_fresh room bs (length book) [] j.after j.opened j.opening in
      let count = turns_counted room _ j.accepted j.last j.turns in
      let same = ended_work room j.last f y j.ends in
      let turns = count.turns in
      let none = start.none_used in
      let work : y.work.used + storeless y.work.verdict ≡ j.last.work.used + storeless j.last.work.verdict = ap (λ (w : Progress). w.used + storeless w.verdict) same in
      (ap (λ (w : Progress). w.places) same ∙ count.places ∙ start.places_same, omega arith)

  module _ (promises : JudgingPromises bs f y.work y.book) where
    right : (v : Verdict) → y.work.verdict ≡ v → Right y.work.system (length book) (verdict_number v)
    right Undecided e =
        let r = undecided_refused room j.last f y j.ends e in
        right_undecided refl (let p = judged_counts.0 in let less = (promises.refused r.0 r.1).3 in omega arith)
    right Holds e = right_holds refl (subst (λ v. Concluded y.work.system v (take y.work.used y.book)) e promises.lawful.concluded)
    right (BrokenAt s) e = right_broken refl (read_out y.work.system (BrokenAt s) (take y.work.used y.book)) (subst (λ v. Concluded y.work.system v (take y.work.used y.book)) e promises.lawful.concluded)
    right BrokenByEntry e = right_broken refl (read_out y.work.system BrokenByEntry (take y.work.used y.book)) (subst (λ v. Concluded y.work.system v (take y.work.used y.book)) e promises.lawful.concluded)

    judgement : (told : JudgeTold) → told.verdict ≡ verdict_number y.work.verdict → told.turns ≡ y.work.used + storeless y.work.verdict → told.used ≡ y.work.used
        → Judgement bs (length book) told
    judgement told verdict turns used = record {
      system = y.work.system;
      admitted = promises.admitted;
      spelled = promises.spelled;
      right = subst (Right y.work.system (length book)) (sym verdict) (right y.work.verdict refl);
      book = book;
      size = refl;
      refused = f;
      last = y;
      judging = j;
      verdict = verdict;
      turns = turns ∙ sym judged_counts.1;
      used = used;
    }

-- what is refused, by its first fault
pub case_refused : (bs : List ℕ) (places : ℕ) (f : CaseFault) → case_fault bs ≡ Some f → judge_fault (read_case bs) places ≡ Some (InCase f)
case_refused bs places f e = ap (λ r. judge_fault r places) (fault_read bs f e)

accepted_fault : (bs : List ℕ) (places : ℕ) → case_fault bs ≡ None → judge_fault (read_case bs) places ≡ unmet (nat_le places 8192) TooManyPlaces
accepted_fault bs places e = ap (λ r. judge_fault r places) (none_read bs e)

pub places_refused : (bs : List ℕ) (places : ℕ) → case_fault bs ≡ None → 8192 < places → judge_fault (read_case bs) places ≡ Some TooManyPlaces
places_refused bs places e h = accepted_fault bs places e ∙ ap (λ b. unmet b TooManyPlaces) (lt-leb places 8192 h)

pub none_refused : (bs : List ℕ) (places : ℕ) → case_fault bs ≡ None → places ≤ 8192 → judge_fault (read_case bs) places ≡ None
none_refused bs places e h = accepted_fault bs places e ∙ none_unmet (nat_le places 8192) TooManyPlaces (le-leb places 8192 h)

-- where nothing is refused, an opening fails only for want of memory
only_memory : (bs : List ℕ) → ((i : ℕ) → Fits w8 (get_or bs i 0)) → (places : ℕ) → case_fault bs ≡ None → places ≤ 8192
    → (held after : List (List ℕ)) (f : WorkFault) → OpenedFrom room bs places held (Err f) after → f ≡ InCase NoMemory
only_memory bs small places e h held after f (open_unread g read r kept) = absurd (err_ok (read_case bs) g (system_in bs) read (none_read bs e))
only_memory bs small places e h held after f (open_scarce c read n r kept) = cc
only_memory bs small places e h held after f (open_read c read (open_refused g a r kept)) =
    absurd (some_none g (sym a ∙ room_enough c ((read_as_spelled bs small c).0 read).0 room places h (omega arith) (omega arith)))
only_memory bs small places e h held after f (open_read c read (open_broken a s i b r kept)) = absurd (err_ok (Err f) f (fresh c places (BrokenAt s)) refl r)
only_memory bs small places e h held after f (open_read c read (open_sound a n r kept)) = absurd (err_ok (Err f) f (fresh c places Undecided) refl r)

-- the same of a solver that has this room, as a call finds it
pub refused_memory : (capacity : Capacity) (bs : List ℕ) (count : ℕ) (held after : List (List ℕ)) (f : WorkFault) → OpenedFrom capacity bs count held (Err f) after
    → capacity ≡ room → (places : ℕ) → count ≡ places → ((i : ℕ) → Fits w8 (get_or bs i 0)) → case_fault bs ≡ None → places ≤ 8192 → f ≡ InCase NoMemory
refused_memory capacity bs count held after f o e places p small sound h =
    only_memory bs small count sound (omega arith) held after f (subst (λ k. OpenedFrom k bs count held (Err f) after) e o)

pub told_judgement : (capacity : Capacity) (bs : List ℕ) (book : List Entry) (held : List (List ℕ)) (f : Option WorkFault) (y : Stage) → Judging capacity bs book held f y
    → JudgingPromises bs f y.work y.book → capacity ≡ room → held ≡ [] → (places : ℕ) → length book ≡ places
    → (told : JudgeTold) → told.verdict ≡ verdict_number y.work.verdict → told.turns ≡ y.work.used + storeless y.work.verdict → told.used ≡ y.work.used → Judgement bs places told
told_judgement capacity bs book held f y j promises e none places p told verdict turns used =
    subst (λ k. Judgement bs k told) p (judgement bs book f y (subst₂ (λ k h. Judging k bs book h f y) e none j) promises told verdict turns used)

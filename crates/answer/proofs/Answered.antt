-- What judging gives is what the program answers. Assumes nothing.
use Rattle.std.proofs.Common.{◌≡◌, ℕ, List, [], length, replicate, get_or, take, Err, Option, sym, refl, ap, ◌∙◌, subst, subst₂, arith, w8, Fits}
use Rattle.solver.specs.declared.capacity.Capacity.{Capacity}
use Rattle.faults.specs.Refusals.{work_refusal}
use Rattle.faults.specs.declared.case.CaseFault.TheVariants.{NoMemory}
use Rattle.faults.specs.declared.work.WorkFault.{WorkFault}
use Rattle.faults.specs.declared.work.WorkFault.TheVariants.{InCase}
use Rattle.layout.specs.Reading.{read_case}
use Rattle.layout.proofs.Law.{read_as_spelled}
use Rattle.books.specs.declared.entry.Entry.{Entry}
use Rattle.books.specs.Entries.{blank}
use Rattle.books.proofs.Rooms.{room_enough}
use Rattle.histories.specs.Calls.{Stage, OpenedFrom, open_unread, open_scarce, open_read, open_refused, open_broken, open_sound}
use Rattle.histories.specs.Promises.{Judging, JudgingPromises}
use Rattle.histories.proofs.Promised.{some_none, err_ok}
use Rattle.report.specs.Lines.{refusal_line, judged_lines}
use Rattle.answer.specs.Answer.{look_of, room, AnswerTo}

module _ (bs : List ℕ) (small : (i : ℕ) → Fits w8 (get_or bs i 0)) (text : List ℕ) where
  pub judged_answer : (most : Capacity) (place : Entry) (before : List (List ℕ)) (f : Option WorkFault) (y : Stage) → most ≡ room → place ≡ blank → before ≡ []
      → text ≡ judged_lines f y.work.system (look_of y.work) (take y.work.used y.book) → length y.book ≡ 64
      → Judging most bs (replicate 64 place) before f y → JudgingPromises bs f y.work y.book → AnswerTo bs (read_case bs) text
  judged_answer most place before f y e unwritten none lines places judging promised =
      subst (λ r. AnswerTo bs r text) (sym ((read_as_spelled bs small y.work.system).1 (promised.admitted, promised.spelled)))
      (record {
        refused = f;
        ended = y;
        lines = lines;
        system = refl;
        places = sym promised.size ∙ places;
        judging = subst (λ b. Judging room bs (replicate 64 b) [] f y) unwritten (subst₂ (λ m h. Judging m bs (replicate 64 place) h f y) e none judging);
        promises = promised;
      })

  unopened_answer : (f : WorkFault) (held after : List (List ℕ)) → OpenedFrom room bs 64 held (Err f) after → (f ≡ InCase NoMemory → ⊥) → text ≡ refusal_line (work_refusal f)
      → AnswerTo bs (read_case bs) text
  unopened_answer f held after (open_unread g a e h) had t =
      let same : f ≡ InCase g = cc in
      subst (λ r. AnswerTo bs r text) (sym a) (t ∙ ap (λ f. refusal_line (work_refusal f)) same)
  unopened_answer f held after (open_scarce c a n e h) had t = absurd (had cc)
  unopened_answer f held after (open_read c a (open_refused g r e h)) had t =
      absurd (some_none g (sym r ∙ room_enough c ((read_as_spelled bs small c).0 a).0 room 64 (omega arith) (omega arith) (omega arith)))
  unopened_answer f held after (open_read c a (open_broken r s i b e h)) had t = absurd (err_ok (Err f) f _ refl e)
  unopened_answer f held after (open_read c a (open_sound r n e h)) had t = absurd (err_ok (Err f) f _ refl e)

  pub refused_answer : (f : WorkFault) (most : Capacity) (held after : List (List ℕ)) → most ≡ room → OpenedFrom most bs 64 held (Err f) after → (f ≡ InCase NoMemory → ⊥)
      → text ≡ refusal_line (work_refusal f) → AnswerTo bs (read_case bs) text
  refused_answer f most held after e o = unopened_answer f held after (subst (λ (m : Capacity). OpenedFrom m bs 64 held (Err f) after) e o)

-- The fault of marks, found from the front on, and what follows where there is none. Assumes nothing.
use Rattle.std.proofs.Common.{◌≡◌, ℕ, suc, ◌<◌, true, List, [], ◌∷◌, length, None, Ok, sym, refl, ap₂, ◌∙◌, nat_lt}
use Rattle.std.specs.List.{AllByRecursion}
use Rattle.std.proofs.lemmas.Bool.{lt-ltb, ltb-true, eqb-true, eq-eqb}
use Rattle.faults.specs.Firsts.{unmet, unless}
use Rattle.faults.proofs.Firsts.{or_none, unmet_none, unless_ok}
use Rattle.faults.specs.declared.work.WorkFault.TheVariants.{Marks as BadMarks, NoCapacity}
use Rattle.solver.specs.declared.capacity.Capacity.{Capacity}
use Rattle.sieve.specs.Marks.{Marks}
use Rattle.solver.specs.Answers.{spare}
use Rattle.sieve.specs.Sieves.{bad_mark, marks_fault, sift_fault}

-- no fault is one mark a place, and the other way round
none_bad : (i : ℕ) (M : List ℕ) → bad_mark i M ≡ None → AllByRecursion (λ x. x < 2) M
none_bad i [] e = tt
none_bad i (x ∷ M) e =
    let p = or_none (unmet (nat_lt x 2) (BadMarks i)) (bad_mark (suc i) M) e in
    (ltb-true x 2 (unmet_none (nat_lt x 2) (BadMarks i) p.0), none_bad (suc i) M p.1)

bad_none : (i : ℕ) (M : List ℕ) → AllByRecursion (λ x. x < 2) M → bad_mark i M ≡ None
bad_none i [] h = refl
bad_none i (x ∷ M) h = rw (lt-ltb x 2 h.0) (bad_none (suc i) M h.1)

pub marks_sound : (places : ℕ) (M : List ℕ) → marks_fault places M ≡ None → Marks places M
marks_sound places M e =
    let p = or_none _ _ e in (eqb-true (length M) places (unmet_none _ _ p.0), none_bad 0 M p.1)

pub sound_marks : (places : ℕ) (M : List ℕ) → Marks places M → marks_fault places M ≡ None
sound_marks places M m = rw (eq-eqb (length M) places m.0) (bad_none 0 M m.1)

-- no fault is marks of the places and the spare capacity
module _ (places : ℕ) (need : Capacity) (held : List (List ℕ)) (capacity : Capacity) where
  pub sift_marks : (M : List ℕ) → sift_fault places need held capacity M ≡ None → Marks places M
  sift_marks M e = marks_sound places M (or_none _ _ e).0

  pub sift_spare : (M : List ℕ) → sift_fault places need held capacity M ≡ None → spare need held capacity ≡ true
  sift_spare M e = unmet_none _ NoCapacity (or_none (marks_fault places M) _ e).1

  pub sift_sound : (M : List ℕ) → Marks places M → spare need held capacity ≡ true → sift_fault places need held capacity M ≡ None
  sift_sound M m s = rw (sound_marks places M m, s) refl

-- there is none where the check passed
pub passed : (places here : ℕ) (need most : Capacity) (held : List (List ℕ)) (capacity : Capacity) (M : List ℕ) → here ≡ places → most ≡ need → (x y : Unit {0})
    → Ok y ≡ unless (sift_fault here most held capacity M) x → sift_fault places need held capacity M ≡ None
passed places here need most held capacity M e f x y checked =
    ap₂ (λ n k. sift_fault n k held capacity M) (sym e) (sym f) ∙ unless_ok (sift_fault here most held capacity M) x y checked

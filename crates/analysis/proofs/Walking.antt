-- A walk over the entries of a trail, each with its place, from the last to the first. Assumes nothing.
use Rattle.std.proofs.Common.{◌≡◌, ℕ, ◌+◌, ◌<◌, List, [], ◌∷◌, ◌++◌, length, get_or, take, sym, ap, ◌∙◌, arith, Iter}
use Rattle.std.specs.Iterator.Adapters.{rev_source, enumerate_source, enumerate_count}
use Rattle.std.specs.Slice.Iter.{iter_rest}
use Rattle.std.specs.declared.iter.Rev.{Rev}
use Rattle.std.specs.declared.iter.Enumerate.{Enumerate}
use Rattle.std.proofs.lemmas.List.{length_push, length-take, get_or_push, get_or-take, take_at, take-take}
use Rattle.trail.specs.declared.decision.Decision.{Decision}

abbrev pub Walk : Type 0
Walk = Rev (Enumerate (Iter Decision))

-- the entries that are still to come
abbrev pub to_come : Walk → List Decision
to_come s = iter_rest (enumerate_source (rev_source s))

-- they are the first ones of ds, and counted from 0
pub record IsBack (ds : List Decision) (s : Walk) : Type 0 where
  pub counted : enumerate_count (rev_source s) ≡ 0
  pub first : to_come s ≡ take (length (to_come s)) ds

-- the walk came from s to the entry d at its place, and t is what is left of it
pub record Turn (ds : List Decision) (s t : Walk) (at : ℕ) (d : Decision) : Type 0 where
  pub within : at < length ds
  pub is : d ≡ get_or ds at d
  pub here : to_come s ≡ take (at + 1) ds
  pub before : to_come t ≡ take at ds
  pub goes_on : IsBack ds t

pub turn : (ds : List Decision) (s t : Walk) (at : ℕ) (d : Decision) → IsBack ds s → enumerate_count (rev_source t) ≡ enumerate_count (rev_source s)
    → to_come s ≡ to_come t ++ d ∷ [] → at ≡ enumerate_count (rev_source s) + length (to_come t) → Turn ds s t at d
turn ds s t at d b e f g =
    let n : length (to_come t) ≡ at = omega arith in
    let p : length (to_come s) ≡ at + 1 = ap length f ∙ length_push (to_come t) d ∙ ap (λ x. x + 1) n in
    let here : to_come s ≡ take (at + 1) ds = b.first ∙ ap (λ x. take x ds) p in
    let w : at < length ds = omega (arith, ap length here, length-take (at + 1) ds) in
    let before : to_come t ≡ take at ds = sym (take_at (to_come t) (d ∷ []) at n) ∙ ap (take at) (sym f ∙ here) ∙ take-take at (at + 1) ds (omega arith) in
    record {
      within = w;
      is = sym (get_or_push (to_come t) d d at n) ∙ ap (λ xs. get_or xs at d) (sym f ∙ here) ∙ get_or-take (at + 1) ds at d (omega arith);
      here = here;
      before = before;
      goes_on = record { counted = e ∙ b.counted; first = before ∙ ap (λ x. take x ds) (sym n) };
    }

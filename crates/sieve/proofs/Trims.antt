-- Trimming: what it keeps, and that no place is left that a smaller good set lacks. Assumes nothing.
use Rattle.std.proofs.Common.{◌≡◌, ℕ, zero, suc, ◌+◌, ◌<◌, T, List, length, set, get_or, refl, add-one, sym, ap, ◌∙◌, subst, inl, inr, arith}
use Rattle.std.proofs.lemmas.Bool.{cases_lt, cases_eq, true≢false}
use Rattle.std.proofs.lemmas.List.{get_or-set_same, get_or-set_other, get_or_past, set_past, get_or-replicate, length-replicate, length-set}
use Rattle.std.proofs.lemmas.Grind.{get_or-set_at}
use Rattle.system.proofs.Truth.{cases_T, T_true, T_false}
use Rattle.sieve.specs.Marks.{marked, Marks, Within}
use Rattle.sieve.specs.Trims.{full, Tried, tried_absent, tried_dropped, tried_needed, Trimmed}
use Rattle.sieve.proofs.Marked.{marked_is, is_marked, marked_below, small, all_small}

-- every place is marked
pub full_marked : (places i : ℕ) → i < places → T (marked (full places) i)
full_marked places i h = is_marked (full places) i (get_or-replicate places i 1 0 h)

pub full_marks : (places : ℕ) → Marks places (full places)
full_marks places =
    let long : length (full places) ≡ places = length-replicate {A = ℕ} places 1 in
    (long, all_small (full places) (λ i h. let e : get_or (full places) i 0 ≡ 1 = get_or-replicate places i 1 0 (omega (arith, long)) in omega arith))

pub within_full : (places : ℕ) (M : List ℕ) → Marks places M → Within M (full places)
within_full places M m i t = full_marked places i (let l = marked_below M i t in omega (arith, m.0))

-- one place less
pub unmarked : (M : List ℕ) (i : ℕ) → T (marked (set M i 0) i) → ⊥
unmarked M i t =
    let e = marked_is (set M i 0) i t in
    elim (cases_lt i (length M)) [
      | inl h ↦ (let f : get_or (set M i 0) i 0 ≡ 0 = get_or-set_same M i 0 0 h in let z : ⊥ = omega arith in z)
      | inr g ↦ (let f : get_or (set M i 0) i 0 ≡ 0 = ap (λ z. get_or z i 0) (set_past M i 0 g) ∙ get_or_past M i 0 g in let z : ⊥ = omega arith in z)
    ]

without_within : (M : List ℕ) (i : ℕ) → Within (set M i 0) M
without_within M i j t =
    elim (cases_eq j i) [
      | inl e ↦ absurd (unmarked M i (subst (λ k. T (marked (set M i 0) k)) e t))
      | inr n ↦ is_marked M j (sym (get_or-set_other M i j 0 0 n) ∙ marked_is (set M i 0) j t)
    ]

within_without : (P M : List ℕ) (i : ℕ) → Within P M → (T (marked P i) → ⊥) → Within P (set M i 0)
within_without P M i w n j t =
    elim (cases_eq j i) [
      | inl e ↦ absurd (n (subst (λ k. T (marked P k)) e t))
      | inr m ↦ is_marked (set M i 0) j (get_or-set_other M i j 0 0 m ∙ marked_is M j (w j t))
    ]

pub without_marks : (places : ℕ) (M : List ℕ) (i : ℕ) → Marks places M → Marks places (set M i 0)
without_marks places M i m = (length-set M i 0 ∙ m.0, all_small (set M i 0) below)
  where
    below : (j : ℕ) → j < length (set M i 0) → get_or (set M i 0) j 0 < 2
    below j h =
        let l : j < length M = omega (arith, length-set M i 0) in
        elim (cases_eq j i) [
          | inl e ↦ (let f : get_or (set M i 0) j 0 ≡ 0 = get_or-set_at M i j 0 0 e (omega arith) in omega arith)
          | inr n ↦ (let f = get_or-set_other M i j 0 0 n in let b = small places M m j (omega (arith, m.0)) in omega arith)
        ]

-- closed and good marks
pub record Fine (places : ℕ) (closed good : List ℕ → Type 0) (M : List ℕ) : Type 0 where
  pub marks : Marks places M
  pub stable : closed M
  pub well : good M

module _ (places : ℕ) (closed good : List ℕ → Type 0) where
  tried_within : (i : ℕ) (M out : List ℕ) → Tried places closed good i M out → Within out M
  tried_within i M out (tried_absent n e) j t = subst (λ z. T (marked z j)) e t
  tried_within i M out (tried_dropped y l g) j t = without_within M i j (l.within j t)
  tried_within i M out (tried_needed y L l n e) j t = subst (λ z. T (marked z j)) e t

  tried_fine : (i : ℕ) (M out : List ℕ) → Fine places closed good M → Tried places closed good i M out → Fine places closed good out
  tried_fine i M out f (tried_absent n e) = subst (Fine places closed good) (sym e) f
  tried_fine i M out f (tried_dropped y l g) = record { marks = l.marks; stable = l.stable; well = g }
  tried_fine i M out f (tried_needed y L l n e) = subst (Fine places closed good) (sym e) f

  pub tried_marks : (i : ℕ) (M out : List ℕ) → Marks places M → Tried places closed good i M out → Marks places out
  tried_marks i M out m (tried_absent n e) = subst (Marks places) (sym e) m
  tried_marks i M out m (tried_dropped y l g) = l.marks
  tried_marks i M out m (tried_needed y L l n e) = subst (Marks places) (sym e) m

  -- no place tried yet, and one more
  pub trimmed_none : (M : List ℕ) → Trimmed places closed good 0 M M
  unfolding Trimmed
  trimmed_none M = refl

  pub trimmed_more : (k : ℕ) (M L out : List ℕ) → Trimmed places closed good k M L → Tried places closed good k L out → Trimmed places closed good (k + 1) M out
  unfolding Trimmed
  trimmed_more k M L out h last = subst (λ j. Trimmed places closed good j M out) (sym (add-one k)) (L, h, last)

  -- trimming keeps the marks closed and good
  pub trimmed_fine : (k : ℕ) (M out : List ℕ) → Fine places closed good M → Trimmed places closed good k M out → Fine places closed good out
  unfolding Trimmed
  trimmed_fine zero M out f e = subst (Fine places closed good) (sym e) f
  trimmed_fine (suc k) M out f (L, h, last) = tried_fine k L out (trimmed_fine k M L f h) last

  -- and leaves no place that a smaller such set lacks
  module _ (grows : (M N : List ℕ) → Within M N → good M → good N) (P : List ℕ) (fine : Fine places closed good P) where
    still_needed : (i : ℕ) (M out : List ℕ) → Tried places closed good i M out → Within P out → T (marked out i) → T (marked P i)
    still_needed i M out (tried_absent n e) w t = absurd (n (subst (λ z. T (marked z i)) e t))
    still_needed i M out (tried_dropped y l g) w t = absurd (unmarked M i (l.within i t))
    still_needed i M out (tried_needed y L l n e) w t =
        elim (cases_T (marked P i)) [
          | inl p ↦ p
          | inr q ↦ absurd (n (grows P L (l.greatest P fine.marks fine.stable (within_without P M i (λ j p. subst (λ z. T (marked z j)) e (w j p)) (λ p. true≢false (sym (T_true _ p) ∙ T_false _ q)))) fine.well))
        ]

    pub trimmed_minimal : (k : ℕ) (M out : List ℕ) → Trimmed places closed good k M out → Within P out → (i : ℕ) → i < k → T (marked out i) → T (marked P i)
    unfolding Trimmed
    trimmed_minimal zero M out h w i l t = absurd (let z : ⊥ = omega arith in z)
    trimmed_minimal (suc k) M out (L, h, last) w i l t =
        elim (cases_eq i k) [
          | inl e ↦ subst (λ j. T (marked P j)) (sym e) (still_needed k L out last w (subst (λ j. T (marked out j)) e t))
          | inr n ↦ trimmed_minimal k M L h (λ j p. tried_within k L out last j (w j p)) i (omega arith) (tried_within k L out last i t)
        ]

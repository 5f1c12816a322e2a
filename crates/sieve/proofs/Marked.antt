-- Marks place by place. Assumes nothing.
use Rattle.std.proofs.Common.{◌≡◌, ℕ, zero, suc, ◌<◌, max, T, ◌⊎◌, List, [], ◌∷◌, length, get_or, sym, refl, ◌∙◌, inl, inr, arith, ext_get_or}
use Rattle.std.specs.List.{AllByRecursion}
use Rattle.std.proofs.lemmas.Bool.{cases_lt, cases_eq, eqb-true, eq-eqb}
use Rattle.std.proofs.lemmas.List.{get_or_past, get_or-replicate, length-replicate}
use Rattle.system.proofs.Truth.{T_of, T_true, all_place}
use Rattle.sieve.specs.Marks.{marked, Marks, Within, union, none}

pub marked_is : (M : List ℕ) (i : ℕ) → T (marked M i) → get_or M i 0 ≡ 1
marked_is M i t = eqb-true (get_or M i 0) 1 (T_true (marked M i) t)

pub is_marked : (M : List ℕ) (i : ℕ) → get_or M i 0 ≡ 1 → T (marked M i)
is_marked M i e = T_of (eq-eqb (get_or M i 0) 1 e)

-- a marked place is a place
pub marked_below : (M : List ℕ) (i : ℕ) → T (marked M i) → i < length M
marked_below M i t =
    elim (cases_lt i (length M)) [ inl h ↦ h | inr g ↦ absurd (let e = marked_is M i t in let f = get_or_past M i 0 g in let z : ⊥ = omega arith in z) ]

pub small : (places : ℕ) (M : List ℕ) → Marks places M → (i : ℕ) → i < places → get_or M i 0 < 2
small places M m i h = all_place (λ x. x < 2) M 0 i m.1 (omega (arith, m.0))

pub all_small : (M : List ℕ) → ((i : ℕ) → i < length M → get_or M i 0 < 2) → AllByRecursion (λ x. x < 2) M
all_small [] h = tt
all_small (x ∷ M) h = (h 0 (omega arith), all_small M (λ i l. h (suc i) (omega arith)))

-- marks with the same places are the same
pub same_marks : (places : ℕ) (M N : List ℕ) → Marks places M → Marks places N → Within M N → Within N M → M ≡ N
same_marks places M N m n to fro = ext_get_or 0 M N (m.0 ∙ sym n.0) (λ i h. same i (omega (arith, m.0)))
  where
    same : (i : ℕ) → i < places → get_or M i 0 ≡ get_or N i 0
    same i h =
        let x = small places M m i h in
        let y = small places N n i h in
        elim (cases_eq (get_or M i 0) 1) [
          | inl e ↦ e ∙ sym (marked_is N i (to i (is_marked M i e)))
          | inr d ↦ elim (cases_eq (get_or N i 0) 1) [ inl e ↦ marked_is M i (fro i (is_marked N i e)) ∙ sym e | inr k ↦ omega arith ]
        ]

-- no place is marked
pub none_marked : (places i : ℕ) → T (marked (none places) i) → ⊥
none_marked places i t =
    let l = marked_below (none places) i t in
    let e = marked_is (none places) i t in
    let f : get_or (none places) i 0 ≡ 0 = get_or-replicate places i 0 0 (omega (arith, length-replicate {A = ℕ} places 0)) in
    let z : ⊥ = omega arith in
    z

-- the union, place by place
union_at : (M N : List ℕ) (i : ℕ) → length M ≡ length N → get_or (union M N) i 0 ≡ max (get_or M i 0) (get_or N i 0)
union_at [] [] i h = refl
union_at [] (y ∷ N) i h = absurd (let z : ⊥ = omega arith in z)
union_at (x ∷ M) [] i h = absurd (let z : ⊥ = omega arith in z)
union_at (x ∷ M) (y ∷ N) zero h = refl
union_at (x ∷ M) (y ∷ N) (suc i) h = union_at M N i (omega arith)

module _ (places : ℕ) (M N : List ℕ) (m : Marks places M) (n : Marks places N) where
  at : (i : ℕ) → get_or (union M N) i 0 ≡ max (get_or M i 0) (get_or N i 0)
  at i = union_at M N i (m.0 ∙ sym n.0)

  pub union_marked : (i : ℕ) → T (marked (union M N) i) → T (marked M i) ⊎ T (marked N i)
  union_marked i t =
      let e = sym (at i) ∙ marked_is (union M N) i t in
      elim (cases_eq (get_or M i 0) 1) [ inl h ↦ inl (is_marked M i h) | inr h ↦ inr (is_marked N i (omega arith)) ]

  one_marked : (i : ℕ) → i < places → T (marked M i) ⊎ T (marked N i) → T (marked (union M N) i)
  one_marked i h t =
      let x = small places M m i h in
      let y = small places N n i h in
      is_marked (union M N) i (at i ∙ elim t [ inl a ↦ (let e = marked_is M i a in omega arith) | inr b ↦ (let e = marked_is N i b in omega arith) ])

  pub union_left : Within M (union M N)
  union_left i t = one_marked i (let l = marked_below M i t in omega (arith, m.0)) (inl t)

  pub union_right : Within N (union M N)
  union_right i t = one_marked i (let l = marked_below N i t in omega (arith, n.0)) (inr t)

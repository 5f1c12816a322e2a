-- Marks taken away by a test that all places of closed parts pass, and a marked place does not. Assumes nothing.
use Rattle.std.proofs.Common.{◌≡◌, ℕ, ◌<◌, Bool, true, false, not, cond, T, List, length, get_or, sym, refl, ap, ◌∙◌, subst, arith}
use Rattle.std.proofs.Math.Dec.{not_T, T_not}
use Rattle.system.proofs.Truth.{T_of, T_true}
use Rattle.sieve.specs.Marks.{marked, Marks, Within, Reduced}
use Rattle.sieve.proofs.Marked.{marked_is, is_marked, marked_below, small, all_small}

cond_one : (b : Bool) (x : ℕ) → cond b x 0 ≡ 1 → (b ≡ true) × (x ≡ 1)
cond_one true x e = (refl, e)
cond_one false x e = absurd (let z : ⊥ = omega arith in z)

cond_small : (b : Bool) (x : ℕ) → x < 2 → cond b x 0 < 2
cond_small true x h = h
cond_small false x h = omega arith

module _ (places : ℕ) (closed : List ℕ → Type 0) (M out : List ℕ) (m : Marks places M) (long : length out ≡ length M) (keep : ℕ → Bool)
    (at : (i : ℕ) → i < length M → get_or out i 0 ≡ cond (keep i) (get_or M i 0) 0) where
  -- a place that is still marked
  left : (i : ℕ) → T (marked out i) → T (keep i) × T (marked M i)
  left i t =
      let h : i < length M = let l = marked_below out i t in omega arith in
      let r = cond_one (keep i) (get_or M i 0) (sym (at i h) ∙ marked_is out i t) in
      (T_of r.0, is_marked M i r.1)

  stays : (i : ℕ) → T (marked M i) → T (keep i) → T (marked out i)
  stays i t k = is_marked out i (at i (marked_below M i t) ∙ ap (λ b. cond b (get_or M i 0) 0) (T_true (keep i) k) ∙ marked_is M i t)

  marks : Marks places out
  marks = (long ∙ m.0, all_small out small_left)
    where
      small_left : (i : ℕ) → i < length out → get_or out i 0 < 2
      small_left i h =
          let l : i < length M = omega arith in
          subst (λ x. x < 2) (sym (at i l)) (cond_small (keep i) (get_or M i 0) (small places M m i (omega (arith, m.0))))

  pub reduced : ((N : List ℕ) → closed N → Within N M → (i : ℕ) → T (marked N i) → T (keep i)) → ((i : ℕ) × T (marked M i) × T (not (keep i))) → Reduced places closed M out
  reduced shut gone =
      record {
        marks = marks;
        within = λ i t. (left i t).1;
        fewer = (gone.0, gone.1, not_T _ (λ t. T_not _ gone.2 (left gone.0 t).0));
        idle = λ i t n N k c w. not_T _ (λ y. T_not _ n (stays i t (shut N c w i y)));
      }

-- The highest variable of a set, and the latest decision of a clause. Assumes nothing.
use Rattle.std.proofs.Common.{◌≡◌, ℕ, zero, suc, ◌-◌, ◌%◌, ◌^◌, ◌<◌, ◌≤◌, Bool, true, false, not, cond, ◌&&◌, ◌||◌, eqb, min, List, [], ◌∷◌, length, Option, Some, None, MatchOption, Bor, sym, refl, ap, ◌∙◌, inl, inr, arith, pow_mono}
use Rattle.std.specs.List.{AllWithin, HoldsAt}
use Rattle.std.specs.Int.Count.{count_leading_zeros, leading_of_zero}
use Rattle.std.proofs.lemmas.Nat.{leading_top}
use Rattle.std.proofs.lemmas.Bool.{cases_eq}
use Rattle.system.proofs.Bits.{bit_none, bit_above, bit_top}
use Rattle.system.specs.Literals.{bit}
use Rattle.masks.specs.Masks.{inside}
use Rattle.masks.specs.declared.mask.ClauseMask.{ClauseMask}
use Rattle.trail.specs.declared.decision.Decision.{Decision}
use Rattle.search.specs.Watched.{Highest, on_other, first_other}

pub highest_of : (x n : ℕ) → x < 2 ^ 128 → n ≡ min (count_leading_zeros 128 x) 127 → Highest x (127 - n)
highest_of x n h e = elim (cases_eq x 0) [ inl z ↦ empty z | inr p ↦ some (omega arith) ]
  where
    empty : x ≡ 0 → Highest x (127 - n)
    empty z =
        let c : count_leading_zeros 128 x ≡ 128 = ap (count_leading_zeros 128) z ∙ leading_of_zero 128 in
        record {
          is = λ p. absurd (let f : ⊥ = omega arith in f);
          last = λ j p. ap (λ y. bit y j) z ∙ bit_none j;
          none = λ y. omega arith;
        }

    some : 0 < x → Highest x (127 - n)
    some p =
        let (j, c, low, high) = leading_top 128 x p h in
        let v : 127 - n ≡ j = omega arith in
        record {
          is = λ q. ap (bit x) v ∙ bit_top x j low high;
          last = λ i q. let m : 2 ^ suc j ≤ 2 ^ i = pow_mono (omega arith) in bit_above x i (omega arith);
          none = λ z. absurd (let f : ⊥ = omega arith in f);
        }

-- a decision's variable is below 128
pub other_small : (m : ClauseMask) (v : ℕ) (d : Decision)
    → on_other m v d ≡ (not (eqb d.variable v) && (inside m (d.variable % 128) true || inside m (d.variable % 128) false))
other_small m v d =
    let e : d.variable ≡ d.variable % 128 = omega (arith, d.small) in
    ap (λ j. not (eqb d.variable v) && (inside m j true || inside m j false)) e

pub and_other : (m : ClauseMask) (v : ℕ) (d : Decision) (b : Bool) (Q : Type 0)
    → Q × ((not (eqb d.variable v) && (inside m (d.variable % 128) true || inside m (d.variable % 128) false)) ≡ b) → Q × (on_other m v d ≡ b)
and_other m v d b Q p = (p.0, other_small m v d ∙ p.1)

module _ (m : ClauseMask) (v : ℕ) where
  nowhere : (ds : List Decision) → AllWithin (λ d. on_other m v d ≡ false) ds 0 (length ds) → first_other m v ds ≡ 0
  nowhere [] h = refl
  nowhere (d ∷ ds) h = ap (λ b. cond b d.variable (first_other m v ds)) (h 0 d (omega arith) (omega arith)) ∙ nowhere ds (λ k e a b. h (suc k) e (omega arith) (omega arith))

  at_place : (ds : List Decision) (d : Decision) (i : ℕ) → i < length ds → HoldsAt (λ e. e ≡ d) ds i → AllWithin (λ e. on_other m v e ≡ false) ds 0 i
      → on_other m v d ≡ true → first_other m v ds ≡ d.variable
  at_place [] d i l h b t = absurd (let z : ⊥ = omega arith in z)
  at_place (e ∷ ds) d zero l h b t = ap (λ c. cond c e.variable (first_other m v ds)) (ap (on_other m v) (h d) ∙ t) ∙ ap (λ x. x.variable) (h d)
  at_place (e ∷ ds) d (suc i) l h b t =
      ap (λ c. cond c e.variable (first_other m v ds)) (b 0 e (omega arith) (omega arith))
      ∙ at_place ds d i (omega arith) h (λ k x p q. b (suc k) x (omega arith) (omega arith)) t

  -- what a look for such a decision finds
  pub first_other_of : (ds : List Decision) (r : Option (Bor Decision)) (n : ℕ)
      → MatchOption r (AllWithin (λ d. on_other m v d ≡ false) ds 0 (length ds))
      (λ d. (on_other m v d.now ≡ true) × (i : ℕ) × (i < length ds) × HoldsAt (λ e. e ≡ d.now) ds i × AllWithin (λ e. on_other m v e ≡ false) ds 0 i)
      → MatchOption r (n ≡ 0) (λ d. n ≡ d.now.variable) → n ≡ first_other m v ds
  first_other_of ds None n none e = e ∙ sym (nowhere ds none)
  first_other_of ds (Some d) n (t, i, l, h, b) e = e ∙ sym (at_place ds d.now i l h b t)

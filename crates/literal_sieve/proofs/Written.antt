-- Literals of marked relays, written for a solver: what they are, and when all are true. Assumes nothing.
use Rattle.std.proofs.Common.{arith, ◌≡◌, ℕ, zero, suc, ◌+◌, ◌<◌, ◌≤◌, min, Bool, true, false, cond, not, T, List, [], ◌∷◌, ◌++◌, length, take, sym, refl, ap, ap₂, ◌∙◌, subst, inl, inr, nat_eq}
use mathlib.Core.Bool.{beq}
use mathlib.Core.Path.{fun_ext}
use Rattle.std.proofs.lemmas.Bool.{cases_eq}
use Rattle.std.proofs.lemmas.List.{append-nil, length-take-le, get_or-take, get_or_past}
use Rattle.system.specs.Literals.{Valuation, bit, literal, Member}
use Rattle.system.specs.Spelling.{literal_of, spelled}
use Rattle.system.proofs.Truth.{and_l, and_r, and_i, beq_true, beq_same}
use Rattle.system.proofs.Spelled.{literal_value, spelled_member, member_spelled}
use Rattle.solver.specs.Answers.{literals}
use Rattle.sieve.specs.Marks.{marked}
use Rattle.literal_sieve.specs.Literal.{false_at}

beq_not : (b : Bool) → beq b false ≡ not b
beq_not b = grind arith

beq_is : (b : Bool) → beq b true ≡ b
beq_is b = grind arith

-- the literals that are false, and those that are true
pub spelled_negated : (first n : ℕ) (inside value : ℕ → Bool) → spelled first n inside (λ i. beq (value i) false) ≡ spelled first n inside (λ i. not (value i))
spelled_negated first n inside value = ap (spelled first n inside) (fun_ext (λ i. beq_not (value i)))

pub spelled_plain : (first n : ℕ) (inside value : ℕ → Bool) → spelled first n inside (λ i. beq (value i) true) ≡ spelled first n inside value
spelled_plain first n inside value = ap (spelled first n inside) (fun_ext (λ i. beq_is (value i)))

-- what lies inside below k is all that does below n
module _ (first : ℕ) (p q sign : ℕ → Bool) where
  spelled_first : (n k : ℕ) → k ≤ n → ((i : ℕ) → i < k → p i ≡ q i) → ((i : ℕ) → k ≤ i → i < n → q i ≡ false) → spelled first k p sign ≡ spelled first n q sign
  unfolding spelled
  spelled_first zero zero h same gone = refl
  spelled_first zero (suc k) h same gone = absurd (let z : ⊥ = omega arith in z)
  spelled_first (suc n) k h same gone =
      elim (cases_eq k (suc n)) [
        | inl e ↦ subst (λ m. spelled first m p sign ≡ spelled first (suc n) q sign) (sym e)
            (ap₂ (λ ls b. ls ++ cond b (literal_of (first + n) (sign n) ∷ []) []) (spelled_first n n (omega arith) (λ i l. same i (omega arith)) (λ i l b. absurd (let z : ⊥ = omega arith in z))) (same n (omega arith)))
        | inr m ↦ spelled_first n k (omega arith) same (λ i l b. gone i l (omega arith)) ∙ rw (gone n (omega arith) (omega arith)) (sym (append-nil (spelled first n q sign)))
      ]

-- the clause of as many marks as there are relays
pub clause_written : (n s k : ℕ) (M ls : List ℕ) → k ≡ min (length M) n → ls ≡ spelled 0 (length (take k M)) (marked (take k M)) (λ i. beq (bit s i) false) → ls ≡ false_at n s M
clause_written n s k M ls e written =
    let long : length (take k M) ≡ k = length-take-le k M (omega arith) in
    written
    ∙ spelled_negated 0 (length (take k M)) (marked (take k M)) (bit s)
    ∙ ap (λ j. spelled 0 j (marked (take k M)) (λ i. not (bit s i))) long
    ∙ spelled_first 0 (marked (take k M)) (marked M) (λ i. not (bit s i)) n k (omega arith) (λ i h. ap (λ x. nat_eq x 1) (get_or-take k M i 0 h)) (λ i h b. ap (λ x. nat_eq x 1) (get_or_past M i 0 (omega arith)))

literals_each : (a : Valuation) (ls : List ℕ) (l : ℕ) → Member l ls → T (literals a ls) → T (literal a l)
literals_each a [] l m t = absurd m
literals_each a (x ∷ ls) l (inl e) t = subst (λ z. T (literal a z)) (sym e) (and_l (literal a x) (literals a ls) t)
literals_each a (x ∷ ls) l (inr m) t = literals_each a ls l m (and_r (literal a x) (literals a ls) t)

literals_all : (a : Valuation) (ls : List ℕ) → ((l : ℕ) → Member l ls → T (literal a l)) → T (literals a ls)
literals_all a [] h = tt
literals_all a (x ∷ ls) h = and_i (literal a x) (literals a ls) (h x (inl refl)) (literals_all a ls (λ l m. h l (inr m)))

-- they are all true where each relay inside has its sign
module _ (first : ℕ) (inside sign : ℕ → Bool) (a : Valuation) (k : ℕ) where
  pub spelled_each : T (literals a (spelled first k inside sign)) → (i : ℕ) → i < k → T (inside i) → a (first + i) ≡ sign i
  spelled_each t i h m =
      beq_true _ _
      (subst T (literal_value a (first + i) (sign i))
      (literals_each a (spelled first k inside sign) (literal_of (first + i) (sign i)) (member_spelled first inside sign k i h m) t))

  pub each_spelled : ((i : ℕ) → i < k → T (inside i) → a (first + i) ≡ sign i) → T (literals a (spelled first k inside sign))
  each_spelled h = literals_all a (spelled first k inside sign) (λ l m. each l (spelled_member first inside sign k l m))
    where
      each : (l : ℕ) → ((i : ℕ) × (i < k) × T (inside i) × (l ≡ literal_of (first + i) (sign i))) → T (literal a l)
      each l (i, b, t, e) =
          subst (λ z. T (literal a z)) (sym e) (rw (literal_value a (first + i) (sign i), h i b t) (beq_same (sign i)))

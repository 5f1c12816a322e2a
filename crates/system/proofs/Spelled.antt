-- Clauses spelled by relays and signs, and their truth. Assumes nothing.
use Rattle.std.proofs.Common.{◌≡◌, ℕ, zero, suc, ◌+◌, ◌/◌, ◌%◌, ◌<◌, ◌≤◌, Bool, true, false, cond, T, eqb, List, [], ◌∷◌, ◌++◌, length, take, set, sym, refl, ap, subst, ◌∙◌, inl, inr, add-one, arith}
use mathlib.Core.Bool.{beq}
use Rattle.std.proofs.lemmas.Bool.{cases_eq, eq-eqb, ne_eqb}
use Rattle.std.proofs.lemmas.List.{append-nil, length-append, take_more_set}
use Rattle.system.specs.Literals.{Valuation, variable_of, literal, clause, Member}
use Rattle.system.specs.Systems.{OverRelays}
use Rattle.system.specs.Spelling.{literal_of, spelled}
use Rattle.system.proofs.Truth.{T_of, T_true, beq_true, beq_same, member_left, member_right, member_cases, all_members, clause_some, clause_by}

-- the literal of a variable and a sign
pub literal_of_half : (v : ℕ) (b : Bool) → literal_of v b / 2 ≡ v
literal_of_half v true = omega arith
literal_of_half v false = omega arith

pub literal_of_sign : (v : ℕ) (b : Bool) → eqb (literal_of v b % 2) 0 ≡ b
literal_of_sign v true = eq-eqb _ _ (omega arith)
literal_of_sign v false = ne_eqb _ _ (omega arith)

pub literal_value : (a : Valuation) (v : ℕ) (b : Bool) → literal a (literal_of v b) ≡ beq (a v) b
literal_value a v b = rw (literal_of_half v b, literal_of_sign v b)

module _ (first : ℕ) (inside sign : ℕ → Bool) where
  -- a literal of the first k, and the one that a further variable adds
  pub spelled_member : (k l : ℕ) → Member l (spelled first k inside sign) → (i : ℕ) × (i < k) × T (inside i) × (l ≡ literal_of (first + i) (sign i))
  unfolding spelled
  spelled_member zero l m = absurd m
  spelled_member (suc k) l m =
      elim (member_cases l (spelled first k inside sign) (cond (inside k) (literal_of (first + k) (sign k) ∷ []) []) m) [
        | inl h ↦ (let r = spelled_member k l h in (r.0, omega (arith, r.1), r.2, r.3))
        | inr h ↦ last (inside k) refl h
      ]
    where
      last : (b : Bool) → inside k ≡ b → Member l (cond b (literal_of (first + k) (sign k) ∷ []) []) → (i : ℕ) × (i < suc k) × T (inside i) × (l ≡ literal_of (first + i) (sign i))
      last true e (inl q) = (k, omega arith, T_of e, q)
      last true e (inr q) = absurd q
      last false e q = absurd q

  pub member_spelled : (k i : ℕ) → i < k → T (inside i) → Member (literal_of (first + i) (sign i)) (spelled first k inside sign)
  unfolding spelled
  member_spelled zero i h t = absurd (let z : ⊥ = omega arith in z)
  member_spelled (suc k) i h t =
      elim (cases_eq i k) [
        | inl e ↦ member_right (literal_of (first + i) (sign i)) (spelled first k inside sign) _ (here e)
        | inr n ↦ member_left (literal_of (first + i) (sign i)) (spelled first k inside sign) _ (member_spelled k i (omega arith) t)
      ]
    where
      here : i ≡ k → Member (literal_of (first + i) (sign i)) (cond (inside k) (literal_of (first + k) (sign k) ∷ []) [])
      here e = rw (T_true (inside k) (subst (λ j. T (inside j)) e t)) (inl (ap (λ j. literal_of (first + j) (sign j)) e))

  -- the clause is true where one of the relays inside has its sign
  pub spelled_true : (a : Valuation) (k : ℕ) → T (clause a (spelled first k inside sign)) → (i : ℕ) × (i < k) × T (inside i) × (a (first + i) ≡ sign i)
  spelled_true a k t =
      let r = clause_some a (spelled first k inside sign) t in
      let m = spelled_member k r.0 r.1 in
      (m.0, m.1, m.2, beq_true _ _ (subst T (ap (literal a) m.3 ∙ literal_value a (first + m.0) (sign m.0)) r.2))

  pub true_spelled : (a : Valuation) (k i : ℕ) → i < k → T (inside i) → a (first + i) ≡ sign i → T (clause a (spelled first k inside sign))
  true_spelled a k i h t e =
      clause_by a (spelled first k inside sign) (literal_of (first + i) (sign i)) (member_spelled k i h t)
      (rw (literal_value a (first + i) (sign i), e) (beq_same (sign i)))

  pub length_spelled : (k : ℕ) → length (spelled first k inside sign) ≤ k
  unfolding spelled
  length_spelled zero = omega arith
  length_spelled (suc k) = rw length-append (last (inside k) (length_spelled k))
    where
      last : (b : Bool) → length (spelled first k inside sign) ≤ k → length (spelled first k inside sign) + length (cond b (literal_of (first + k) (sign k) ∷ []) []) ≤ suc k
      last true h = omega arith
      last false h = omega arith

  -- a loop over the variables: nothing yet, a variable that is not inside, and one whose literal is put at the end
  pub spelled_none : spelled first 0 inside sign ≡ []
  unfolding spelled
  spelled_none = refl

  pub spelled_skip : (k : ℕ) (ls : List ℕ) → ls ≡ spelled first k inside sign → inside k ≡ false → ls ≡ spelled first (k + 1) inside sign
  unfolding spelled
  spelled_skip k ls e f =
      e ∙ sym (ap (λ j. spelled first j inside sign) (add-one k) ∙ ap (λ b. spelled first k inside sign ++ cond b (literal_of (first + k) (sign k) ∷ []) []) f ∙ append-nil (spelled first k inside sign))

  pub spelled_put : (k count l : ℕ) (out : List ℕ) → count < length out → take count out ≡ spelled first k inside sign → inside k ≡ true → l ≡ literal_of (first + k) (sign k) → take (count + 1) (set out count l) ≡ spelled first (k + 1) inside sign
  unfolding spelled
  spelled_put k count l out h e f is =
      take_more_set out count l h
      ∙ ap (λ ls. ls ++ l ∷ []) e
      ∙ ap (λ x. spelled first k inside sign ++ x ∷ []) is
      ∙ sym (ap (λ j. spelled first j inside sign) (add-one k) ∙ ap (λ b. spelled first k inside sign ++ cond b (literal_of (first + k) (sign k) ∷ []) []) f)

-- a clause over the relays before a step
pub spelled_over : (n k : ℕ) (inside sign : ℕ → Bool) → k ≤ n → OverRelays n (spelled 0 k inside sign)
spelled_over n k inside sign h = all_members _ (spelled 0 k inside sign) (λ l m. below l (spelled_member 0 inside sign k l m))
  where
    below : (l : ℕ) → ((i : ℕ) × (i < k) × T (inside i) × (l ≡ literal_of (0 + i) (sign i))) → variable_of l < n
    below l (i, b, t, e) = let q = literal_of_half (0 + i) (sign i) in rw (e, q) (omega arith)

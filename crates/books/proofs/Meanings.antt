-- Clauses in which no variable occurs with both signs, and the entry of such a clause, which is true just where the clause is. Assumes nothing.
use Rattle.std.proofs.Common.{◌≡◌, ℕ, ◌/◌, ◌%◌, ◌<◌, Bool, true, false, ◌||◌, T, List, [], ◌∷◌, sym, ap, ◌∙◌, subst, inl, inr, zero-add, arith, nat_eq}
use Rattle.std.proofs.Math.Dec.{T_not, not_T}
use Rattle.std.proofs.lemmas.Bool.{true≢false, eq-eqb, eqb-true, cases_eq, ne_eqb}
use Rattle.system.specs.Literals.{Valuation, bit, variable_of, clause, Member}
use Rattle.system.specs.Systems.{OverRelays, Rising}
use Rattle.system.specs.Spelling.{literal_of, spelled}
use Rattle.system.proofs.Truth.{T_of, T_true, T_false, cases_T, or_e, or_l, or_r, member_all, clause_some, clause_by}
use Rattle.system.proofs.Spelled.{spelled_member, member_spelled, literal_of_half, literal_of_sign}
use Rattle.system.proofs.Numbers.{bit_number}
use Rattle.books.specs.Entries.{clause_of, entry_of, has_literal}
use Rattle.books.specs.declared.entry.Kind.{Kind}

-- the test whether a literal stands in a clause
pub contains_member : (d : List ℕ) (l : ℕ) → T (has_literal d l) → Member l d
contains_member [] l t = absurd t
contains_member (k ∷ d) l t =
    elim (or_e (nat_eq k l) (has_literal d l) t) [ inl e ↦ inl (sym (eqb-true k l (T_true _ e))) | inr m ↦ inr (contains_member d l m) ]

pub member_contains : (d : List ℕ) (l : ℕ) → Member l d → T (has_literal d l)
member_contains [] l m = absurd m
member_contains (k ∷ d) l (inl e) = or_l (nat_eq k l) (has_literal d l) (T_of (eq-eqb k l (sym e)))
member_contains (k ∷ d) l (inr m) = or_r (nat_eq k l) (has_literal d l) (member_contains d l m)

-- a clause is true where one whose literals it has is true
pub clause_part : (a : Valuation) (c d : List ℕ) → ((l : ℕ) → Member l c → Member l d) → T (clause a c) → T (clause a d)
clause_part a c d p t = let r = clause_some a c t in clause_by a d r.0 (p r.0 r.1) r.2

-- no variable occurs with both signs
pub Consistent : List ℕ → Type 0
Consistent d = (v : ℕ) → Member (literal_of v true) d → Member (literal_of v false) d → ⊥

pub rising_consistent : (d : List ℕ) → Rising d → Consistent d
unfolding Consistent
rising_consistent [] h v m n = m
rising_consistent (l ∷ d) h v (inl e) (inl f) = let z : ⊥ = omega arith in z
rising_consistent (l ∷ d) h v (inl e) (inr n) = let q = member_all (λ k. variable_of l < variable_of k) d (literal_of v false) h.0 n in omega arith
rising_consistent (l ∷ d) h v (inr m) (inl f) = let q = member_all (λ k. variable_of l < variable_of k) d (literal_of v true) h.0 m in omega arith
rising_consistent (l ∷ d) h v (inr m) (inr n) = rising_consistent d h.1 v m n

-- the literals of a clause that is spelled from relay 0 on
pub spelled_from : (inside sign : ℕ → Bool) (k l : ℕ) → Member l (spelled 0 k inside sign) → (i : ℕ) × (i < k) × T (inside i) × (l ≡ literal_of i (sign i))
spelled_from inside sign k l m =
    let r = spelled_member 0 inside sign k l m in (r.0, r.1, r.2, subst (λ j. l ≡ literal_of j (sign r.0)) (zero-add r.0) r.3)

pub from_spelled : (inside sign : ℕ → Bool) (k i : ℕ) → i < k → T (inside i) → Member (literal_of i (sign i)) (spelled 0 k inside sign)
from_spelled inside sign k i h t =
    subst (λ j. Member (literal_of j (sign i)) (spelled 0 k inside sign)) (zero-add i) (member_spelled 0 inside sign k i h t)

pub spelled_consistent : (k : ℕ) (inside sign : ℕ → Bool) → Consistent (spelled 0 k inside sign)
unfolding Consistent
spelled_consistent k inside sign v m n =
    let p = spelled_from inside sign k (literal_of v true) m in
    let q = spelled_from inside sign k (literal_of v false) n in
    go p.0 q.0 p.3 q.3
  where
    go : (i j : ℕ) → literal_of v true ≡ literal_of i (sign i) → literal_of v false ≡ literal_of j (sign j) → ⊥
    go i j e f =
        let iv = sym (literal_of_half v true) ∙ ap (λ l. l / 2) e ∙ literal_of_half i (sign i) in
        let jv = sym (literal_of_half v false) ∙ ap (λ l. l / 2) f ∙ literal_of_half j (sign j) in
        let is = sym (literal_of_sign v true) ∙ ap (λ l. nat_eq (l % 2) 0) e ∙ literal_of_sign i (sign i) in
        let js = sym (literal_of_sign v false) ∙ ap (λ l. nat_eq (l % 2) 0) f ∙ literal_of_sign j (sign j) in
        true≢false (is ∙ ap sign (sym iv ∙ jv) ∙ sym js)

literal_split : (l : ℕ) → l ≡ literal_of (l / 2) (nat_eq (l % 2) 0)
literal_split l =
    elim (cases_eq (l % 2) 0) [ inl e ↦ rw (eq-eqb (l % 2) 0 e) (omega arith) | inr n ↦ rw (ne_eqb (l % 2) 0 n) (omega arith) ]

-- a relay occurs in a clause, with one sign or the other
abbrev pub occurs : List ℕ → ℕ → Bool
occurs d i = has_literal d (literal_of i true) || has_literal d (literal_of i false)

-- the entry of a clause has its literals
module _ (k : Kind) (d : List ℕ) (over : OverRelays 32 d) (one : Consistent d) where
  first_bit : (i : ℕ) → i < 32 → bit (entry_of k d).first i ≡ occurs d i
  first_bit i h = bit_number 32 (occurs d) i h

  second_bit : (i : ℕ) → i < 32 → bit (entry_of k d).second i ≡ has_literal d (literal_of i true)
  second_bit i h = bit_number 32 (λ i. has_literal d (literal_of i true)) i h

  pub entry_part : (l : ℕ) → Member l (clause_of (entry_of k d)) → Member l d
  entry_part l m =
      let r = spelled_from (bit (entry_of k d).first) (bit (entry_of k d).second) 32 l m in
      go r.0 (subst T (first_bit r.0 r.1) r.2) (r.3 ∙ ap (literal_of r.0) (second_bit r.0 r.1))
    where
      go : (i : ℕ) → T (occurs d i) → l ≡ literal_of i (has_literal d (literal_of i true)) → Member l d
      go i t e =
          elim (cases_T (has_literal d (literal_of i true))) [
            | inl y ↦ subst (λ x. Member x d) (sym (e ∙ ap (literal_of i) (T_true _ y))) (contains_member d (literal_of i true) y)
            | inr n ↦ subst (λ x. Member x d) (sym (e ∙ ap (literal_of i) (T_false _ n))) (contains_member d (literal_of i false) (elim (or_e _ _ t) [ inl y ↦ absurd (T_not _ n y) | inr z ↦ z ]))
          ]

  pub part_entry : (l : ℕ) → Member l d → Member l (clause_of (entry_of k d))
  unfolding Consistent
  part_entry l m = go (nat_eq (l % 2) 0) (literal_split l)
    where
      i : ℕ
      i = l / 2

      low : i < 32
      low = member_all (λ j. variable_of j < 32) d l over m

      put : (b : Bool) → has_literal d (literal_of i true) ≡ b → T (occurs d i) → Member (literal_of i b) (clause_of (entry_of k d))
      put b e t =
          subst (λ x. Member (literal_of i x) (clause_of (entry_of k d))) (second_bit i low ∙ e)
          (from_spelled (bit (entry_of k d).first) (bit (entry_of k d).second) 32 i low (subst T (sym (first_bit i low)) t))

      go : (b : Bool) → l ≡ literal_of i b → Member l (clause_of (entry_of k d))
      go true e =
          let h = member_contains d (literal_of i true) (subst (λ x. Member x d) e m) in
          subst (λ x. Member x (clause_of (entry_of k d))) (sym e) (put true (T_true _ h) (or_l _ _ h))
      go false e =
          let n = subst (λ x. Member x d) e m in
          subst (λ x. Member x (clause_of (entry_of k d))) (sym e)
          (put false (T_false _ (not_T _ (λ y. one i (contains_member d (literal_of i true) y) n))) (or_r _ _ (member_contains d (literal_of i false) n)))

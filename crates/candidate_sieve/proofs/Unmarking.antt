-- Marks taken away one after another, and what is left of them. Assumes nothing.
use Rattle.std.proofs.Common.{◌≡◌, ℕ, zero, suc, ◌+◌, ◌<◌, not, ◌&&◌, cond, T, List, [], ◌∷◌, ◌++◌, length, get_or, take, drop, sym, refl, ap, subst, inl, inr, arith}
use Rattle.std.specs.List.{AllByRecursion}
use Rattle.system.specs.Literals.{Valuation, bit, clause, clauses, Member}
use Rattle.system.specs.Preserving.{after}
use Rattle.system.proofs.Truth.{T_true, cases_T, clauses_each, clauses_parts, all_place}
use Rattle.sieve.specs.Marks.{marked, Marks, Within, Reduced}
use Rattle.sieve.proofs.Marked.{marked_below}
use Rattle.sieve.proofs.Reducing.{reduced}
use Rattle.candidate_sieve.specs.Candidates.{Formed, chosen, TogetherClosed}
use Rattle.candidate_sieve.specs.Questions.{Breaks, unmarked}
use Rattle.candidate_sieve.specs.Laws.{chosen_from, chosen_at, chosen_within}
use Rattle.system.proofs.Preserving.{relays_alike}

pub unmarked_length : (t : ℕ) (M : List ℕ) (cs : List (List ℕ)) → length (unmarked t M cs) ≡ length M
unmarked_length t [] cs = refl
unmarked_length t (x ∷ M) [] = refl
unmarked_length t (x ∷ M) (c ∷ cs) = ap suc (unmarked_length t M cs)

-- the first n marks are done
pub record Unmarking (t : ℕ) (all M : List ℕ) (cs : List (List ℕ)) (n : ℕ) : Type 0 where
  pub together : take n M ++ unmarked t (drop n M) cs ≡ all
  pub long : n + length cs ≡ length M

-- the marks that are left, place by place
pub unmarked_at : (t : ℕ) (M : List ℕ) (cs : List (List ℕ)) (i : ℕ) → i < length M → length M ≡ length cs
    → get_or (unmarked t M cs) i 0 ≡ cond (clause (bit t) (get_or cs i [])) (get_or M i 0) 0
unmarked_at t [] cs i h e = absurd (let z : ⊥ = omega arith in z)
unmarked_at t (x ∷ M) [] i h e = absurd (let z : ⊥ = omega arith in z)
unmarked_at t (x ∷ M) (c ∷ cs) zero h e = refl
unmarked_at t (x ∷ M) (c ∷ cs) (suc i) h e = unmarked_at t M cs i (omega arith) (omega arith)

-- one of clauses that are not all true is false
pub some_false : (b : Valuation) (cs : List (List ℕ)) → T (not (clauses b cs)) → (c : List ℕ) × Member c cs × T (not (clause b c))
some_false b [] t = absurd t
some_false b (c ∷ cs) t =
    elim (cases_T (clause b c)) [
      | inl y ↦ (let r = some_false b cs (subst (λ x. T (not (x && clauses b cs))) (T_true (clause b c) y) t) in (r.0, inr r.1, r.2))
      | inr n ↦ (c, inl refl, n)
    ]

module _ (cs held : List (List ℕ)) (M : List ℕ) (m : Marks (length cs) M) (f : AllByRecursion Formed cs) (t : ℕ) (b : Breaks (held ++ chosen M cs) (chosen M cs) t) where
  -- what is marked in a closed part is true in the state
  closed_true : (N : List ℕ) → TogetherClosed cs held N → Within N M → (i : ℕ) → T (marked N i) → T (clause (bit t) (get_or cs i []))
  closed_true N closed w i y =
      let l : i < length cs = (let k = marked_below M i (w i y) in let e = m.0 in omega arith) in
      let p = clauses_parts b.values held (chosen M cs) b.admitted in
      let d = closed b.values p.0 (chosen_within b.values cs N M w p.1) in
      subst T (sym (relays_alike 32 (bit t) (after b.values) (get_or cs i []) (all_place Formed cs [] i f l).0 b.next))
      (clauses_each (after b.values) (chosen N cs) (get_or cs i []) d (chosen_at N cs i l y))

  -- one of the marked clauses is false in the state
  one_false : (i : ℕ) × T (marked M i) × T (not (clause (bit t) (get_or cs i [])))
  one_false =
      let s = some_false (bit t) (chosen M cs) b.broken in
      let r = chosen_from M cs s.0 s.1 in
      (r.0, r.2, subst (λ d. T (not (clause (bit t) d))) (sym r.3) s.2)

  pub unmarked_reduced : Reduced (length cs) (TogetherClosed cs held) M (unmarked t M cs)
  unmarked_reduced =
      reduced (length cs) (TogetherClosed cs held) M (unmarked t M cs) m (unmarked_length t M cs) (λ i. clause (bit t) (get_or cs i [])) (λ i h. unmarked_at t M cs i h m.0)
      closed_true one_false

-- The laws of the family of closed marks, none and the union of two, where the implementation can cite them. Assumes nothing.
use Rattle.std.proofs.Common.{◌≡◌, ℕ, zero, suc, ◌<◌, Bool, true, false, cond, T, List, [], ◌∷◌, length, get_or, sym, refl, subst, inl, inr, arith, nat_eq}
use Rattle.system.specs.Literals.{Valuation, clause, clauses, Member}
use Rattle.system.specs.Preserving.{after}
use Rattle.system.proofs.Truth.{T_of, T_true, clauses_each, clauses_all}
use Rattle.sieve.specs.Marks.{marked, Marks, Within, union, none}
use Rattle.sieve.proofs.Marked.{none_marked, union_marked, union_left, union_right}
use Rattle.candidate_sieve.specs.Candidates.{chosen, TogetherClosed}

-- the marked ones by their places
pub chosen_from : (M : List ℕ) (cs : List (List ℕ)) (c : List ℕ) → Member c (chosen M cs) → (i : ℕ) × (i < length cs) × T (marked M i) × (get_or cs i [] ≡ c)
chosen_from [] cs c m = absurd m
chosen_from (x ∷ M) [] c m = absurd m
chosen_from (x ∷ M) (d ∷ cs) c m = go (λ h. let r = chosen_from M cs c h in (suc r.0, omega arith, r.2, r.3)) (nat_eq x 1) refl m
  where
    Place : Type 0
    Place = (i : ℕ) × (i < length (d ∷ cs)) × T (marked (x ∷ M) i) × (get_or (d ∷ cs) i [] ≡ c)

    go : (Member c (chosen M cs) → Place) → (b : Bool) → nat_eq x 1 ≡ b → Member c (cond b (d ∷ chosen M cs) (chosen M cs)) → Place
    go later true e (inl q) = (0, omega arith, T_of e, sym q)
    go later true e (inr h) = later h
    go later false e h = later h

pub chosen_at : (M : List ℕ) (cs : List (List ℕ)) (i : ℕ) → i < length cs → T (marked M i) → Member (get_or cs i []) (chosen M cs)
chosen_at [] cs i h t = absurd t
chosen_at (x ∷ M) [] i h t = absurd (let z : ⊥ = omega arith in z)
chosen_at (x ∷ M) (c ∷ cs) zero h t = rw (T_true (nat_eq x 1) t) (inl refl)
chosen_at (x ∷ M) (c ∷ cs) (suc i) h t = go (nat_eq x 1) (chosen_at M cs i (omega arith) t)
  where
    go : (b : Bool) → Member (get_or cs i []) (chosen M cs) → Member (get_or cs i []) (cond b (c ∷ chosen M cs) (chosen M cs))
    go true m = inr m
    go false m = m

-- where more is marked, more is true
pub chosen_within : (a : Valuation) (cs : List (List ℕ)) (M N : List ℕ) → Within M N → T (clauses a (chosen N cs)) → T (clauses a (chosen M cs))
chosen_within a cs M N w t =
    clauses_all a (chosen M cs) (λ c m.
    let r = chosen_from M cs c m in
    clauses_each a (chosen N cs) c t (subst (λ d. Member d (chosen N cs)) r.3 (chosen_at N cs r.0 r.1 (w r.0 r.2))))

pub none_closed : (cs held : List (List ℕ)) → TogetherClosed cs held (none (length cs))
none_closed cs held a h t =
    clauses_all (after a) (chosen (none (length cs)) cs) (λ c m. let r = chosen_from (none (length cs)) cs c m in absurd (none_marked (length cs) r.0 r.2))

pub union_closed : (cs held : List (List ℕ)) (M N : List ℕ) → Marks (length cs) M → Marks (length cs) N → TogetherClosed cs held M → TogetherClosed cs held N → TogetherClosed cs held (union M N)
union_closed cs held M N m n f g a h t = clauses_all (after a) (chosen (union M N) cs) (λ c k. here c (chosen_from (union M N) cs c k))
  where
    here : (c : List ℕ) → ((i : ℕ) × (i < length cs) × T (marked (union M N) i) × (get_or cs i [] ≡ c)) → T (clause (after a) c)
    here c (i, l, y, e) =
        subst (λ d. T (clause (after a) d)) e
        (elim (union_marked (length cs) M N m n i y) [
          | inl u ↦ clauses_each (after a) (chosen M cs) _ (f a h (chosen_within a cs M (union M N) (union_left (length cs) M N m n) t)) (chosen_at M cs i l u)
          | inr u ↦ clauses_each (after a) (chosen N cs) _ (g a h (chosen_within a cs N (union M N) (union_right (length cs) M N m n) t)) (chosen_at N cs i l u)
        ])

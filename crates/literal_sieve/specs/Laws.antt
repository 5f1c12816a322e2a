-- The laws of the family of the literal sieve: no marks are closed, and so is the union of two closed sets.
use Rattle.std.proofs.Common.{◌≡◌, ℕ, ◌<◌, not, T, List, sym, ap, ◌∙◌, inl, inr}
use native.Mathlib.Nat.{zero-add}
use Rattle.system.specs.Literals.{Valuation, bit, clause}
use Rattle.system.specs.Preserving.{after}
use Rattle.system.proofs.Truth.{alone_clause, clause_alone}
use Rattle.system.proofs.Spelled.{spelled_true, true_spelled}
use Rattle.sieve.specs.Marks.{marked, Marks, Within, none, union}
use Rattle.sieve.proofs.Marked.{none_marked, union_marked, union_left, union_right}
use Rattle.literal_sieve.specs.Literal.{AtState, false_at, ClauseClosed}

module _ (n s : ℕ) where
  -- the marked clause is true where a marked relay is not as in the state
  pub false_at_some : (a : Valuation) (M : List ℕ) → T (clause a (false_at n s M)) → (i : ℕ) × (i < n) × T (marked M i) × (a i ≡ not (bit s i))
  false_at_some a M t = let r = spelled_true 0 (marked M) (λ i. not (bit s i)) a n t in (r.0, r.1, r.2, ap a (sym (zero-add r.0)) ∙ r.3)

  pub some_false_at : (a : Valuation) (M : List ℕ) (i : ℕ) → i < n → T (marked M i) → a i ≡ not (bit s i) → T (clause a (false_at n s M))
  some_false_at a M i h t e = true_spelled 0 (marked M) (λ i. not (bit s i)) a n i h t (ap a (zero-add i) ∙ e)

  pub false_at_within : (a : Valuation) (M N : List ℕ) → Within M N → T (clause a (false_at n s M)) → T (clause a (false_at n s N))
  false_at_within a M N w t = let r = false_at_some a M t in some_false_at a N r.0 r.1 (w r.0 r.2) r.3

-- no clause is true with no relay marked; and a union's is true where one of the two is
module _ (s : AtState) (held : List (List ℕ)) where
  pub none_closed : ClauseClosed s held (none s.n)
  none_closed a h t = absurd (let r = false_at_some s.n s.state a (none s.n) (alone_clause a _ t) in none_marked s.n r.0 r.2)

  pub union_closed : (M N : List ℕ) → Marks s.n M → Marks s.n N → ClauseClosed s held M → ClauseClosed s held N → ClauseClosed s held (union M N)
  union_closed M N m k f g a h t =
      let r = false_at_some s.n s.state a (union M N) (alone_clause a _ t) in
      elim (union_marked s.n M N m k r.0 r.2) [
        | inl y ↦ clause_alone (after a) _ (false_at_within s.n s.state (after a) M (union M N) (union_left s.n M N m k) (alone_clause (after a) (false_at s.n s.state M) (f a h (clause_alone a _ (some_false_at s.n s.state a M r.0 r.1 y r.3)))))
        | inr y ↦ clause_alone (after a) _ (false_at_within s.n s.state (after a) N (union M N) (union_right s.n M N m k) (alone_clause (after a) (false_at s.n s.state N) (g a h (clause_alone a _ (some_false_at s.n s.state a N r.0 r.1 y r.3)))))
      ]

-- What is learned from a state is a minimal inductive clause that is false there, where there is one. Assumes nothing.
use Rattle.std.proofs.Common.{◌≡◌, ℕ, zero, suc, ◌/◌, ◌%◌, ◌<◌, ◌≤◌, Bool, true, false, cond, not, T, List, [], ◌∷◌, length, get_or, Some, None, Option, sym, refl, ap, ◌∙◌, subst, arith, nat_eq}
use mathlib.Core.Bool.{beq}
use Rattle.std.proofs.Math.Dec.{T_not, not_T}
use Rattle.std.proofs.Math.Bool.{not-eq-not}
use Rattle.std.proofs.lemmas.Bool.Decides.{nat_tests}
use Rattle.system.specs.Literals.{bit, variable_of, clause, Member}
use Rattle.system.specs.Spelling.{literal_of}
use Rattle.system.specs.Systems.{System, Inductive, OverRelays}
use Rattle.system.proofs.Truth.{clause_by, member_all, all_members}
use Rattle.system.proofs.Spelled.{spelled_over, literal_of_half}
use Rattle.sieve.specs.Marks.{marked, Marks, Within}
use Rattle.sieve.proofs.Marked.{marked_below, all_small}
use Rattle.sieve.proofs.Trims.{Fine, within_full, trimmed_fine, trimmed_minimal}
use Rattle.literal_sieve.specs.Literal.{false_at}
use Rattle.literal_sieve.specs.Laws.{false_at_some, false_at_within}
use Rattle.books.specs.declared.entry.Entry.{Entry}
use Rattle.books.specs.declared.entry.Kind.TheVariants.{Found}
use Rattle.books.specs.Entries.{clause_of, entry_of, has_literal}
use Rattle.books.specs.Books.{meets}
use Rattle.books.proofs.Meanings.{contains_member, member_contains, clause_part, spelled_from, from_spelled, spelled_consistent, entry_part, part_entry}
use Rattle.learning.specs.Learning.{LiteralClosed, Initiated, DescendedTo, TrimmedTo, LearnedAt}
use Rattle.learning.specs.Minimal.{Part, InductiveClause, NoneInductive, MinimalInductive, LearnsMinimal}

-- marks of a test
abbrev mark : Bool → ℕ
mark b = cond b 1 0

marks_of : ℕ → (ℕ → Bool) → List ℕ
marks_of zero p = []
marks_of (suc k) p = mark (p 0) ∷ marks_of k (λ i. p (suc i))

marks_of_at : (k : ℕ) (p : ℕ → Bool) (i : ℕ) → i < k → get_or (marks_of k p) i 0 ≡ mark (p i)
unfolding marks_of
marks_of_at zero p i h = absurd (let z : ⊥ = omega arith in z)
marks_of_at (suc k) p zero h = refl
marks_of_at (suc k) p (suc i) h = marks_of_at k (λ j. p (suc j)) i (omega arith)

marks_of_length : (k : ℕ) (p : ℕ → Bool) → length (marks_of k p) ≡ k
unfolding marks_of
marks_of_length zero p = refl
marks_of_length (suc k) p = ap suc (marks_of_length k (λ i. p (suc i)))

mark_is : (b : Bool) → nat_eq (mark b) 1 ≡ b
mark_is b = grind arith

mark_small : (b : Bool) → mark b < 2
mark_small b = grind arith

module _ (k : ℕ) (p : ℕ → Bool) where
  marks_of_marks : Marks k (marks_of k p)
  marks_of_marks =
      (marks_of_length k p, all_small (marks_of k p) (λ i h. rw (marks_of_at k p i (subst (λ n. i < n) (marks_of_length k p) h)) (mark_small (p i))))

  marked_as : (i : ℕ) → i < k → marked (marks_of k p) i ≡ p i
  marked_as i h = ap (λ x. nat_eq x 1) (marks_of_at k p i h) ∙ mark_is (p i)

-- a literal that is false where its variable has that value
false_literal : (x : Bool) (l : ℕ) → T (not (beq x (nat_eq (l % 2) 0))) → l ≡ literal_of (l / 2) (not x)
false_literal true l t = grind (arith, nat_tests)
false_literal false l t = grind (arith, nat_tests)

-- predicates with the same truth are inductive together
inductive_same : (c : System) (m p q : ℕ → Bool) → ((s : ℕ) → T (p s) → T (q s)) → ((s : ℕ) → T (q s) → T (p s)) → Inductive c m p → Inductive c m q
inductive_same c m p q f g h = (λ s i. f s (h.0 s i), λ s t a b j. f t (h.1 s t a (g s b) j))

module _ (c : System) (few : c.n ≤ 32) (es : List Entry) (s : ℕ) where
  -- the clause of marks
  abbrev of_marks : List ℕ → List ℕ
  of_marks M = false_at c.n s M

  of_marks_false : (M : List ℕ) → T (not (clause (bit s) (of_marks M)))
  of_marks_false M = not_T _ (λ t. let r = false_at_some c.n s (bit s) M t in not-eq-not.1 refl r.3)

  of_marks_over : (M : List ℕ) → OverRelays c.n (of_marks M)
  of_marks_over M = spelled_over c.n c.n (marked M) (λ i. not (bit s i)) (omega arith)

  marked_literal : (M : List ℕ) → Marks c.n M → (i : ℕ) → T (marked M i) → Member (literal_of i (not (bit s i))) (of_marks M)
  marked_literal M m i t = from_spelled (marked M) (λ j. not (bit s j)) c.n i (subst (λ k. i < k) m.0 (marked_below M i t)) t

  literal_marked : (M : List ℕ) (i : ℕ) (b : Bool) → Member (literal_of i b) (of_marks M) → T (marked M i)
  literal_marked M i b m =
      let r = spelled_from (marked M) (λ j. not (bit s j)) c.n (literal_of i b) m in
      subst (λ k. T (marked M k)) (sym (literal_of_half r.0 (not (bit s r.0))) ∙ sym (ap (λ l. l / 2) r.3) ∙ literal_of_half i b) r.2

  -- a clause that is false at the state is that of its marks
  marks_for : List ℕ → List ℕ
  marks_for d = marks_of c.n (λ i. has_literal d (literal_of i (not (bit s i))))

  marks_for_marks : (d : List ℕ) → Marks c.n (marks_for d)
  unfolding marks_for
  marks_for_marks d = marks_of_marks c.n _

  marks_for_part : (d : List ℕ) → Part (of_marks (marks_for d)) d
  unfolding marks_for
  marks_for_part d l m =
      let r = spelled_from (marked (marks_for d)) (λ i. not (bit s i)) c.n l m in
      subst (λ x. Member x d) (sym r.3) (contains_member d _ (subst T (marked_as c.n _ r.0 r.1) r.2))

  part_marks_for : (d : List ℕ) → OverRelays c.n d → T (not (clause (bit s) d)) → Part d (of_marks (marks_for d))
  unfolding marks_for
  part_marks_for d over f l m =
      let e = false_literal (bit s (l / 2)) l (not_T _ (λ t. T_not _ f (clause_by (bit s) d l m t))) in
      let low = member_all (λ j. variable_of j < c.n) d l over m in
      subst (λ x. Member x (of_marks (marks_for d))) (sym e)
      (from_spelled (marked (marks_for d)) (λ i. not (bit s i)) c.n (l / 2) low
      (subst T (sym (marked_as c.n _ (l / 2) low)) (member_contains d _ (subst (λ x. Member x d) e m))))

  -- closed and initiated marks
  abbrev Good : List ℕ → Type 0
  Good M = Fine c.n (LiteralClosed c es s) (Initiated c s) M

  grows : (M N : List ℕ) → Within M N → Initiated c s M → Initiated c s N
  grows M N w h p i = false_at_within c.n s (bit p) M N w (h p i)

  -- those of an inductive clause that is false at the state
  good_marks : (d : List ℕ) → OverRelays c.n d → T (not (clause (bit s) d)) → InductiveClause c es d → Good (marks_for d)
  good_marks d over f h =
      let same = inductive_same c (meets c es) (λ p. clause (bit p) d) (λ p. clause (bit p) (of_marks (marks_for d))) (λ p. clause_part (bit p) d _ (part_marks_for d over f)) (λ p. clause_part (bit p) _ d (marks_for_part d)) h in
      record { marks = marks_for_marks d; stable = same.1; well = same.0 }

  none_inductive : (L : List ℕ) → DescendedTo c es s L → (Initiated c s L → ⊥) → NoneInductive c es s
  none_inductive L d n x over f h =
      let g = good_marks x over f h in
      n (grows (marks_for x) L (d.greatest (marks_for x) g.marks g.stable (within_full c.n (marks_for x) g.marks)) g.well)

  -- the entry of marks has their literals
  abbrev entry_for : List ℕ → List ℕ
  entry_for M = clause_of (entry_of Found (of_marks M))

  over_32 : (M : List ℕ) → OverRelays 32 (of_marks M)
  over_32 M = spelled_over 32 c.n (marked M) (λ i. not (bit s i)) few

  found_part : (M : List ℕ) → Part (entry_for M) (of_marks M)
  found_part M = entry_part Found (of_marks M) (over_32 M) (spelled_consistent c.n (marked M) (λ i. not (bit s i)))

  part_found : (M : List ℕ) → Part (of_marks M) (entry_for M)
  part_found M = part_entry Found (of_marks M) (over_32 M) (spelled_consistent c.n (marked M) (λ i. not (bit s i)))

  good_inductive : (M : List ℕ) → Good M → InductiveClause c es (entry_for M)
  good_inductive M h =
      inductive_same c (meets c es) (λ p. clause (bit p) (of_marks M)) (λ p. clause (bit p) (entry_for M)) (λ p. clause_part (bit p) _ _ (part_found M)) (λ p. clause_part (bit p) _ _ (found_part M)) (h.well, h.stable)

  module _ (L M : List ℕ) (d : DescendedTo c es s L) (init : Initiated c s L) (trim : TrimmedTo c es s L M) where
    good_trimmed : Good M
    good_trimmed =
        trimmed_fine c.n (LiteralClosed c es s) (Initiated c s) c.n L M (record { marks = d.marks; stable = d.stable; well = init }) trim

    -- a part of the trimmed clause that is inductive has all its literals
    no_less : (p : List ℕ) → Part p (of_marks M) → InductiveClause c es p → Part (of_marks M) p
    no_less p part h l m =
        let over = all_members (λ l. variable_of l < c.n) p (λ k q. member_all (λ l. variable_of l < c.n) (of_marks M) k (of_marks_over M) (part k q)) in
        let f = not_T _ (λ t. T_not _ (of_marks_false M) (clause_part (bit s) p _ part t)) in
        let g = good_marks p over f h in
        let w : Within (marks_for p) M = λ i t. literal_marked M i _ (part _ (marks_for_part p _ (marked_literal (marks_for p) g.marks i t))) in
        let r = spelled_from (marked M) (λ j. not (bit s j)) c.n l m in
        let n = trimmed_minimal c.n (LiteralClosed c es s) (Initiated c s) grows (marks_for p) g c.n L M trim w r.0 r.1 r.2 in
        subst (λ k. Member k p) (sym r.3) (marks_for_part p _ (marked_literal (marks_for p) g.marks r.0 n))

    found_minimal : MinimalInductive c es s (entry_for M)
    found_minimal =
        record {
          false_there = not_T _ (λ t. T_not _ (of_marks_false M) (clause_part (bit s) _ _ (found_part M) t));
          inductive = good_inductive M good_trimmed;
          minimal = λ p part h. part.1.2 (no_less p (λ l m. found_part M l (part.0 l m)) h part.1.0 (found_part M part.1.0 part.1.1));
        }

  pub learns_minimal : (o : Option Entry) → LearnedAt c es s o → LearnsMinimal c es s o
  learns_minimal (Some e) h =
      (ap (λ (x : Entry). x.kind) h.entry, subst (λ (x : Entry). MinimalInductive c es s (clause_of x)) (sym h.entry) (found_minimal h.largest h.trimmed h.descended h.initiated h.trims))
  learns_minimal None h = none_inductive h.largest h.descended h.uninitiated

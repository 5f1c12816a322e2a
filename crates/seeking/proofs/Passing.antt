-- Targets that are passed because they have no counterexample, and the first that has one. Assumes nothing.
use Rattle.std.proofs.Common.{◌≡◌, ℕ, ◌+◌, ◌-◌, ◌^◌, ◌<◌, ◌≤◌, true, not, ◌&&◌, T, ◌⊎◌, List, [], length, get_or, Some, None, sym, refl, ap, ◌∙◌, subst, inl, inr, arith, nat_eq, nat_le}
use Rattle.std.specs.List.{AllByRecursion}
use Rattle.std.proofs.Math.Dec.{T_not}
use Rattle.std.proofs.lemmas.Bool.{cases_lt, cases_eq, lt-ltb, le-ltb, leb-true, eq-eqb, ne_eqb, eqb-true}
use Rattle.system.specs.Literals.{bit, clause}
use Rattle.system.specs.Systems.{System, OverRelays, Rising}
use Rattle.system.proofs.Truth.{T_of, T_true, and_l, and_r, and_i, all_place}
use Rattle.system.proofs.Spelled.{length_spelled}
use Rattle.books.specs.declared.entry.Entry.{Entry}
use Rattle.books.specs.declared.entry.Kind.{Kind}
use Rattle.books.specs.declared.entry.Kind.TheVariants.{Blank, Found, Subgoal, Taken}
use Rattle.books.specs.Entries.{is_subgoal, blank, held_as, held_clause}
use Rattle.books.specs.Books.{subgoal_at, rule_as, rule, Ruled}
use Rattle.books.specs.Targets.{aimed, Counterexample, FirstCounterexample, NoCounterexample}
use Rattle.books.proofs.Entries.{aimed_clause, aimed_subgoal, subgoal_at_below}
use Rattle.books.proofs.Ruled.{ruled_each, rule_low}
use Rattle.books.proofs.Consistent.{false_just_there, held_low}
use Rattle.system.proofs.Sizes.{rising_length}
use Rattle.questions.specs.Questions.{StepAgainst}
use Rattle.questions.proofs.Whole.{Narrow}
use Rattle.questions.specs.declared.transition.Transition.{Transition}

-- a safety clause as what is asked about
pub narrow_clause : (c : System) → c.n ≤ 32 → AllByRecursion (λ d. OverRelays c.n d × Rising d) c.safety → (k : ℕ) (d : List ℕ) → k < length c.safety → d ≡ get_or c.safety k [] → Narrow c.n d
narrow_clause c few all k d h e =
    let a = all_place (λ d. OverRelays c.n d × Rising d) c.safety [] k all h in
    let l = rising_length c.n (get_or c.safety k []) a.0 a.1 in
    subst (Narrow c.n) (sym e) (record { over = a.0; short = omega arith })

-- the kind of an entry
pub is_goal : (k : Kind) → k ≡ Subgoal → T (is_subgoal k)
is_goal k e = rw e tt

pub no_goal : (k : Kind) → (k ≡ Subgoal → ⊥) → T (not (is_subgoal k))
no_goal Blank n = tt
no_goal Found n = tt
no_goal Subgoal n = absurd (n refl)
no_goal Taken n = tt

module _ (c : System) (es : List Entry) where
  -- no target below k has a counterexample
  abbrev pub Passed : ℕ → Type 0
  Passed k = (j s t : ℕ) → j < k → Counterexample c es j s t → ⊥

  pub passed_more : (k : ℕ) → Passed k → ((s t : ℕ) → Counterexample c es k s t → ⊥) → Passed (k + 1)
  passed_more k p here j s t h x = elim (cases_eq j k) [ inl e ↦ here s t (subst (λ i. Counterexample c es i s t) e x) | inr n ↦ p j s t (omega arith) x ]

  first : (k s t : ℕ) → Passed k → Counterexample c es k s t → FirstCounterexample c es k s t
  first k s t p x = record { found = x; earliest = λ j h u v. p j u v h }

  -- a safety clause as the target
  pub clause_first : (k : ℕ) (d : List ℕ) (x : Transition) → k < length c.safety → d ≡ get_or c.safety k [] → Passed k → StepAgainst c es d (Some x) → FirstCounterexample c es k x.state x.successor
  clause_first k d x h e p a =
      first k x.state x.successor p (record {
        before = a.consistent;
        joined = a.joined;
        at = aimed_clause c es k x.successor h (subst (λ f. T (not (clause (bit x.successor) f))) e a.broken);
      })

  pub clause_passed : (k : ℕ) (d : List ℕ) → k < length c.safety → d ≡ get_or c.safety k [] → Passed k → StepAgainst c es d None → Passed (k + 1)
  clause_passed k d h e p a = passed_more k p (λ s t x. T_not _ (aims t x.at) (subst (λ f. T (clause (bit t) f)) e (a s t x.before x.joined)))
    where
      aims : (t : ℕ) → T (aimed c es k t) → T (not (clause (bit t) (get_or c.safety k [])))
      aims t = rw (lt-ltb k (length c.safety) h) (λ q. q)

  -- targets that are no safety clause are subgoals
  subgoal_aimed : (k t : ℕ) → length c.safety ≤ k → T (aimed c es k t) → (256 ≤ k) × T (subgoal_at es (k - 256) t)
  subgoal_aimed k t h =
      rw (le-ltb k (length c.safety) h) (λ q. (leb-true 256 k (T_true _ (and_l (nat_le 256 k) (subgoal_at es (k - 256) t) q)), and_r (nat_le 256 k) (subgoal_at es (k - 256) t) q))

  pub clauses_passed : (k : ℕ) → length c.safety ≤ k → Passed k → Passed 256
  clauses_passed k h p j s t l x =
      elim (cases_lt j k) [ inl b ↦ p j s t b x | inr g ↦ (let q = (subgoal_aimed j t (omega arith) x.at).0 in omega arith) ]

  module _ (few : length c.safety ≤ 256) where
    -- more subgoals than there are entries
    pub all_passed : (k : ℕ) → length es ≤ k → Passed (256 + k) → NoCounterexample c es
    all_passed k h p j s t x =
        elim (cases_lt j (256 + k)) [
          | inl b ↦ p j s t b x
          | inr g ↦ (let q = subgoal_at_below es (j - 256) t (subgoal_aimed j t (omega arith) x.at).1 in omega arith)
        ]

    module _ (i : ℕ) (h : i < length es) (e : Entry) (is : e ≡ get_or es i blank) where
      -- an entry as the target, where it is a subgoal
      at_first : (t : ℕ) → T (aimed c es (256 + i) t) → T (is_subgoal e.kind) × (e.first ≡ t)
      at_first t q =
          let back : (256 + i) - 256 ≡ i = omega arith in
          let a = subst (λ k. T (subgoal_at es k t)) back (subgoal_aimed (256 + i) t (omega arith) q).1 in
          let b = subst (λ (f : Entry). T (is_subgoal f.kind && nat_eq f.first t)) (sym is) a in
          (and_l (is_subgoal e.kind) (nat_eq e.first t) b, eqb-true e.first t (T_true _ (and_r (is_subgoal e.kind) (nat_eq e.first t) b)))

      aimed_first : (t : ℕ) → T (is_subgoal e.kind) → e.first ≡ t → T (aimed c es (256 + i) t)
      aimed_first t g q =
          aimed_subgoal c es i t few
          (subst (λ (f : Entry). T (is_subgoal f.kind && nat_eq f.first t)) is (and_i (is_subgoal e.kind) (nat_eq e.first t) g (T_of (eq-eqb e.first t q))))

      pub other_passed : T (not (is_subgoal e.kind)) → Passed (256 + i) → Passed (256 + (i + 1))
      other_passed n p j s t b x = passed_more (256 + i) p (λ s t x. T_not _ n (at_first t x.at).0) j s t (omega arith) x

      module _ (ruled : Ruled c es) (goal : T (is_subgoal e.kind)) where
        keeps : T (rule c es i e)
        keeps = subst (λ f. T (rule c es i f)) (sym is) (ruled_each c es ruled i h)

        held_false : (t : ℕ) → t < 2 ^ c.n → clause (bit t) (held_clause c.n e) ≡ not (nat_eq t e.first)
        held_false t low = go e.kind goal keeps
          where
            go : (k : Kind) → T (is_subgoal k) → T (rule_as k c es i e) → clause (bit t) (held_as k c.n e) ≡ not (nat_eq t e.first)
            go Blank g r = absurd g
            go Found g r = absurd g
            go Subgoal g r = false_just_there c.n t e.first low (rule_low Subgoal c es i e r)
            go Taken g r = absurd g

        pub narrow_held : c.n ≤ 32 → (d : List ℕ) → d ≡ held_clause c.n e → Narrow c.n d
        narrow_held few d q = subst (Narrow c.n) (sym q) (record { over = held_low e.kind c es i e keeps; short = short e.kind goal })
          where
            short : (k : Kind) → T (is_subgoal k) → length (held_as k c.n e) ≤ 32
            short Blank g = absurd g
            short Found g = absurd g
            short Subgoal g = let l = length_spelled 0 (λ i. true) (λ i. not (bit e.first i)) c.n in omega arith
            short Taken g = absurd g

        pub subgoal_first : (d : List ℕ) (x : Transition) → d ≡ held_clause c.n e → Passed (256 + i) → StepAgainst c es d (Some x) → FirstCounterexample c es (256 + i) x.state x.successor
        subgoal_first d x q p a =
            first (256 + i) x.state x.successor p (record {
              before = a.consistent;
              joined = a.joined;
              at = aimed_first x.successor goal (met (cases_eq e.first x.successor));
            })
          where
            met : (e.first ≡ x.successor) ⊎ (e.first ≡ x.successor → ⊥) → e.first ≡ x.successor
            met (inl y) = y
            met (inr n) =
                absurd (T_not _ a.broken (subst T (sym (ap (clause (bit x.successor)) q ∙ held_false x.successor a.joined.next_low ∙ ap not (ne_eqb x.successor e.first (λ y. n (sym y))))) tt))

        pub subgoal_passed : (d : List ℕ) → d ≡ held_clause c.n e → Passed (256 + i) → StepAgainst c es d None → Passed (256 + (i + 1))
        subgoal_passed d q p a j s t b x = passed_more (256 + i) p here j s t (omega arith) x
          where
            here : (s t : ℕ) → Counterexample c es (256 + i) s t → ⊥
            here s t x =
                subst T (ap (clause (bit t)) q ∙ held_false t x.joined.next_low ∙ ap not (eq-eqb t e.first (sym (at_first t x.at).1))) (a s t x.before x.joined)

-- What an answer says of marks, where their clause is held too and its literals are assumed false after a step. Assumes nothing.
use Rattle.std.proofs.Common.{◌≡◌, ℕ, ◌+◌, ◌%◌, ◌^◌, ◌<◌, ◌≤◌, Bool, true, false, cond, not, T, List, [], ◌∷◌, ◌++◌, length, get_or, None, Ok, Option, sym, refl, ap, subst, subst₂, ◌∙◌, inl, inr, arith}
use mathlib.Core.Bool.{beq}
use Rattle.std.proofs.Math.Bool.{not-eq-not}
use Rattle.std.proofs.lemmas.Bool.{true≢false, lt-ltb, cond-true}
use Rattle.std.proofs.lemmas.Bool.Decides.{nat_tests}
use Rattle.system.specs.Literals.{Valuation, bit, clause}
use Rattle.system.specs.Spelling.{spelled}
use Rattle.system.specs.Preserving.{after}
use Rattle.system.proofs.Truth.{T_of, T_true, T_false, cases_T, alone_clause, clause_alone, clauses_parts, clauses_append}
use Rattle.system.proofs.Bits.{low_bits}
use Rattle.system.proofs.Spelled.{length_spelled}
use Rattle.solver.specs.Answers.{Satisfied, Answered, model, fits}
use Rattle.solver.specs.declared.capacity.Capacity.{Capacity}
use Rattle.solver.specs.declared.answer.Answer.{Answer}
use Rattle.solver.specs.declared.answer.Answer.TheVariants.{Yes, No}
use Rattle.faults.specs.Firsts.{unless}
use Rattle.faults.specs.declared.work.WorkFault.{WorkFault}
use Rattle.sieve.specs.Marks.{marked, Marks, Within, Reduced}
use Rattle.solver.specs.Answers.{spare}
use Rattle.sieve.specs.Sieves.{sift_fault, Sifted}
use Rattle.sieve.specs.declared.sifting.Sifting.TheVariants.{Closed, Fewer}
use Rattle.sieve.proofs.Marked.{marked_below}
use Rattle.sieve.proofs.Reducing.{reduced}
use Rattle.sieve.proofs.MarksChecked.{sift_marks, sift_spare, passed}
use Rattle.literal_sieve.specs.Literal.{AtState, false_at, ClauseClosed, need}
use Rattle.literal_sieve.specs.Laws.{false_at_some, some_false_at}
use Rattle.literal_sieve.proofs.Written.{spelled_negated, spelled_plain, spelled_each, each_spelled}

-- two values that differ, and two that agree
beq_clash : (a b : Bool) → a ≡ not b → beq a b ≡ false
beq_clash a b e = grind arith

beq_agree : (a b : Bool) → a ≡ b → beq a b ≡ true
beq_agree a b e = grind arith

-- the relays before a step in the low half of a model
model_before : (low high i : ℕ) → i < 32 → bit (low % 2 ^ 32) i ≡ model low high i
model_before low high i h = low_bits low i 32 h ∙ sym (cond-true _ _ _ (lt-ltb i 64 (omega arith)))

module _ (s : AtState) (few : s.n ≤ 32) (held : List (List ℕ)) (M : List ℕ) (m : Marks s.n M) where
  -- a no: no step leads from where the clause is true to where it is false
  no_closed : ((a : Valuation) → Satisfied a (held ++ false_at s.n s.state M ∷ []) (spelled 32 s.n (marked M) (bit s.state)) → ⊥) → ClauseClosed s held M
  no_closed none a h t =
      elim (cases_T (clause (after a) (false_at s.n s.state M))) [
        | inl y ↦ clause_alone (after a) (false_at s.n s.state M) y
        | inr f ↦ absurd (none a (clauses_append a held (false_at s.n s.state M ∷ []) h t, each_spelled 32 (marked M) (bit s.state) a s.n (unmet f)))
      ]
    where
      unmet : T (not (clause (after a) (false_at s.n s.state M))) → (i : ℕ) → i < s.n → T (marked M i) → a (32 + i) ≡ bit s.state i
      unmet f i l k =
          not-eq-not.0
          (λ e. true≢false (sym (T_true _ (some_false_at s.n s.state (after a) M i l k e)) ∙ T_false _ f))

  -- a yes: the marks left are of the relays that are before the step as in the state
  module _ (a : Valuation) (y : Satisfied a (held ++ false_at s.n s.state M ∷ []) (spelled 32 s.n (marked M) (bit s.state))) (p : ℕ) (is : (i : ℕ) → i < 32 → bit p i ≡ a i)
      (out : List ℕ) (long : length out ≡ length M) (at : (k : ℕ) → k < length out → get_or out k 0 ≡ cond (beq (bit p k) (bit s.state k)) (get_or M k 0) 0) where
    -- a marked literal is true before the step
    one_true : (i : ℕ) × T (marked M i) × T (not (beq (bit p i) (bit s.state i)))
    one_true =
        let h = clauses_parts a held (false_at s.n s.state M ∷ []) y.0 in
        let r = false_at_some s.n s.state a M (alone_clause a (false_at s.n s.state M) h.1) in
        let e : bit p r.0 ≡ not (bit s.state r.0) = is r.0 (omega (arith, r.1)) ∙ r.3 in
        (r.0, r.2, subst (λ b. T (not b)) (sym (beq_clash _ _ e)) tt)

    -- closed marks within those given are of relays as in the state: else their clause were true after the step too
    closed_kept : (N : List ℕ) → ClauseClosed s held N → Within N M → (i : ℕ) → T (marked N i) → T (beq (bit p i) (bit s.state i))
    closed_kept N shut w i t =
        let l : i < s.n = (let k = marked_below M i (w i t) in omega (arith, m.0)) in
        T_of (beq_agree _ _ (not-eq-not.0 (λ q. broken l (sym (is i (omega arith)) ∙ q))))
      where
        broken : i < s.n → a i ≡ not (bit s.state i) → ⊥
        broken l q =
            let h = clauses_parts a held (false_at s.n s.state M ∷ []) y.0 in
            let c = shut a h.0 (clause_alone a (false_at s.n s.state N) (some_false_at s.n s.state a N i l t q)) in
            let r = false_at_some s.n s.state (after a) N (alone_clause (after a) (false_at s.n s.state N) c) in
            not-eq-not.1 refl (sym (spelled_each 32 (marked M) (bit s.state) a s.n y.1 r.0 r.1 (w r.0 r.2)) ∙ r.3)

    yes_fewer : Reduced s.n (ClauseClosed s held) M out
    yes_fewer = reduced s.n (ClauseClosed s held) M out m long (λ i. beq (bit p i) (bit s.state i)) (λ i h. at i (omega arith)) closed_kept one_true

-- a clause that the spare capacity covers is added
spare_fits : (s : AtState) (held : List (List ℕ)) (capacity : Capacity) (d : List ℕ) → spare (need s) held capacity ≡ true → length d ≤ s.n → fits held d capacity ≡ true
spare_fits s held capacity d e l = grind (arith, nat_tests)

-- one sifting, by what was checked, written, asked and unmarked
module _ (s : AtState) (few : s.n ≤ 32) (held : List (List ℕ)) (capacity : Capacity) (M : List ℕ) (places : ℕ) (most : Capacity)
    (all : places ≡ s.n) (enough : most ≡ need s) (x y : Unit {0}) (checked : Ok y ≡ unless (sift_fault places most held capacity M) x)
    (p : ℕ) (same : p ≡ s.state) (d assumed : List ℕ) (written : d ≡ spelled 0 (length M) (marked M) (λ i. beq (bit p i) false)) (negated : assumed ≡ spelled 32 (length M) (marked M) (λ i. beq (bit p i) true)) where
  abbrev fault : Option WorkFault
  fault = sift_fault s.n (need s) held capacity M

  sound : fault ≡ None
  sound = passed s.n places (need s) most held capacity M all enough x y checked

  m : Marks s.n M
  m = sift_marks s.n (need s) held capacity M sound

  is_clause : d ≡ false_at s.n s.state M
  is_clause = written ∙ spelled_negated 0 (length M) (marked M) (bit p) ∙ ap (λ k. spelled 0 k (marked M) (λ i. not (bit p i))) m.0 ∙ ap (λ q. false_at s.n q M) same

  is_negated : assumed ≡ spelled 32 s.n (marked M) (bit s.state)
  is_negated = negated ∙ spelled_plain 32 (length M) (marked M) (bit p) ∙ ap (λ k. spelled 32 k (marked M) (bit p)) m.0 ∙ ap (λ q. spelled 32 s.n (marked M) (bit q)) same

  asked : (r : Answer) → (fits held d capacity ≡ true → Answered (held ++ d ∷ []) assumed r) → Answered (held ++ false_at s.n s.state M ∷ []) (spelled 32 s.n (marked M) (bit s.state)) r
  asked r ask =
      let f : fits held d capacity ≡ true = spare_fits s held capacity d (sift_spare s.n (need s) held capacity M sound) (rw is_clause (length_spelled 0 (marked M) (λ i. not (bit s.state i)) s.n)) in
      subst₂ (λ x y. Answered (held ++ x ∷ []) y r) is_clause is_negated (ask f)

  pub sifted_closed : (fits held d capacity ≡ true → Answered (held ++ d ∷ []) assumed No) → Sifted s.n (ClauseClosed s held) fault M (Ok Closed) M
  sifted_closed ask =
      subst (λ (o : Option WorkFault). Sifted s.n (ClauseClosed s held) o M (Ok Closed) M) (sym sound) (no_closed s few held M m (λ a y. asked No ask a y), refl)

  pub sifted_fewer : (low high : ℕ) → (fits held d capacity ≡ true → Answered (held ++ d ∷ []) assumed (Yes low high)) → (b : ℕ) → b ≡ low % 2 ^ 32
      → (out : List ℕ) → length out ≡ length M → ((k : ℕ) → k < length out → get_or out k 0 ≡ cond (beq (bit b k) (bit p k)) (get_or M k 0) 0)
      → Sifted s.n (ClauseClosed s held) fault M (Ok Fewer) out
  sifted_fewer low high ask b is out long at =
      subst (λ (o : Option WorkFault). Sifted s.n (ClauseClosed s held) o M (Ok Fewer) out) (sym sound)
      (yes_fewer s few held M m (model low high) (asked (Yes low high) ask) b (λ i h. ap (λ x. bit x i) is ∙ model_before low high i h) out long
      (λ k h. at k h ∙ ap (λ q. cond (beq (bit b k) (bit q k)) (get_or M k 0) 0) same))

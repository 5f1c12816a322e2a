-- What a descent comes to, carried from what a solver holds to the system. Assumes nothing.
use Rattle.std.proofs.Common.{◌≡◌, ℕ, ◌⊎◌, true, refl, List, [], length, Ok, Err, Option, Result, Some, None, sym, ap, ◌∙◌, subst, inl, inr}
use Rattle.system.specs.Literals.{bit, clause, clauses}
use Rattle.system.specs.Systems.{System, Consecution}
use Rattle.system.specs.Preserving.{loaded, met}
use Rattle.solver.specs.Answers.{need_of, spare}
use Rattle.solver.specs.declared.capacity.Capacity.{Capacity}
use Rattle.faults.specs.declared.case.CaseFault.TheVariants.{NoMemory}
use Rattle.faults.specs.declared.work.WorkFault.TheVariants.{InCase}
use Rattle.sieve.specs.Sieves.{sift_fault, Descended}
use Rattle.sieve.proofs.Descents.{largest_same}
use Rattle.faults.proofs.Firsts.{unless_ok}
use Rattle.faults.specs.declared.work.WorkFault.{WorkFault}
use Rattle.layout.specs.Reading.{accepted, case_fault, read_case, system_in}
use Rattle.layout.proofs.Law.{none_accepted}
use Rattle.clauses.specs.Candidates.{read_candidates}
use Rattle.sieve.specs.Marks.{Largest}
use Rattle.literal_sieve.specs.Literal.{AtState, ClauseClosed, ClosedIsConsecution, false_at, need}
use Rattle.candidate_sieve.specs.Candidates.{chosen, TogetherClosed}
use Rattle.candidate_sieve.specs.Read.{TogetherIsConsecution}
use Rattle.descents.specs.Outcomes.{room, descent_fault, DescentTold, literal_fault, listed_fault, candidate_fault, LiteralsTold, CandidatesTold}

-- bytes that were read as a system have no fault
read_accepted : (bytes : List ℕ) (c : System) → read_case bytes ≡ Ok c → accepted bytes ≡ true
unfolding read_case
read_accepted bytes c e = none_accepted bytes (unless_ok (case_fault bytes) (system_in bytes) c (sym e))

-- a descent that is refused is told with the fault of sifting
pub descent_refused : (c : System) (places : ℕ) (need : Capacity) (F : List ℕ → Type 0) (given out : List ℕ) (f : WorkFault) → spare (need_of (loaded c [])) [] room ≡ true
    → Descended places F (sift_fault places need (loaded c []) room given) given (Err f) out → DescentTold c places need F given (Err f) out
descent_refused c places need F given out f fits d = go (sift_fault places need (loaded c []) room given) refl d
  where
    go : (o : Option WorkFault) → sift_fault places need (loaded c []) room given ≡ o → Descended places F o given (Err f) out
        → (out ≡ given) × ((descent_fault c places need given ≡ Some f) ⊎ (f ≡ InCase NoMemory))
    go None e d = absurd d
    go (Some g) e d = let same : g ≡ f = cc d.0 in (d.1, inl (rw fits (e ∙ ap (λ g. Some g) same)))

module _ (bytes : List ℕ) (c : System) (read : read_case bytes ≡ Ok c) (given out : List ℕ) where
  pub literals_told : (state : ℕ) (s : AtState) → s ≡ record { n = c.n; state = state } → ClosedIsConsecution c state (ClauseClosed s) → (r : Result (Unit {0}) WorkFault)
      → DescentTold c s.n (need s) (ClauseClosed s (loaded c [])) given r out → LiteralsTold bytes state given r out
  literals_told state s e law (Ok x) (n, l) = (
    ap (λ x. literal_fault x given) read ∙ subst (λ (a : AtState). descent_fault c a.n (need a) given ≡ None) e n,
    (
      c,
      read,
      subst (λ k. Largest k (λ M. Consecution c (met c []) (λ s. clause (bit s) (false_at c.n state M))) given out) (ap (λ a. a.n) e)
          (largest_same s.n (ClauseClosed s (loaded c [])) (λ M. Consecution c (met c []) (λ s. clause (bit s) (false_at c.n state M))) (λ M. law [] M tt) given out l),
    ),
  )
  literals_told state s e law (Err f) (same, inl h) =
      (same, inl (ap (λ x. literal_fault x given) read ∙ subst (λ (a : AtState). descent_fault c a.n (need a) given ≡ Some f) e h))
  literals_told state s e law (Err f) (same, inr h) = (same, inr (h, read_accepted bytes c read))

  pub candidates_told : (listed : List ℕ) (cs : List (List ℕ)) → read_candidates c.n listed ≡ Ok cs → TogetherIsConsecution TogetherClosed c (Ok cs) → (r : Result (Unit {0}) WorkFault)
      → DescentTold c (length cs) (need_of cs) (TogetherClosed cs (loaded c [])) given r out → CandidatesTold bytes listed given r out
  candidates_told listed cs e law (Ok x) (n, l) = (
    ap (λ x. candidate_fault x listed given) read ∙ ap (λ x. listed_fault c x given) e ∙ n,
    (c, cs, read, e, largest_same (length cs) (TogetherClosed cs (loaded c [])) (λ M. Consecution c (met c []) (λ s. clauses (bit s) (chosen M cs))) (λ M. law [] M tt) given out l),
  )
  candidates_told listed cs e law (Err f) (same, inl h) =
      (same, inl (ap (λ x. candidate_fault x listed given) read ∙ ap (λ x. listed_fault c x given) e ∙ h))
  candidates_told listed cs e law (Err f) (same, inr h) = (same, inr (h, read_accepted bytes c read))

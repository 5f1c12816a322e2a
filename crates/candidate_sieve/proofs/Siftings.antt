-- What one sifting says, by what the questions found. Assumes nothing.
use Rattle.std.proofs.Common.{◌≡◌, ℕ, T, List, ◌++◌, length, Some, None, Ok, Option, sym, ap, ◌∙◌, subst, subst₂}
use Rattle.std.specs.List.{AllByRecursion}
use Rattle.system.specs.Literals.{clauses}
use Rattle.system.specs.Preserving.{after}
use Rattle.system.proofs.Truth.{clauses_append}
use Rattle.solver.specs.declared.capacity.Capacity.{Capacity}
use Rattle.sieve.specs.Marks.{Reduced}
use Rattle.sieve.specs.Sieves.{sift_fault, Sifted}
use Rattle.sieve.specs.declared.sifting.Sifting.{Sifting}
use Rattle.sieve.proofs.MarksChecked.{sift_marks}
use Rattle.solver.specs.Answers.{need_of}
use Rattle.candidate_sieve.specs.Candidates.{Formed, chosen, TogetherClosed}
use Rattle.candidate_sieve.specs.Questions.{Breaks, Found, unmarked, Settled}
use Rattle.candidate_sieve.proofs.Unmarking.{unmarked_reduced}

module _ (cs held : List (List ℕ)) (capacity : Capacity) (M : List ℕ) where
  module _ (sound : sift_fault (length cs) (need_of cs) held capacity M ≡ None) (ds asked : List (List ℕ)) (same : ds ≡ cs) (added : asked ≡ held ++ chosen M ds) where
    says_closed : Found asked (chosen M ds) None → TogetherClosed cs held M
    says_closed b a h t =
        subst (λ es. T (clauses (after a) (chosen M es))) same
        (b a (subst (λ es. T (clauses a es)) (sym (added ∙ ap (λ es. held ++ chosen M es) same)) (clauses_append a held (chosen M cs) h t)))

    says_fewer : (t : ℕ) → Found asked (chosen M ds) (Some t) → AllByRecursion Formed ds → Reduced (length cs) (TogetherClosed cs held) M (unmarked t M cs)
    says_fewer t b f =
        unmarked_reduced cs held M (sift_marks (length cs) (need_of cs) held capacity M sound) (subst (AllByRecursion Formed) same f) t
        (subst₂ (λ es gs. Breaks es (chosen M gs) t) (added ∙ ap (λ es. held ++ chosen M es) same) same b)

    pub sifted : (broken : Option ℕ) → Found asked (chosen M ds) broken → AllByRecursion Formed ds → (said : Sifting) (out : List ℕ) → Settled M ds broken said out
        → Sifted (length cs) (TogetherClosed cs held) (sift_fault (length cs) (need_of cs) held capacity M) M (Ok said) out
    sifted broken b f said out s = subst (λ o. Sifted (length cs) (TogetherClosed cs held) o M (Ok said) out) (sym sound) (go broken b s)
      where
        go : (broken : Option ℕ) → Found asked (chosen M ds) broken → Settled M ds broken said out → Sifted (length cs) (TogetherClosed cs held) None M (Ok said) out
        go None b s = subst (λ x. Sifted (length cs) (TogetherClosed cs held) None M (Ok x) out) (sym s.0) (says_closed b, s.1)
        go (Some t) b s =
            subst₂ (λ x es. Sifted (length cs) (TogetherClosed cs held) None M (Ok x) es) (sym s.0) (sym (s.1 ∙ ap (unmarked t M) same)) (says_fewer t b f)

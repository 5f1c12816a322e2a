-- The bytes without a fault are those that spell a list of candidates. Assumes nothing.
use Rattle.std.proofs.Common.{◌≡◌, ◌↔◌, ℕ, zero, suc, ◌≤◌, leb, List, [], ◌∷◌, ◌++◌, length, drop, None, Ok, Result, sym, refl, ap, ◌∙◌, subst, ap₂, arith, length-drop}
use Rattle.std.proofs.lemmas.List.{append-nil, drop_at}
use Rattle.std.proofs.lemmas.Bool.{le-leb, leb-true}
use Rattle.faults.specs.Firsts.{or_else, inside, unless}
use Rattle.faults.specs.declared.work.WorkFault.{WorkFault}
use Rattle.faults.specs.declared.work.WorkFault.TheVariants.{InCandidates}
use Rattle.faults.proofs.Firsts.{or_none, inside_none, unmet_none, none_unmet, unless_value}
use Rattle.lists.specs.Spelling.{after_clauses, clauses_in, spell_clauses}
use Rattle.clauses.specs.Reading.{clauses_fault}
use Rattle.clauses.specs.Candidates.{count_within, count_in, too_many, candidates_fault, read_candidates, CandidateList}
use Rattle.clauses.specs.declared.scope.Scope.TheVariants.{Before}
use Rattle.lists.proofs.Spelled.{clauses_length, clauses_spelled}
use Rattle.clauses.proofs.Wellformed.{clauses_formed, formed_clauses, before_all, all_before}
use Rattle.clauses.proofs.Gathered.{count_some, gathering_fault, gathering_many, gathering_all}

-- nothing follows the clauses that begin before the end
after_within : (turns : ℕ) (bs : List ℕ) → length bs ≤ turns → after_clauses (count_within turns bs) bs ≡ []
unfolding count_within after_clauses
after_within zero [] h = refl
after_within zero (x ∷ xs) h = absurd (omega arith)
after_within (suc turns) [] h = refl
after_within (suc turns) (x ∷ xs) h = let e = length-drop x xs in after_within turns (drop x xs) (omega arith)

after_all : (bs : List ℕ) → after_clauses (count_in bs) bs ≡ []
unfolding count_in
after_all bs = after_within (length bs) bs (omega arith)

-- spelled clauses are counted
count_spelled : (cs : List (List ℕ)) → count_in (spell_clauses cs) ≡ length cs
unfolding count_in count_within
count_spelled [] = refl
count_spelled (c ∷ cs) =
    count_some (length c ∷ (c ++ spell_clauses cs)) (λ e. let z : ⊥ = omega arith in z)
    ∙ ap suc (ap count_in (drop_at c (spell_clauses cs) (length c) refl) ∙ count_spelled cs)

module _ (n : ℕ) where
  read_list : (bs : List ℕ) → candidates_fault n bs ≡ None → CandidateList n (clauses_in (count_in bs) bs) × (bs ≡ spell_clauses (clauses_in (count_in bs) bs))
  read_list bs e =
      let p = or_none (inside InCandidates (clauses_fault (Before n) (count_in bs) 0 bs)) (too_many bs) e in
      let f = clauses_formed (Before n) (count_in bs) 0 bs (inside_none InCandidates _ p.0) in
      let few = leb-true (count_in bs) 512 (unmet_none (leb (count_in bs) 512) _ p.1) in (
        record { few = subst (λ k. k ≤ 512) (sym (clauses_length (count_in bs) bs)) few; formed = before_all n _ f.formed },
        f.whole ∙ ap (λ r. spell_clauses (clauses_in (count_in bs) bs) ++ r) (after_all bs) ∙ append-nil (spell_clauses (clauses_in (count_in bs) bs)),
      )

  list_read : (cs : List (List ℕ)) → CandidateList n cs → read_candidates n (spell_clauses cs) ≡ Ok cs
  list_read cs l =
      let bs = spell_clauses cs in
      let k = count_spelled cs in
      let a = append-nil bs in
      let whole : clauses_fault (Before n) (count_in bs) 0 bs ≡ None = ap₂ (λ j xs. clauses_fault (Before n) j 0 xs) k (sym a) ∙ formed_clauses (Before n) cs 0 [] (all_before n cs l.formed) in
      let few : too_many bs ≡ None = none_unmet (leb (count_in bs) 512) _ (le-leb (count_in bs) 512 (subst (λ j. j ≤ 512) (sym k) l.few)) in
      let none : candidates_fault n bs ≡ None = ap₂ (λ o p. or_else (inside InCandidates o) p) whole few in
      ap (λ o. unless o (clauses_in (count_in bs) bs)) none ∙ ap Ok (ap₂ (λ j xs. clauses_in j xs) k (sym a) ∙ clauses_spelled cs [])

  pub candidates_as_spelled : (bs : List ℕ) (r : Result (List (List ℕ)) WorkFault) → r ≡ read_candidates n bs → (cs : List (List ℕ)) → (r ≡ Ok cs) ↔ (CandidateList n cs × (bs ≡ spell_clauses cs))
  candidates_as_spelled bs r e cs = (
    λ p.
        let q = unless_value (candidates_fault n bs) (clauses_in (count_in bs) bs) cs (sym e ∙ p) in
        let l = read_list bs q.0 in
        (subst (CandidateList n) q.1 l.0, subst (λ ds. bs ≡ spell_clauses ds) q.1 l.1),
    λ h. e ∙ ap (read_candidates n) h.1 ∙ list_read cs h.0,
  )

-- what the returns of the reader need
pub ruleset gathering = (gathering_fault, gathering_many, gathering_all, candidates_as_spelled)

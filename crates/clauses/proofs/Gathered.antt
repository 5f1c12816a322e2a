-- Candidates read one after another up to the end. Assumes nothing.
use Rattle.std.proofs.Common.{◌≡◌, ◌≢◌, ℕ, zero, suc, ◌+◌, ◌-◌, ◌<◌, ◌≤◌, leb, ◌⊎◌, Option, List, [], ◌∷◌, length, drop, Some, None, Ok, Err, sym, refl, ap, ◌∙◌, subst, inl, inr, arith, length-drop}
use Rattle.std.proofs.lemmas.List.{length-append}
use Rattle.std.proofs.lemmas.Bool.{le-leb, lt-leb}
use Rattle.lists.specs.Spelling.{after_clause, after_clauses, clauses_in}
use Rattle.faults.specs.Firsts.{unmet, or_else, inside, unless}
use Rattle.clauses.specs.Reading.{clause_fault}
use Rattle.clauses.specs.Candidates.{count_within, count_in, too_many, read_candidates}
use Rattle.clauses.specs.Read.{ClauseOff}
use Rattle.faults.specs.declared.work.WorkFault.TheVariants.{InCandidates, TooManyCandidates}
use Rattle.faults.specs.declared.clause.ClauseFault.{ClauseFault}
use Rattle.clauses.specs.declared.scope.Scope.TheVariants.{Before}
use Rattle.clauses.proofs.Found.{Midway, midway_start, midway_fault, midway_on, midway_end}

-- more turns than bytes change nothing
enough : (k j : ℕ) (bs : List ℕ) → length bs ≤ k → length bs ≤ j → count_within k bs ≡ count_within j bs
unfolding count_within
enough zero zero bs h l = refl
enough zero (suc j) [] h l = refl
enough zero (suc j) (x ∷ xs) h l = absurd (omega arith)
enough (suc k) zero [] h l = refl
enough (suc k) zero (x ∷ xs) h l = absurd (omega arith)
enough (suc k) (suc j) [] h l = refl
enough (suc k) (suc j) (x ∷ xs) h l = let e = length-drop x xs in ap suc (enough k j (drop x xs) (omega arith) (omega arith))

pub count_some : (bs : List ℕ) → length bs ≢ 0 → count_in bs ≡ suc (count_in (after_clause bs))
unfolding count_in count_within
count_some [] h = absurd (h refl)
count_some (x ∷ xs) h = let e = length-drop x xs in ap suc (enough (length xs) (length (drop x xs)) (drop x xs) (omega arith) (omega arith))

pub count_none : (bs : List ℕ) → length bs ≡ 0 → count_in bs ≡ 0
unfolding count_in count_within
count_none [] h = refl
count_none (x ∷ xs) h = absurd (omega arith)

-- after k candidates, where the 513th began, once it was met
abbrev Met : List ℕ → ℕ → Option ℕ → Type 0
Met bs k None = k ≤ 512
Met bs k (Some at) = (512 < k) × (at ≡ length bs - length (after_clauses 512 bs))

met_still : (bs : List ℕ) (k : ℕ) (extra : Option ℕ) → k ≢ 512 → Met bs k extra → Met bs (k + 1) extra
met_still bs k None h m = omega arith
met_still bs k (Some at) h m = (omega arith, m.1)

-- k candidates have been read, and the rest begins at index pos
pub record Gathering (n : ℕ) (bs : List ℕ) (k : ℕ) (extra : Option ℕ) (pos : ℕ) (rest : List ℕ) : Type 0 where
  pub midway : Midway (Before n) (count_in bs) 0 bs k pos rest
  pub left : k + count_in rest ≡ count_in bs
  pub few : k + length rest ≤ length bs
  pub met : Met bs k extra

module _ (n : ℕ) (bs : List ℕ) where
  pub gathering_start : Gathering n bs 0 None 0 bs
  gathering_start = record { midway = midway_start (Before n) (count_in bs) 0 bs; left = omega arith; few = omega arith; met = omega arith }

  module _ (k : ℕ) (extra : Option ℕ) (pos : ℕ) (rest : List ℕ) (g : Gathering n bs k extra pos rest) where
    below : length rest ≢ 0 → k < count_in bs
    below h = let e = g.left in let f = count_some rest h in omega arith

    pub gathering_fault : length rest ≢ 0 → (f : ClauseFault) → clause_fault (Before n) pos rest ≡ Some f → read_candidates n bs ≡ Err (InCandidates f)
    gathering_fault h f e =
        ap (λ o. unless (or_else (inside InCandidates o) (too_many bs)) (clauses_in (count_in bs) bs)) (midway_fault (Before n) (count_in bs) 0 bs k pos rest g.midway (below h) f e)

    met_here : k ≡ 512 → Met bs (k + 1) (Some pos)
    met_here e = let b = ap length (g.midway.back ∙ ap (λ j. after_clauses j bs) e) in let s = g.midway.end in (omega arith, omega arith)

    pub gathering_on : length rest ≢ 0 → (d after : List ℕ) (now : ℕ) → ClauseOff (Before n) pos rest d after → now + length after ≡ pos + length rest
        → (next : Option ℕ) → ((k ≡ 512) × (next ≡ Some pos)) ⊎ ((k ≢ 512) × (next ≡ extra)) → Gathering n bs (k + 1) next now after
    gathering_on h d after now p s next met =
        let f = count_some rest h in
        let e = g.left in
        let c = ap count_in p.back in
        record {
          midway = midway_on (Before n) (count_in bs) 0 bs k pos rest g.midway (below h) d after now p s;
          left = omega arith;
          few = let w = ap length p.whole ∙ ap suc (length-append d after) in let q = g.few in omega arith;
          met = elim met [ inl q ↦ subst (Met bs (k + 1)) (sym q.1) (met_here q.0) | inr q ↦ subst (Met bs (k + 1)) (sym q.1) (met_still bs k extra q.0 g.met) ];
        }

    pub gathering_end : length rest ≡ 0 → read_candidates n bs ≡ unless (unmet (leb k 512) (TooManyCandidates (length bs - length (after_clauses 512 bs)))) (clauses_in k bs)
    gathering_end h =
        let e : k ≡ count_in bs = let l = g.left in let f = count_none rest h in omega arith in
        ap (λ o. unless (or_else (inside InCandidates o) (too_many bs)) (clauses_in (count_in bs) bs)) (midway_end (Before n) (count_in bs) 0 bs k pos rest g.midway (omega arith))
        ∙ ap (λ j. unless (unmet (leb j 512) (TooManyCandidates (length bs - length (after_clauses 512 bs)))) (clauses_in j bs)) (sym e)

    pub gathering_many : length rest ≡ 0 → (at : ℕ) → extra ≡ Some at → read_candidates n bs ≡ Err (TooManyCandidates at)
    gathering_many h at e =
        let m = subst (Met bs k) e g.met in
        gathering_end h
        ∙ ap (λ b. unless (unmet b (TooManyCandidates (length bs - length (after_clauses 512 bs)))) (clauses_in k bs)) (lt-leb k 512 m.0)
        ∙ ap (λ j. Err (TooManyCandidates j)) (sym m.1)

    pub gathering_all : length rest ≡ 0 → extra ≡ None → read_candidates n bs ≡ Ok (clauses_in k bs)
    gathering_all h e =
        gathering_end h
        ∙ ap (λ b. unless (unmet b (TooManyCandidates (length bs - length (after_clauses 512 bs)))) (clauses_in k bs)) (le-leb k 512 (subst (Met bs k) e g.met))

-- Clauses taken off one after another. Assumes nothing.
use Rattle.std.proofs.Common.{◌≡◌, ℕ, suc, ◌+◌, ◌-◌, ◌<◌, ◌≤◌, List, [], ◌∷◌, ◌++◌, length, take, drop, Some, None, sym, refl, ap, ◌∙◌, subst, ap₂, add-one, arith}
use Rattle.std.proofs.lemmas.List.{append-nil, append_assoc, length-append, take_at, drop_at}
use Rattle.lists.specs.Spelling.{clause_at, after_clause, clauses_in, after_clauses, spell_clauses}
use Rattle.faults.specs.Firsts.{or_else}
use Rattle.clauses.specs.Reading.{clause_fault, clauses_fault}
use Rattle.clauses.specs.Read.{ClauseOff, ClausesOff}
use Rattle.lists.specs.Lists.{clauses_of}
use Rattle.lists.specs.declared.list.ClauseList.{ClauseList}
use Rattle.lists.proofs.Spelled.{after_more, clauses_more, clauses_length, spell_append, clauses_spelled}
use Rattle.faults.specs.declared.clause.ClauseFault.{ClauseFault}
use Rattle.clauses.specs.declared.scope.Scope.{Scope}

-- a list of clauses being read: k of count clauses lie before the rest, which begins at index pos and decides the fault of all
pub record Midway (scope : Scope) (count at : ℕ) (bs : List ℕ) (k pos : ℕ) (rest : List ℕ) : Type 0 where
  pub back : rest ≡ after_clauses k bs
  pub whole : bs ≡ spell_clauses (clauses_in k bs) ++ rest
  pub end : pos + length rest ≡ at + length bs
  pub fault : clauses_fault scope (count - k) pos rest ≡ clauses_fault scope count at bs

module _ (scope : Scope) (count at : ℕ) (bs : List ℕ) where
  pub midway_start : Midway scope count at bs 0 at bs
  unfolding clauses_in after_clauses
  midway_start = record { back = refl; whole = refl; end = refl; fault = ap (λ k. clauses_fault scope k at bs) (let e : count - 0 ≡ count = omega arith in e) }

  module _ (k pos : ℕ) (rest : List ℕ) (m : Midway scope count at bs k pos rest) where
    next_fault : k < count → clauses_fault scope count at bs ≡ or_else (clause_fault scope pos rest) (clauses_fault scope (count - (k + 1)) (pos + 1 + length (clause_at rest)) (after_clause rest))
    unfolding clauses_fault
    next_fault h =
        sym m.fault
        ∙ ap (λ j. clauses_fault scope j pos rest) (let e : count - k ≡ suc (count - (k + 1)) = omega arith in e)

    pub midway_fault : k < count → (f : ClauseFault) → clause_fault scope pos rest ≡ Some f → clauses_fault scope count at bs ≡ Some f
    midway_fault h f e = next_fault h ∙ ap (λ o. or_else o (clauses_fault scope (count - (k + 1)) (pos + 1 + length (clause_at rest)) (after_clause rest))) e

    pub midway_on : k < count → (d after : List ℕ) (now : ℕ) → ClauseOff scope pos rest d after → now + length after ≡ pos + length rest → Midway scope count at bs (k + 1) now after
    midway_on h d after now p s =
        let l = ap length p.whole ∙ ap suc (length-append d after) in
        let more : k + 1 ≡ suc k = add-one k in
        let here : now ≡ pos + 1 + length (clause_at rest) = omega (arith, ap length p.front) in
        record {
          back = p.back ∙ ap after_clause m.back ∙ sym (after_more k bs) ∙ ap (λ j. after_clauses j bs) (sym more);
          whole =
              m.whole
              ∙ ap (λ x. spell_clauses (clauses_in k bs) ++ x) p.whole
              ∙ sym (
              ap (λ j. spell_clauses (clauses_in j bs) ++ after) more
              ∙ ap (λ x. spell_clauses x ++ after) (clauses_more k bs)
              ∙ ap (λ x. x ++ after) (spell_append (clauses_in k bs) (clause_at (after_clauses k bs) ∷ []))
              ∙ append_assoc (spell_clauses (clauses_in k bs)) (spell_clauses (clause_at (after_clauses k bs) ∷ [])) after
              ∙ ap (λ x. spell_clauses (clauses_in k bs) ++ (spell_clauses (x ∷ []) ++ after)) (sym (p.front ∙ ap clause_at m.back))
              ∙ ap (λ x. spell_clauses (clauses_in k bs) ++ (length d ∷ (x ++ after))) (append-nil d));
          end = s ∙ m.end;
          fault =
              ap₂ (λ q bs'. clauses_fault scope (count - (k + 1)) q bs') here p.back
              ∙ sym (next_fault h ∙ ap (λ o. or_else o (clauses_fault scope (count - (k + 1)) (pos + 1 + length (clause_at rest)) (after_clause rest))) p.sound);
        }

    pub midway_end : count ≤ k → clauses_fault scope count at bs ≡ None
    unfolding clauses_fault
    midway_end h = sym m.fault ∙ ap (λ j. clauses_fault scope j pos rest) (let e : count - k ≡ 0 = omega arith in e)

    -- at the end the bytes are cut where the rest begins
    pub midway_off : k ≡ count → (list : ClauseList) (after : List ℕ) → clauses_of list ≡ clauses_in count (take (pos - at) bs) → after ≡ drop (pos - at) bs → ClausesOff scope count at bs list after
    midway_off e list after l a =
        let cs = clauses_in count bs in
        let w : bs ≡ spell_clauses cs ++ rest = subst (λ j. bs ≡ spell_clauses (clauses_in j bs) ++ rest) e m.whole in
        let n : length (spell_clauses cs) ≡ pos - at = let t = m.end in omega (arith, ap length w ∙ length-append (spell_clauses cs) rest) in
        let left : after ≡ rest = a ∙ ap (drop (pos - at)) w ∙ drop_at (spell_clauses cs) rest _ n in
        let listed : clauses_of list ≡ cs =
        l
        ∙ ap (clauses_in count) (ap (take (pos - at)) w ∙ take_at (spell_clauses cs) rest _ n ∙ sym (append-nil (spell_clauses cs)))
        ∙ subst (λ j. clauses_in j (spell_clauses cs ++ []) ≡ cs) (clauses_length count bs) (clauses_spelled cs []) in
        record {
          sound = midway_end (omega arith);
          clauses = listed;
          back = left ∙ m.back ∙ ap (λ j. after_clauses j bs) e;
          whole = w ∙ ap₂ (λ ds r. spell_clauses ds ++ r) (sym listed) (sym left);
        }

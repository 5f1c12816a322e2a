-- Clauses without a fault are those within their scope whose variables rise. Assumes nothing.
use Rattle.std.proofs.Common.{◌≡◌, ℕ, zero, suc, ◌+◌, ◌/◌, ◌<◌, ◌≤◌, true, T, leb, List, [], ◌∷◌, ◌++◌, length, take, drop, None, sym, refl, ap, ◌∙◌, ap₂, arith}
use Rattle.std.specs.List.{AllByRecursion}
use Rattle.std.proofs.lemmas.Bool.{lt-ltb, le-leb, leb-true, ltb-true}
use Rattle.std.proofs.ByRecursion.{All-weaker}
use Rattle.std.proofs.lemmas.List.{length-take-le, take-append-drop, append_assoc, take_at, drop_at, length-append}
use Rattle.system.specs.Literals.{variable_of}
use Rattle.system.specs.Systems.{OverRelays, OverVariables, Rising}
use Rattle.system.proofs.Truth.{T_of, T_true}
use Rattle.lists.specs.Spelling.{clauses_in, after_clauses, spell_clauses}
use Rattle.faults.specs.Firsts.{unmet, or_else}
use Rattle.std.proofs.lemmas.Option.{none-some}
use Rattle.faults.proofs.Firsts.{or_none, unmet_none, none_unmet}
use Rattle.clauses.specs.Reading.{in_scope, literal_fault, literals_fault, clause_fault, clauses_fault}
use Rattle.faults.specs.declared.clause.ClauseFault.TheVariants.{PastEnd, Variable, Order}
use Rattle.clauses.specs.declared.scope.Scope.{Scope}
use Rattle.clauses.specs.declared.scope.Scope.TheVariants.{Before, Across}

-- a clause of a list: its variables lie in the scope, and rise
pub record Formed (scope : Scope) (d : List ℕ) : Type 0 where
  pub over : AllByRecursion (λ l. in_scope scope (l / 2) ≡ true) d
  pub rising : Rising d

module _ (scope : Scope) where
  record Above (low : ℕ) (d : List ℕ) : Type 0 where
    above : AllByRecursion (λ l. low ≤ l / 2) d
    formed : Formed scope d

  literals_formed : (at low : ℕ) (ls : List ℕ) → literals_fault scope at low ls ≡ None → Above low ls
  literals_formed at low [] e = record { above = tt; formed = record { over = tt; rising = tt } }
  literals_formed at low (l ∷ ls) e =
      let p = or_none (literal_fault scope at low l) (literals_fault scope (at + 1) (variable_of l + 1) ls) e in
      let q = or_none (unmet (in_scope scope (variable_of l)) (Variable at)) (unmet (leb low (variable_of l)) (Order at)) p.0 in
      let r = literals_formed (at + 1) (variable_of l + 1) ls p.1 in
      record {
        above = (leb-true low (variable_of l) (unmet_none (leb low (variable_of l)) _ q.1), All-weaker (λ k. l / 2 + 1 ≤ k / 2) (λ k. low ≤ k / 2) (λ k h. let b = leb-true low (variable_of l) (unmet_none (leb low (variable_of l)) _ q.1) in omega arith) ls r.above);
        formed = record { over = (unmet_none (in_scope scope (variable_of l)) _ q.0, r.formed.over); rising = (All-weaker (λ k. l / 2 + 1 ≤ k / 2) (λ k. l / 2 < k / 2) (λ k h. omega arith) ls r.above, r.formed.rising) };
      }

  formed_literals : (at low : ℕ) (ls : List ℕ) → AllByRecursion (λ l. low ≤ l / 2) ls → Formed scope ls → literals_fault scope at low ls ≡ None
  formed_literals at low [] a f = refl
  formed_literals at low (l ∷ ls) a f =
      ap₂ or_else (ap₂ or_else (none_unmet (in_scope scope (variable_of l)) (Variable at) f.over.0) (none_unmet (leb low (variable_of l)) (Order at) (le-leb low (variable_of l) a.0)))
      (formed_literals (at + 1) (variable_of l + 1) ls (All-weaker (λ k. l / 2 < k / 2) (λ k. l / 2 + 1 ≤ k / 2) (λ k h. omega arith) ls f.rising.0) (record { over = f.over.1; rising = f.rising.1 }))

  -- clauses that were read
  pub record ClausesFormed (k : ℕ) (bs : List ℕ) : Type 0 where
    pub formed : AllByRecursion (Formed scope) (clauses_in k bs)
    pub whole : bs ≡ spell_clauses (clauses_in k bs) ++ after_clauses k bs

  pub clauses_formed : (k at : ℕ) (bs : List ℕ) → clauses_fault scope k at bs ≡ None → ClausesFormed k bs
  unfolding clauses_fault clauses_in after_clauses
  clauses_formed zero at bs e = record { formed = tt; whole = refl }
  clauses_formed (suc k) at [] e = absurd (none-some _ (sym e))
  clauses_formed (suc k) at (x ∷ xs) e =
      let p = or_none (clause_fault scope at (x ∷ xs)) _ e in
      let q = or_none (unmet (leb x (length xs)) (PastEnd at)) (literals_fault scope (at + 1) 0 (take x xs)) p.0 in
      let f = literals_formed (at + 1) 0 (take x xs) q.1 in
      let r = clauses_formed k (at + 1 + length (take x xs)) (drop x xs) p.1 in
      record {
        formed = (f.formed, r.formed);
        whole =
            ap₂ (λ y ys. y ∷ ys) (let l = leb-true x (length xs) (unmet_none (leb x (length xs)) _ q.0) in sym (length-take-le x xs l))
            (sym (take-append-drop x xs) ∙ ap (λ ys. take x xs ++ ys) r.whole ∙ sym (append_assoc (take x xs) (spell_clauses (clauses_in k (drop x xs))) (after_clauses k (drop x xs))));
      }

  all_low : (ls : List ℕ) → AllByRecursion (λ l. 0 ≤ l / 2) ls
  all_low [] = tt
  all_low (l ∷ ls) = (omega arith, all_low ls)

  pub formed_clauses : (cs : List (List ℕ)) (at : ℕ) (rest : List ℕ) → AllByRecursion (Formed scope) cs → clauses_fault scope (length cs) at (spell_clauses cs ++ rest) ≡ None
  unfolding clauses_fault
  formed_clauses [] at rest h = refl
  formed_clauses (c ∷ cs) at rest h =
      let s : c ++ spell_clauses cs ++ rest ≡ c ++ (spell_clauses cs ++ rest) = append_assoc c (spell_clauses cs) rest in
      let front : take (length c) (c ++ spell_clauses cs ++ rest) ≡ c = ap (take (length c)) s ∙ take_at c _ (length c) refl in
      let back : drop (length c) (c ++ spell_clauses cs ++ rest) ≡ spell_clauses cs ++ rest = ap (drop (length c)) s ∙ drop_at c _ (length c) refl in
      let n : length c ≤ length (c ++ spell_clauses cs ++ rest) = let e = ap length s ∙ length-append c (spell_clauses cs ++ rest) in omega arith in
      ap₂ or_else
      (ap₂ or_else (none_unmet _ (PastEnd at) (le-leb (length c) _ n)) (ap (literals_fault scope (at + 1) 0) front ∙ formed_literals (at + 1) 0 c (all_low c) h.0))
      (ap (λ bs. clauses_fault scope (length cs) (at + 1 + length (take (length c) (c ++ spell_clauses cs ++ rest))) bs) back ∙ formed_clauses cs (at + 1 + length (take (length c) (c ++ spell_clauses cs ++ rest))) rest h.1)

-- the scopes of the two kinds of list
before_over : (n : ℕ) (d : List ℕ) → Formed (Before n) d → OverRelays n d × Rising d
before_over n d f = (All-weaker (λ l. in_scope (Before n) (l / 2) ≡ true) (λ l. l / 2 < n) (λ l e. ltb-true (l / 2) n e) d f.over, f.rising)

over_before : (n : ℕ) (d : List ℕ) → OverRelays n d × Rising d → Formed (Before n) d
over_before n d h = record { over = All-weaker (λ l. l / 2 < n) (λ l. in_scope (Before n) (l / 2) ≡ true) (λ l e. lt-ltb (l / 2) n e) d h.0; rising = h.1 }

across_over : (n m : ℕ) (d : List ℕ) → Formed (Across n m) d → OverVariables n m d × Rising d
across_over n m d f = (All-weaker (λ l. in_scope (Across n m) (l / 2) ≡ true) (λ l. T (in_scope (Across n m) (l / 2))) (λ l e. T_of e) d f.over, f.rising)

over_across : (n m : ℕ) (d : List ℕ) → OverVariables n m d × Rising d → Formed (Across n m) d
over_across n m d h = record { over = All-weaker (λ l. T (in_scope (Across n m) (l / 2))) (λ l. in_scope (Across n m) (l / 2) ≡ true) (λ l e. T_true _ e) d h.0; rising = h.1 }

pub before_all : (n : ℕ) (ds : List (List ℕ)) → AllByRecursion (Formed (Before n)) ds → AllByRecursion (λ d. OverRelays n d × Rising d) ds
before_all n ds h = All-weaker (Formed (Before n)) (λ d. OverRelays n d × Rising d) (before_over n) ds h

pub all_before : (n : ℕ) (ds : List (List ℕ)) → AllByRecursion (λ d. OverRelays n d × Rising d) ds → AllByRecursion (Formed (Before n)) ds
all_before n ds h = All-weaker (λ d. OverRelays n d × Rising d) (Formed (Before n)) (over_before n) ds h

pub across_all : (n m : ℕ) (ds : List (List ℕ)) → AllByRecursion (Formed (Across n m)) ds → AllByRecursion (λ d. OverVariables n m d × Rising d) ds
across_all n m ds h = All-weaker (Formed (Across n m)) (λ d. OverVariables n m d × Rising d) (across_over n m) ds h

pub all_across : (n m : ℕ) (ds : List (List ℕ)) → AllByRecursion (λ d. OverVariables n m d × Rising d) ds → AllByRecursion (Formed (Across n m)) ds
all_across n m ds h = All-weaker (λ d. OverVariables n m d × Rising d) (Formed (Across n m)) (over_across n m) ds h

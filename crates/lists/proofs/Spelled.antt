-- Clauses in bytes: taking one off the front, and lists of them one after another. Assumes nothing.
use Rattle.std.proofs.Common.{◌≡◌, ℕ, zero, suc, ◌+◌, ◌-◌, ◌<◌, ◌≤◌, List, [], ◌∷◌, ◌++◌, length, get_or, take, drop, sym, refl, ap, ◌∙◌, ap₂, arith, length-drop, length-take}
use Rattle.std.proofs.lemmas.List.Recursion.{is_sum_by}
use Rattle.std.specs.List.{sum_by}
use Rattle.std.proofs.lemmas.List.{take_min, drop_min, take_rest, append_assoc, take_at, drop_at, drop-drop}
use Rattle.system.specs.Literals.{size}
use Rattle.lists.specs.Spelling.{clause_at, after_clause, clauses_in, after_clauses, spell_clauses}

-- a clause as code takes it off the front, cut at the end
pub clause_front : (bs : List ℕ) → 0 < length bs → take (get_or bs 0 0) (take (length bs - 1) (drop 1 bs)) ≡ clause_at bs
clause_front [] h = refl
clause_front (x ∷ xs) h = ap (take x) (take_rest (x ∷ xs) 1)

pub clause_back : (bs : List ℕ) → 0 < length bs → drop (get_or bs 0 0) (take (length bs - 1) (drop 1 bs)) ≡ after_clause bs
clause_back [] h = absurd (omega arith)
clause_back (x ∷ xs) h = ap (drop x) (take_rest (x ∷ xs) 1)

pub nothing_at : (bs : List ℕ) → length bs ≡ 0 → bs ≡ clause_at bs
nothing_at [] h = refl
nothing_at (x ∷ xs) h = absurd (omega arith)

pub nothing_after : (bs : List ℕ) → length bs ≡ 0 → bs ≡ after_clause bs
nothing_after [] h = refl
nothing_after (x ∷ xs) h = absurd (omega arith)

-- what taking one off the front needs
pub ruleset first_off = (nothing_at, nothing_after, clause_front, clause_back, take_min, drop_min)

-- no clause, and one clause off the front
pub clauses_none : (k : ℕ) (bs : List ℕ) → k ≡ 0 → clauses_in k bs ≡ []
unfolding clauses_in
clauses_none zero bs e = refl
clauses_none (suc k) bs e = absurd (omega arith)

pub clauses_first : (k : ℕ) (bs : List ℕ) → (k ≡ 0 → ⊥) → clauses_in k bs ≡ clause_at bs ∷ clauses_in (k - 1) (after_clause bs)
unfolding clauses_in
clauses_first zero bs e = absurd (omega arith)
clauses_first (suc k) bs e = ap (λ j. clause_at bs ∷ clauses_in j (after_clause bs)) (let p : k ≡ suc k - 1 = omega arith in p)

-- how many they are, and how many literals they have at most
pub clauses_length : (k : ℕ) (bs : List ℕ) → length (clauses_in k bs) ≡ k
unfolding clauses_in
clauses_length zero bs = refl
clauses_length (suc k) bs = ap suc (clauses_length k (after_clause bs))

pub clauses_size : (k : ℕ) (bs : List ℕ) → size (clauses_in k bs) ≤ length bs
unfolding clauses_in
clauses_size zero bs = omega arith
clauses_size (suc k) [] = let h = clauses_size k [] in omega arith
clauses_size (suc k) (x ∷ xs) = let h = clauses_size k (drop x xs) in omega (arith, length-take x xs, length-drop x xs)

-- what counting the clauses needs
pub ruleset counted = (clauses_length, clauses_none, clauses_first)

-- the literals of clauses are the sum of their lengths
pub size_sum : (cs : List (List ℕ)) → size cs ≡ sum_by length cs
size_sum cs = is_sum_by size length refl (λ _ _. refl) cs

-- one more clause at the end
pub after_more : (k : ℕ) (bs : List ℕ) → after_clauses (suc k) bs ≡ after_clause (after_clauses k bs)
unfolding after_clauses
after_more zero bs = refl
after_more (suc k) bs = after_more k (after_clause bs)

pub clauses_more : (k : ℕ) (bs : List ℕ) → clauses_in (suc k) bs ≡ clauses_in k bs ++ clause_at (after_clauses k bs) ∷ []
unfolding clauses_in after_clauses
clauses_more zero bs = refl
clauses_more (suc k) bs = ap (λ cs. clause_at bs ∷ cs) (clauses_more k (after_clause bs))

-- the bytes of one list after another
pub spell_append : (cs ds : List (List ℕ)) → spell_clauses (cs ++ ds) ≡ spell_clauses cs ++ spell_clauses ds
spell_append [] ds = refl
spell_append (c ∷ cs) ds = ap (λ bs. length c ∷ bs) (ap (λ bs. c ++ bs) (spell_append cs ds) ∙ sym (append_assoc c (spell_clauses cs) (spell_clauses ds)))

-- what is spelled is read again
pub clauses_spelled : (cs : List (List ℕ)) (rest : List ℕ) → clauses_in (length cs) (spell_clauses cs ++ rest) ≡ cs
unfolding clauses_in
clauses_spelled [] rest = refl
clauses_spelled (c ∷ cs) rest =
    ap₂ (λ d bs. d ∷ clauses_in (length cs) bs)
    (ap (take (length c)) (append_assoc c (spell_clauses cs) rest) ∙ take_at c _ (length c) refl)
    (ap (drop (length c)) (append_assoc c (spell_clauses cs) rest) ∙ drop_at c _ (length c) refl)
    ∙ ap (λ ds. c ∷ ds) (clauses_spelled cs rest)

pub after_spelled : (cs : List (List ℕ)) (rest : List ℕ) → after_clauses (length cs) (spell_clauses cs ++ rest) ≡ rest
unfolding after_clauses
after_spelled [] rest = refl
after_spelled (c ∷ cs) rest =
    ap (after_clauses (length cs)) (ap (drop (length c)) (append_assoc c (spell_clauses cs) rest) ∙ drop_at c _ (length c) refl)
    ∙ after_spelled cs rest

-- what follows clauses is the bytes from some index on
pub after_drop : (k : ℕ) (bs : List ℕ) → (j : ℕ) × (after_clauses k bs ≡ drop j bs)
unfolding after_clauses
after_drop zero bs = (0, refl)
after_drop (suc k) [] = after_drop k []
after_drop (suc k) (x ∷ xs) = let r = after_drop k (drop x xs) in (suc (x + r.0), r.1 ∙ drop-drop r.0 x xs)

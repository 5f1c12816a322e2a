-- Sets of literals and the clauses that they stand for, under a valuation. Assumes nothing.
use Rattle.std.proofs.Common.{◌≡◌, ℕ, ◌/◌, ◌%◌, ◌^◌, ◌<◌, Bool, true, false, not, ◌&&◌, T, eqb, ◌⊎◌, List, [], ◌∷◌, ◌++◌, map, length, get_or, fold, sym, refl, ap, ◌∙◌, ap₂, subst, subst₂, inl, inr, arith}
use mathlib.Core.Bool.{beq, or-false}
use Rattle.std.proofs.lemmas.Bool.{true≢false, cases_Bool, and_parts, and_from, or_cases, or_left, or_right, eq-eqb, eqb-true}
use Rattle.std.specs.List.{list_all, AllPass, Contains}
use Rattle.std.proofs.lemmas.List.{length-map, get_or-map, get_or_default}
use Rattle.std.proofs.lemmas.List.Elements.{All-append, All-map, All-contains, Contains-get_or, Contains-append_left, Contains-append_right}
use Rattle.std.proofs.lemmas.List.Sums.{AllPass-from_list_all, list_all-from_AllPass}
use Rattle.system.specs.Literals.{Valuation, bit, literal, clause, clauses}
use Rattle.system.proofs.Truth.{T_of, T_true}
use Rattle.solver.specs.Answers.{Answered, literals, model}
use Rattle.solver.specs.declared.answer.Answer.TheVariants.{Yes, No}
use Rattle.solver.proofs.Models.{model_halves}
use Rattle.masks.specs.Masks.{inside, none, with_literal, mask_of, Meets, Apart, Fails, Implied}
use Rattle.masks.specs.Questions.{unit, Each, Given, Hopeless, AllMet, AllKept}
use Rattle.masks.specs.declared.mask.ClauseMask.{ClauseMask}
use Rattle.masks.proofs.Sets.{clash, inside_none, with_inside, beq_same, beq_true, same_or_not, not_opposite}

-- a literal of the set with l is one of the set, or l
with_cases : (m : ClauseMask) (l j : ℕ) (c : Bool) → inside (with_literal m l) j c ≡ true → (inside m j c ≡ true) ⊎ ((j ≡ l / 2) × (c ≡ eqb (l % 2) 0))
with_cases m l j c t =
    elim (or_cases (inside m j c) (eqb (l / 2) j && beq (eqb (l % 2) 0) c) (sym (with_inside m (l / 2) (eqb (l % 2) 0) j c) ∙ t)) [
      | inl p ↦ inl p
      | inr q ↦ (let r = and_parts (eqb (l / 2) j) (beq (eqb (l % 2) 0) c) q in inr (sym (eqb-true (l / 2) j r.0), sym (beq_true (eqb (l % 2) 0) c r.1)))
    ]

with_own : (m : ClauseMask) (l : ℕ) → inside (with_literal m l) (l / 2) (eqb (l % 2) 0) ≡ true
with_own m l =
    with_inside m (l / 2) (eqb (l % 2) 0) (l / 2) (eqb (l % 2) 0)
    ∙ or_right (inside m (l / 2) (eqb (l % 2) 0)) (eqb (l / 2) (l / 2) && beq (eqb (l % 2) 0) (eqb (l % 2) 0))
    (and_from (eqb (l / 2) (l / 2)) (beq (eqb (l % 2) 0) (eqb (l % 2) 0)) (eq-eqb (l / 2) (l / 2) refl) (beq_same (eqb (l % 2) 0)))

with_more : (m : ClauseMask) (l j : ℕ) (c : Bool) → inside m j c ≡ true → inside (with_literal m l) j c ≡ true
with_more m l j c t = with_inside m (l / 2) (eqb (l % 2) 0) j c ∙ or_left (inside m j c) (eqb (l / 2) j && beq (eqb (l % 2) 0) c) t

folded_more : (c : List ℕ) (m : ClauseMask) (j : ℕ) (b : Bool) → inside m j b ≡ true → inside (fold with_literal m c) j b ≡ true
folded_more [] m j b t = t
folded_more (l ∷ c) m j b t = folded_more c (with_literal m l) j b (with_more m l j b t)

-- an assumed literal
pub unit_is : (l j : ℕ) (c : Bool) → inside (unit l) j c ≡ true → (j ≡ l / 2) × (c ≡ eqb (l % 2) 0)
unit_is l j c t = elim (with_cases none l j c t) [ inl p ↦ clash (inside none j c) p (inside_none j c) | inr q ↦ q ]

pub unit_met : (l : ℕ) (s : ClauseMask) → inside s (l / 2) (eqb (l % 2) 0) ≡ true → Meets (unit l) s
unit_met l s h = (l / 2, eqb (l % 2) 0, with_own none l, h)

pub unit_apart : (l : ℕ) (s : ClauseMask) → inside s (l / 2) (eqb (l % 2) 0) ≡ false → Apart (unit l) s
unit_apart l s h j b i = let e = unit_is l j b i in ap₂ (inside s) e.0 e.1 ∙ h

-- what is in the set of a clause is a literal of it
folded_in : (c : List ℕ) (m : ClauseMask) (j : ℕ) (b : Bool) → inside (fold with_literal m c) j b ≡ true
    → (inside m j b ≡ true) ⊎ ((l : ℕ) × Contains c l × (j ≡ l / 2) × (b ≡ eqb (l % 2) 0))
folded_in [] m j b t = inl t
folded_in (l ∷ c) m j b t =
    elim (folded_in c (with_literal m l) j b t) [
      | inl p ↦ elim (with_cases m l j b p) [ inl q ↦ inl q | inr q ↦ inr (l, Contains-get_or (l ∷ c) 0 0 (omega arith), q.0, q.1) ]
      | inr (k, h, e, f) ↦ inr (k, Contains-append_right (l ∷ []) c k h, e, f)
    ]

pub listed_in : (c : List ℕ) (j : ℕ) (b : Bool) → inside (mask_of c) j b ≡ true → (l : ℕ) × Contains c l × (j ≡ l / 2) × (b ≡ eqb (l % 2) 0)
listed_in c j b t = elim (folded_in c none j b t) [ inl p ↦ clash (inside none j b) p (inside_none j b) | inr q ↦ q ]

-- a literal that is in the set of a clause and true makes the clause true
folded_true : (a : Valuation) (c : List ℕ) (m : ClauseMask) (j : ℕ) (b : Bool) → inside (fold with_literal m c) j b ≡ true → a j ≡ b → (inside m j b ≡ true) ⊎ (clause a c ≡ true)
folded_true a [] m j b t e = inl t
folded_true a (l ∷ c) m j b t e =
    elim (folded_true a c (with_literal m l) j b t e) [
      | inl p ↦ elim (with_cases m l j b p) [
        | inl q ↦ inl q
        | inr q ↦ inr (or_left (literal a l) (clause a c) (subst₂ (λ x y. beq x y ≡ true) (sym e ∙ ap a q.0) q.1 (beq_same b)))
      ]
      | inr q ↦ inr (or_right (literal a l) (clause a c) q)
    ]

met_clause : (a : Valuation) (s : ClauseMask) → ((j : ℕ) (b : Bool) → inside s j b ≡ true → a j ≡ b) → (c : List ℕ) → Meets (mask_of c) s → clause a c ≡ true
met_clause a s agree c (j, b, t, u) = elim (folded_true a c none j b t (agree j b u)) [ inl p ↦ clash (inside none j b) p (inside_none j b) | inr q ↦ q ]

met_literal : (a : Valuation) (s : ClauseMask) → ((j : ℕ) (b : Bool) → inside s j b ≡ true → a j ≡ b) → (l : ℕ) → Meets (unit l) s → literal a l ≡ true
met_literal a s agree l met = sym (or-false (literal a l)) ∙ met_clause a s agree (l ∷ []) met

-- a clause that is true has a literal that does not fail
folded_fails : (a : Valuation) (c : List ℕ) (m : ClauseMask) → Fails a (fold with_literal m c) → clause a c ≡ true → ⊥
folded_fails a [] m f t = true≢false (sym t)
folded_fails a (l ∷ c) m f t =
    elim (or_cases (literal a l) (clause a c) t) [
      | inl p ↦ not_opposite (eqb (l % 2) 0) (sym (beq_true (a (l / 2)) (eqb (l % 2) 0) p) ∙ f (l / 2) (eqb (l % 2) 0) (folded_more c (with_literal m l) (l / 2) (eqb (l % 2) 0) (with_own m l)))
      | inr q ↦ folded_fails a c (with_literal m l) f q
    ]

-- what an assumed literal says of its variable
pub assumed_value : (base : List (List ℕ)) (l v : ℕ) (b : Bool) → Implied base (unit l) → inside (unit l) v b ≡ true → (a : Valuation) → T (clauses a base) → a v ≡ b
assumed_value base l v b implied t a mods = elim (same_or_not (a v) b) [ inl e ↦ e | inr n ↦ absurd (implied a mods (λ j c u. value j c n (unit_is l j c u))) ]
  where
    mine : (v ≡ l / 2) × (b ≡ eqb (l % 2) 0)
    mine = unit_is l v b t

    value : (j : ℕ) (c : Bool) → a v ≡ not b → (j ≡ l / 2) × (c ≡ eqb (l % 2) 0) → a j ≡ not c
    value j c n q = ap a (q.0 ∙ sym mine.0) ∙ n ∙ ap not (mine.1 ∙ sym q.1)

-- a list of clauses, and of literals, is true where each of them is
clauses_listed : (a : Valuation) (cs : List (List ℕ)) → clauses a cs ≡ list_all (clause a) cs
clauses_listed a [] = refl
clauses_listed a (c ∷ cs) = ap (λ r. clause a c && r) (clauses_listed a cs)

literals_listed : (a : Valuation) (ls : List ℕ) → literals a ls ≡ list_all (literal a) ls
literals_listed a [] = refl
literals_listed a (l ∷ ls) = ap (λ r. literal a l && r) (literals_listed a ls)

each_clause : (a : Valuation) (cs : List (List ℕ)) → T (clauses a cs) → AllPass (clause a) cs
each_clause a cs t = AllPass-from_list_all (clause a) cs (sym (clauses_listed a cs) ∙ T_true _ t)

all_clauses : (a : Valuation) (cs : List (List ℕ)) → AllPass (clause a) cs → T (clauses a cs)
all_clauses a cs p = T_of (clauses_listed a cs ∙ list_all-from_AllPass (clause a) cs p)

-- the clauses of a question: those that are held, and one for each assumed literal
question : List (List ℕ) → List ℕ → List (List ℕ)
question held assumed = held ++ map (λ l. l ∷ []) assumed

question_true : (a : Valuation) (held : List (List ℕ)) (assumed : List ℕ) → T (clauses a held) → T (literals a assumed) → T (clauses a (question held assumed))
unfolding question
question_true a held assumed p q =
    let each : AllPass (literal a) assumed = AllPass-from_list_all (literal a) assumed (sym (literals_listed a assumed) ∙ T_true _ q) in
    all_clauses a _
    (All-append (λ c. clause a c ≡ true) held (map (λ l. l ∷ []) assumed) (each_clause a held p)
    (All-map (λ c. clause a c ≡ true) (λ l. l ∷ []) assumed (λ k d h. or_left (literal a (get_or assumed k d)) false (each k d h))))

-- a clause is implied by a list that has it
listed_implied : (base : List (List ℕ)) (c : List ℕ) → Contains base c → Implied base (mask_of c)
listed_implied base c h a mods fails = folded_fails a c none fails (All-contains (λ x. clause a x ≡ true) base c (each_clause a base mods) h)

pub mapped_at : {X Y : Type 0} (f : X → Y) (xs : List X) (k : ℕ) (d : X) → k < length xs → Contains (map f xs) (f (get_or xs k d))
mapped_at f xs k d h = let n = length-map xs f in (k, omega arith, get_or-map f xs k d _ h)

given_question : (held : List (List ℕ)) (assumed : List ℕ) (masks : List ClauseMask) → masks ≡ map mask_of held → Given masks assumed (question held assumed)
unfolding question
given_question held assumed masks e = (
  subst (Each base) (sym e) (All-map (Implied base) mask_of held (λ k d h. listed_implied base _ (Contains-append_left held units _ (Contains-get_or held k d h)))),
  λ k h. listed_implied base _ (Contains-append_right held units _ (mapped_at (λ l. l ∷ []) assumed k 0 h)),
)
  where
    units : List (List ℕ)
    units = map (λ l. l ∷ []) assumed

    base : List (List ℕ)
    base = held ++ map (λ l. l ∷ []) assumed

-- the numbers of a yes agree with a set that has no variable in both signs
module _ (s : ClauseMask) (single : (j : ℕ) → inside s j true ≡ true → inside s j false ≡ true → ⊥) where
  model_agrees : (j : ℕ) (b : Bool) → inside s j b ≡ true → model (s.positive % 2 ^ 64) (s.positive / 2 ^ 64) j ≡ b
  model_agrees j true t = model_halves s.positive j ∙ t
  model_agrees j false t =
      model_halves s.positive j ∙ elim (cases_Bool (bit s.positive j)) [ inl p ↦ absurd (single j p t) | inr q ↦ q ]

  -- a set that meets every clause and keeps every assumed literal is a yes
  pub yes_answered : (held : List (List ℕ)) (assumed : List ℕ) (masks : List ClauseMask) → masks ≡ map mask_of held → AllMet masks s → AllKept assumed s
      → Answered held assumed (Yes (s.positive % 2 ^ 64) (s.positive / 2 ^ 64))
  yes_answered held assumed masks e met kept = let a : Valuation = model (s.positive % 2 ^ 64) (s.positive / 2 ^ 64) in (
    all_clauses a held (λ k d h. met_clause a s model_agrees (get_or held k d) (All-contains (λ m. Meets m s) masks _ met (subst (λ ms. Contains ms (mask_of (get_or held k d))) (sym e) (mapped_at mask_of held k d h)))),
    T_of (literals_listed a assumed ∙ list_all-from_AllPass (literal a) assumed (λ k d h. met_literal a s model_agrees (get_or assumed k d) (subst (λ l. Meets (unit l) s) (get_or_default assumed k 0 d h) (kept k h)))),
  )

-- where nothing that the question follows from can be true, the answer is no
pub no_answered : (held : List (List ℕ)) (assumed : List ℕ) (masks : List ClauseMask) → masks ≡ map mask_of held
    → ((base : List (List ℕ)) → Given masks assumed base → Hopeless base) → Answered held assumed No
no_answered held assumed masks e hopeless a sat =
    hopeless (question held assumed) (given_question held assumed masks e) a (question_true a held assumed sat.0 sat.1)

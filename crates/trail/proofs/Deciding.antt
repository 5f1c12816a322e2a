-- Lists of decisions: what one more does, distinct variables, and the literals that they make true. Assumes nothing.
use Rattle.std.proofs.Common.{◌≡◌, ℕ, zero, suc, ◌+◌, ◌%◌, ◌<◌, ◌≤◌, Bool, true, false, not, ◌&&◌, ◌||◌, eqb, ◌⊎◌, List, [], ◌∷◌, ◌++◌, length, get_or, take, set, map, fold, MatchBool, sym, refl, ap, ◌∙◌, subst, ap₂, inl, inr, mod-eq_of_lt, arith}
use mathlib.Core.Bool.{beq, or-false, or_assoc}
use Rattle.std.proofs.lemmas.List.{length-map, take-take, length-take-le, set_split, drop_all}
use Rattle.std.proofs.lemmas.Bool.{true≢false, cases_Bool, and_parts, and_from, or_cases, or_parts, or_left, or_right, or_from, eq-eqb, ne_eqb, eqb-true, not-true, not_from_false}
use Rattle.std.proofs.lemmas.Map.Keys.{IsDistinct-cons}
use Rattle.std.proofs.lemmas.Map.Steps.{length-le_from_distinct_below}
use Rattle.std.specs.List.{IsDistinct, AllByRecursion, list_any}
use Rattle.trail.specs.Decisions.{has, Free, distinct, Spells, literals_of}
use Rattle.masks.specs.Masks.{inside, none, with_value}
use Rattle.masks.specs.declared.mask.ClauseMask.{ClauseMask}
use Rattle.trail.specs.declared.decision.Decision.{Decision}
use Rattle.masks.specs.Standings.{Unassigned}
use Rattle.masks.proofs.Sets.{clash, beq_same, beq_true, not_opposite, not_in_variables, with_inside, inside_none}

-- whether a decision gives variable j the value b
abbrev pub gives : Decision → ℕ → Bool → Bool
gives d j b = eqb d.variable j && beq d.value b

pub gives_is : (d : Decision) (j : ℕ) (b : Bool) → gives d j b ≡ true → (d.variable ≡ j) × (d.value ≡ b)
gives_is d j b t = let r = and_parts (eqb d.variable j) (beq d.value b) t in (eqb-true _ _ r.0, beq_true _ _ r.1)

pub gives_own : (d : Decision) → gives d d.variable d.value ≡ true
gives_own d = and_from (eqb d.variable d.variable) (beq d.value d.value) (eq-eqb d.variable d.variable refl) (beq_same d.value)

pub has_push : (ds : List Decision) (d : Decision) (j : ℕ) (b : Bool) → has (ds ++ d ∷ []) j b ≡ (has ds j b || gives d j b)
has_push [] d j b = or-false (gives d j b)
has_push (e ∷ ds) d j b = ap (λ x. gives e j b || x) (has_push ds d j b) ∙ sym (or_assoc (gives e j b) (has ds j b) (gives d j b))

-- a variable that no decision is on
pub free_both : (ds : List Decision) (v : ℕ) → (has ds v true || has ds v false) ≡ false → Free ds v
free_both ds v e true = (or_parts (has ds v true) (has ds v false) e).0
free_both ds v e false = (or_parts (has ds v true) (has ds v false) e).1

pub both_free : (ds : List Decision) (v : ℕ) → Free ds v → (has ds v true || has ds v false) ≡ false
both_free ds v f = or_from (has ds v true) (has ds v false) (f true) (f false)

pub distinct_head : (d : Decision) (ds : List Decision) → distinct (d ∷ ds) ≡ true → Free ds d.variable × (distinct ds ≡ true)
distinct_head d ds e =
    let r = and_parts (not (has ds d.variable true || has ds d.variable false)) (distinct ds) e in
    (free_both ds d.variable (not-true _ r.0), r.1)

pub distinct_cons : (d : Decision) (ds : List Decision) → Free ds d.variable → distinct ds ≡ true → distinct (d ∷ ds) ≡ true
distinct_cons d ds f e = and_from (not (has ds d.variable true || has ds d.variable false)) (distinct ds) (not_from_false _ (both_free ds d.variable f)) e

pub free_tail : (d : Decision) (ds : List Decision) (v : ℕ) → Free (d ∷ ds) v → Free ds v
free_tail d ds v f b = (or_parts (gives d v b) (has ds v b) (f b)).1

pub free_other : (d : Decision) (ds : List Decision) (v : ℕ) → Free (d ∷ ds) v → d.variable ≡ v → ⊥
free_other d ds v f e = clash (has (d ∷ ds) v d.value) (or_left (gives d v d.value) (has ds v d.value) (subst (λ x. gives d x d.value ≡ true) e (gives_own d))) (f d.value)

-- one more decision on another variable leaves a variable free
pub free_push : (ds : List Decision) (d : Decision) (v : ℕ) → Free ds v → (d.variable ≡ v → ⊥) → Free (ds ++ d ∷ []) v
free_push ds d v f n b = has_push ds d v b ∙ or_from (has ds v b) (gives d v b) (f b) (miss (cases_Bool (gives d v b)))
  where
    miss : (gives d v b ≡ true) ⊎ (gives d v b ≡ false) → gives d v b ≡ false
    miss (inl t) = absurd (n (gives_is d v b t).0)
    miss (inr e) = e

pub distinct_push : (ds : List Decision) (d : Decision) → distinct ds ≡ true → Free ds d.variable → distinct (ds ++ d ∷ []) ≡ true
distinct_push [] d e f = refl
distinct_push (h ∷ ds) d e f =
    let r = distinct_head h ds e in
    distinct_cons h (ds ++ d ∷ []) (free_push ds d h.variable r.0 (λ q. free_other h ds d.variable f (sym q))) (distinct_push ds d r.1 (free_tail h ds d.variable f))

pub has_take : (ds : List Decision) (n : ℕ) (j : ℕ) (b : Bool) → has (take n ds) j b ≡ true → has ds j b ≡ true
has_take [] zero j b t = t
has_take [] (suc n) j b t = t
has_take (d ∷ ds) zero j b t = clash false t refl
has_take (d ∷ ds) (suc n) j b t =
    elim (or_cases (gives d j b) (has (take n ds) j b) t)
    [ inl g ↦ or_left (gives d j b) (has ds j b) g | inr h ↦ or_right (gives d j b) (has ds j b) (has_take ds n j b h) ]

pub free_take : (ds : List Decision) (n v : ℕ) → Free ds v → Free (take n ds) v
free_take ds n v f b =
    elim (cases_Bool (has (take n ds) v b)) [ inl t ↦ clash (has ds v b) (has_take ds n v b t) (f b) | inr e ↦ e ]

pub distinct_take : (ds : List Decision) (n : ℕ) → distinct ds ≡ true → distinct (take n ds) ≡ true
distinct_take [] zero e = refl
distinct_take [] (suc n) e = refl
distinct_take (d ∷ ds) zero e = refl
distinct_take (d ∷ ds) (suc n) e =
    let r = distinct_head d ds e in
    distinct_cons d (take n ds) (free_take ds n d.variable r.0) (distinct_take ds n r.1)

pub has_between : (ds : List Decision) (p q j : ℕ) (b : Bool) → p ≤ q → has (take p ds) j b ≡ true → has (take q ds) j b ≡ true
has_between ds p q j b h t = has_take (take q ds) p j b (ap (λ xs. has xs j b) (take-take p q ds h) ∙ t)

pub not_both : (ds : List Decision) (j : ℕ) (b : Bool) → distinct ds ≡ true → has ds j b ≡ true → has ds j (not b) ≡ true → ⊥
not_both [] j b e t u = true≢false (sym t)
not_both (d ∷ ds) j b e t u =
    let r = distinct_head d ds e in
    elim (or_cases (gives d j b) (has ds j b) t) [
      | inl g ↦ elim (or_cases (gives d j (not b)) (has ds j (not b)) u) [
        | inl k ↦ not_opposite b (sym (gives_is d j b g).1 ∙ (gives_is d j (not b) k).1)
        | inr n ↦ clash (has ds j (not b)) n (subst (λ v. has ds v (not b) ≡ false) (gives_is d j b g).0 (r.0 (not b)))
      ]
      | inr m ↦ elim (or_cases (gives d j (not b)) (has ds j (not b)) u) [
        | inl k ↦ clash (has ds j b) m (subst (λ v. has ds v b ≡ false) (gives_is d j (not b) k).0 (r.0 b))
        | inr n ↦ not_both ds j b r.1 m n
      ]
    ]

-- the entry at k gives its variable its value
pub has_at : (ds : List Decision) (k : ℕ) (e : Decision) → k < length ds → has ds (get_or ds k e).variable (get_or ds k e).value ≡ true
has_at [] k e h = absurd (let z : ⊥ = omega arith in z)
has_at (d ∷ ds) zero e h = or_left (gives d d.variable d.value) (has ds d.variable d.value) (gives_own d)
has_at (d ∷ ds) (suc k) e h = or_right (gives d (get_or ds k e).variable (get_or ds k e).value) _ (has_at ds k e (omega arith))

pub fresh_at : (ds : List Decision) (k : ℕ) (e : Decision) → distinct ds ≡ true → k < length ds → Free (take k ds) (get_or ds k e).variable
fresh_at [] k e q h b = absurd (let z : ⊥ = omega arith in z)
fresh_at (d ∷ ds) zero e q h b = refl
fresh_at (d ∷ ds) (suc k) e q h b =
    let r = distinct_head d ds q in
    or_from (gives d (get_or ds k e).variable b) (has (take k ds) (get_or ds k e).variable b)
    (elim (cases_Bool (gives d (get_or ds k e).variable b)) [
      | inl t ↦ clash (has ds (get_or ds k e).variable (get_or ds k e).value) (has_at ds k e (omega arith))
          (subst (λ v. has ds v (get_or ds k e).value ≡ false) (gives_is d (get_or ds k e).variable b t).0 (r.0 (get_or ds k e).value))
      | inr n ↦ n
    ])
    (fresh_at ds k e r.1 (omega arith) b)

-- the variables of the decisions differ, and are below 128
abbrev variables : List Decision → List ℕ
variables ds = map (λ d. d.variable) ds

other_variables : (ds : List Decision) (v : ℕ) → Free ds v → AllByRecursion (λ x. eqb v x ≡ false) (variables ds)
other_variables [] v f = tt
other_variables (d ∷ ds) v f = (ne_eqb v d.variable (λ e. free_other d ds v f (sym e)), other_variables ds v (free_tail d ds v f))

variables_distinct : (ds : List Decision) → distinct ds ≡ true → IsDistinct eqb (variables ds)
unfolding IsDistinct
variables_distinct [] e = tt
variables_distinct (d ∷ ds) e = let r = distinct_head d ds e in (other_variables ds d.variable r.0, variables_distinct ds r.1)

variables_small : (ds : List Decision) (v : ℕ) → list_any (eqb v) (variables ds) ≡ true → v < 128
variables_small [] v t = clash false t refl
variables_small (d ∷ ds) v t =
    elim (or_cases (eqb v d.variable) (list_any (eqb v) (variables ds)) t)
    [ inl e ↦ omega (arith, eqb-true v d.variable e, d.small) | inr h ↦ variables_small ds v h ]

variables_length : (ds : List Decision) → length (variables ds) ≡ length ds
variables_length ds = length-map ds (λ (d : Decision). d.variable)

pub at_most : (ds : List Decision) → distinct ds ≡ true → length ds ≤ 128
at_most ds e = omega (arith, length-le_from_distinct_below (variables ds) 128 (variables_distinct ds e) (variables_small ds), variables_length ds)

-- there is a place for a decision on a free variable
pub place : (ds : List Decision) (v : ℕ) → distinct ds ≡ true → v < 128 → Free ds v → length ds < 128
place ds v e h f =
    let m = length-le_from_distinct_below (v ∷ variables ds) 128 (IsDistinct-cons eqb v (variables ds) (other_variables ds v f) (variables_distinct ds e)) small in
    omega (arith, m, variables_length ds)
  where
    small : (q : ℕ) → list_any (eqb q) (v ∷ variables ds) ≡ true → q < 128
    small q t =
        elim (or_cases (eqb q v) (list_any (eqb q) (variables ds)) t)
        [ inl k ↦ omega (arith, eqb-true q v k, h) | inr k ↦ variables_small ds q k ]

-- the set of true literals with one more decision
pub spells_push : (s r : ClauseMask) (ds : List Decision) (d : Decision) → Spells s ds → r ≡ with_value s (d.variable % 128) d.value → Spells r (ds ++ d ∷ [])
spells_push s r ds d e f j c =
    ap (λ m. inside m j c) f
    ∙ with_inside s (d.variable % 128) d.value j c
    ∙ ap₂ (λ x v. x || (eqb v j && beq d.value c)) (e j c) (mod-eq_of_lt d.small)
    ∙ sym (has_push ds d j c)

-- what a fold over them collects
spells_from : (s : ClauseMask) (ds : List Decision) (j : ℕ) (b : Bool) → inside (fold (λ m d. with_value m (d.variable % 128) d.value) s ds) j b ≡ (inside s j b || has ds j b)
spells_from s [] j b = sym (or-false (inside s j b))
spells_from s (d ∷ ds) j b =
    spells_from (with_value s (d.variable % 128) d.value) ds j b
    ∙ ap (λ x. x || has ds j b) (with_inside s (d.variable % 128) d.value j b ∙ ap (λ v. inside s j b || (eqb v j && beq d.value b)) (mod-eq_of_lt d.small))
    ∙ or_assoc (inside s j b) (gives d j b) (has ds j b)

pub spells_all : (s : ClauseMask) (ds : List Decision) → s ≡ literals_of ds → Spells s ds
spells_all s ds e j b = ap (λ m. inside m j b) e ∙ spells_from none ds j b ∙ ap (λ x. x || has ds j b) (inside_none j b)

-- a variable that the set of them leaves without a value
pub free_in : (s : ClauseMask) (ds : List Decision) (v : ℕ) → Spells s ds → Unassigned s v → Free ds v
free_in s ds v spelled f b = sym (spelled v b) ∙ f b

-- no variable has both values
pub one_value : (s : ClauseMask) (ds : List Decision) → Spells s ds → distinct ds ≡ true → (j : ℕ) → inside s j true ≡ true → inside s j false ≡ true → ⊥
one_value s ds spelled once j p q = not_both ds j true once (sym (spelled j true) ∙ p) (sym (spelled j false) ∙ q)

-- a test whether a variable has a value
pub free_test : (m : ClauseMask) (v : ℕ) (r : Bool) → v < 128 → r ≡ (inside m (v % 128) true || inside m (v % 128) false)
    → MatchBool (not r) ((v < 128) × Unassigned m v) ((v < 128) × Unassigned m v → ⊥)
free_test m v true h e = λ p. true≢false (e ∙ ap (λ x. inside m x true || inside m x false) (mod-eq_of_lt h) ∙ or_from (inside m v true) (inside m v false) (p.1 true) (p.1 false))
free_test m v false h e = (h, not_in_variables m v (ap (λ x. inside m x true || inside m x false) (sym (mod-eq_of_lt h)) ∙ sym e))

-- a cut behind the entry n, and another entry in its place
pub changed : (ds xs : List Decision) (n : ℕ) (d : Decision) → n < length ds → xs ≡ take (n + 1) ds → set xs n d ≡ take n ds ++ d ∷ []
changed ds xs n d h e =
    let l : length xs ≡ n + 1 = ap length e ∙ length-take-le (n + 1) ds (omega arith) in
    let i : n < length xs = omega arith in
    let j : length xs ≤ suc n = omega arith in
    let k : n ≤ n + 1 = omega arith in
    set_split xs n d i ∙ ap₂ (λ p q. p ++ d ∷ q) (ap (take n) e ∙ take-take n (n + 1) ds k) (drop_all (suc n) xs j)

-- Truth of tests, of clauses by their literals, and of lists of clauses by their members. Assumes nothing.
use Rattle.std.proofs.Common.{◌≡◌, ℕ, zero, suc, ◌<◌, ◌%◌, length, get_or, Bool, true, false, not, ◌&&◌, ◌||◌, T, eqb, ◌⊎◌, List, [], ◌∷◌, ◌++◌, sym, refl, ap, subst, ap₂, inl, inr, arith}
use mathlib.Core.Bool.{beq}
use Rattle.std.specs.List.{AllByRecursion}
use Rattle.system.specs.Literals.{Valuation, variable_of, literal, clause, clauses, Member, Occurs, OccursAmong}

pub T_of : {b : Bool} → b ≡ true → T b
T_of e = subst T (sym e) tt

pub T_true : (b : Bool) → T b → b ≡ true
T_true true t = refl
T_true false t = absurd t

pub T_false : (b : Bool) → T (not b) → b ≡ false
T_false b t = grind arith

pub cases_T : (b : Bool) → T b ⊎ T (not b)
cases_T b = grind arith

pub and_l : (a b : Bool) → T (a && b) → T a
and_l a b t = grind arith

pub and_r : (a b : Bool) → T (a && b) → T b
and_r a b t = grind arith

pub and_i : (a b : Bool) → T a → T b → T (a && b)
and_i a b p q = grind arith

pub or_l : (a b : Bool) → T a → T (a || b)
or_l true b p = tt
or_l false b p = absurd p

pub or_r : (a b : Bool) → T b → T (a || b)
or_r true b p = tt
or_r false b p = p

pub or_e : (a b : Bool) → T (a || b) → T a ⊎ T b
or_e a b p = grind arith

pub beq_true : (a b : Bool) → T (beq a b) → a ≡ b
beq_true a b t = grind arith

pub beq_same : (a : Bool) → T (beq a a)
beq_same true = tt
beq_same false = tt

-- members of a list
pub member_left : {A : Type 0} (x : A) (xs ys : List A) → Member x xs → Member x (xs ++ ys)
member_left x [] ys h = absurd h
member_left x (y ∷ xs) ys (inl e) = inl e
member_left x (y ∷ xs) ys (inr h) = inr (member_left x xs ys h)

pub member_right : {A : Type 0} (x : A) (xs ys : List A) → Member x ys → Member x (xs ++ ys)
member_right x [] ys h = h
member_right x (y ∷ xs) ys h = inr (member_right x xs ys h)

pub member_cases : {A : Type 0} (x : A) (xs ys : List A) → Member x (xs ++ ys) → Member x xs ⊎ Member x ys
member_cases x [] ys h = inr h
member_cases x (y ∷ xs) ys (inl e) = inl (inl e)
member_cases x (y ∷ xs) ys (inr h) = elim (member_cases x xs ys h) [ inl m ↦ inl (inr m) | inr m ↦ inr m ]

pub member_all : {A : Type 0} (P : A → Type 0) (xs : List A) (x : A) → AllByRecursion P xs → Member x xs → P x
member_all P [] x h m = absurd m
member_all P (y ∷ ys) x h (inl e) = subst P (sym e) h.0
member_all P (y ∷ ys) x h (inr m) = member_all P ys x h.1 m

pub all_members : {A : Type 0} (P : A → Type 0) (xs : List A) → ((x : A) → Member x xs → P x) → AllByRecursion P xs
all_members P [] h = tt
all_members P (x ∷ xs) h = (h x (inl refl), all_members P xs (λ y m. h y (inr m)))

-- what holds of each holds of that at a place
pub all_place : {A : Type 0} (P : A → Type 0) (xs : List A) (d : A) (i : ℕ) → AllByRecursion P xs → i < length xs → P (get_or xs i d)
all_place P [] d i h l = absurd (let z : ⊥ = omega arith in z)
all_place P (x ∷ xs) d zero h l = h.0
all_place P (x ∷ xs) d (suc i) h l = all_place P xs d i h.1 (omega arith)

-- a clause is true where a literal of it is
pub clause_some : (a : Valuation) (d : List ℕ) → T (clause a d) → (l : ℕ) × Member l d × T (literal a l)
clause_some a [] t = absurd t
clause_some a (l ∷ d) t =
    elim (or_e (literal a l) (clause a d) t) [ inl h ↦ (l, inl refl, h) | inr h ↦ (let r = clause_some a d h in (r.0, inr r.1, r.2)) ]

pub clause_by : (a : Valuation) (d : List ℕ) (l : ℕ) → Member l d → T (literal a l) → T (clause a d)
clause_by a [] l m h = absurd m
clause_by a (k ∷ d) l (inl e) h = or_l (literal a k) (clause a d) (subst (λ x. T (literal a x)) e h)
clause_by a (k ∷ d) l (inr m) h = or_r (literal a k) (clause a d) (clause_by a d l m h)

-- a list of clauses is true where each of them is
pub clauses_each : (a : Valuation) (cs : List (List ℕ)) (c : List ℕ) → T (clauses a cs) → Member c cs → T (clause a c)
clauses_each a [] c t m = absurd m
clauses_each a (d ∷ cs) c t (inl e) = subst (λ x. T (clause a x)) (sym e) (and_l (clause a d) (clauses a cs) t)
clauses_each a (d ∷ cs) c t (inr m) = clauses_each a cs c (and_r (clause a d) (clauses a cs) t) m

pub clauses_all : (a : Valuation) (cs : List (List ℕ)) → ((c : List ℕ) → Member c cs → T (clause a c)) → T (clauses a cs)
clauses_all a [] h = tt
clauses_all a (c ∷ cs) h = and_i (clause a c) (clauses a cs) (h c (inl refl)) (clauses_all a cs (λ d m. h d (inr m)))

pub clauses_parts : (a : Valuation) (xs ys : List (List ℕ)) → T (clauses a (xs ++ ys)) → T (clauses a xs) × T (clauses a ys)
clauses_parts a [] ys t = (tt, t)
clauses_parts a (c ∷ xs) ys t =
    let r = clauses_parts a xs ys (and_r (clause a c) (clauses a (xs ++ ys)) t) in
    (and_i (clause a c) (clauses a xs) (and_l (clause a c) (clauses a (xs ++ ys)) t) r.0, r.1)

pub clauses_append : (a : Valuation) (xs ys : List (List ℕ)) → T (clauses a xs) → T (clauses a ys) → T (clauses a (xs ++ ys))
clauses_append a [] ys p q = q
clauses_append a (c ∷ xs) ys p q =
    and_i (clause a c) (clauses a (xs ++ ys)) (and_l (clause a c) (clauses a xs) p)
    (clauses_append a xs ys (and_r (clause a c) (clauses a xs) p) q)

-- a list of one clause is true where that clause is
pub alone_clause : (a : Valuation) (c : List ℕ) → T (clauses a (c ∷ [])) → T (clause a c)
alone_clause a c t = and_l (clause a c) true t

pub clause_alone : (a : Valuation) (c : List ℕ) → T (clause a c) → T (clauses a (c ∷ []))
clause_alone a c t = and_i (clause a c) true t tt

-- truth depends only on the variables that occur
pub clause_same : (a b : Valuation) (c : List ℕ) → ((v : ℕ) → Occurs v c → a v ≡ b v) → clause a c ≡ clause b c
clause_same a b [] h = refl
clause_same a b (l ∷ c) h =
    ap₂ ◌||◌ (ap (λ x. beq x (eqb (l % 2) 0)) (h (variable_of l) (l, inl refl, refl)))
    (clause_same a b c (λ v o. h v (o.0, inr o.1, o.2)))

pub clauses_same : (a b : Valuation) (cs : List (List ℕ)) → ((v : ℕ) → OccursAmong v cs → a v ≡ b v) → clauses a cs ≡ clauses b cs
clauses_same a b [] h = refl
clauses_same a b (c ∷ cs) h =
    ap₂ ◌&&◌ (clause_same a b c (λ v o. h v (c, inl refl, o)))
    (clauses_same a b cs (λ v o. h v (o.0, inr o.1, o.2)))

-- Lists of entries: places of members, which states they admit, their targets, and one list of entries after another. Assumes nothing.
use Rattle.std.proofs.Common.{◌≡◌, ℕ, zero, suc, ◌+◌, ◌-◌, ◌<◌, ◌≤◌, Bool, true, false, cond, not, ◌&&◌, T, List, [], ◌∷◌, ◌++◌, length, get_or, take, sym, refl, ap, ◌∙◌, subst, inl, inr, arith, nat_eq, nat_lt, nat_le}
use Rattle.std.proofs.Math.Dec.{not_T}
use Rattle.std.proofs.Math.Seq.{take-append-add}
use Rattle.std.proofs.lemmas.Bool.{cases_lt, lt-ltb, le-ltb, le-leb, eqb-true}
use Rattle.std.proofs.lemmas.List.{get_or_past, get_or_append_left, length-take-le, take_at}
use Rattle.system.specs.Literals.{Valuation, bit, clause, clauses, Member}
use Rattle.system.specs.Systems.{System}
use Rattle.system.proofs.Truth.{T_true, cases_T, and_l, and_r, and_i}
use Rattle.books.specs.Entries.{is_subgoal, is_clause, blank, clause_of, admits_as, admits}
use Rattle.books.specs.Books.{admitted, meets, subgoal_at}
use Rattle.books.specs.Targets.{aimed}
use Rattle.books.specs.declared.entry.Entry.{Entry}
use Rattle.books.specs.declared.entry.Kind.{Kind}
use Rattle.books.specs.declared.entry.Kind.TheVariants.{Blank, Found, Subgoal, Taken}

-- members and places
pub member_at : {A : Type 0} (xs : List A) (x d : A) → Member x xs → (j : ℕ) × (j < length xs) × (get_or xs j d ≡ x)
member_at [] x d m = absurd m
member_at (y ∷ ys) x d (inl e) = (0, omega arith, sym e)
member_at (y ∷ ys) x d (inr m) = let r = member_at ys x d m in (suc r.0, omega (arith, r.1), r.2)

pub at_member : {A : Type 0} (xs : List A) (d : A) (j : ℕ) → j < length xs → Member (get_or xs j d) xs
at_member [] d j h = absurd (let z : ⊥ = omega arith in z)
at_member (x ∷ xs) d zero h = inl refl
at_member (x ∷ xs) d (suc j) h = inr (at_member xs d j (omega arith))

-- one of clauses that are not all true is false
pub false_clause : (a : Valuation) (ds : List (List ℕ)) → T (not (clauses a ds)) → (k : ℕ) × (k < length ds) × T (not (clause a (get_or ds k [])))
false_clause a [] t = absurd t
false_clause a (d ∷ ds) t =
    elim (cases_T (clause a d)) [
      | inl y ↦ (let r = false_clause a ds (subst (λ b. T (not (b && clauses a ds))) (T_true (clause a d) y) t) in (suc r.0, omega (arith, r.1), r.2))
      | inr n ↦ (0, omega arith, n)
    ]

-- what a state owes each entry
pub admits_by : (k : Kind) (e : Entry) (s : ℕ) → (T (is_clause k) → T (clause (bit s) (clause_of e))) → (T (is_subgoal k) → s ≡ e.first → ⊥) → T (admits_as k e s)
admits_by Blank e s h g = tt
admits_by Found e s h g = h tt
admits_by Subgoal e s h g = not_T _ (λ t. g tt (eqb-true s e.first (T_true _ t)))
admits_by Taken e s h g = h tt

pub admits_clause : (k : Kind) (e : Entry) (s : ℕ) → T (is_clause k) → T (admits_as k e s) → T (clause (bit s) (clause_of e))
admits_clause Blank e s h t = absurd h
admits_clause Found e s h t = t
admits_clause Subgoal e s h t = absurd h
admits_clause Taken e s h t = t

pub admitted_all : (es : List Entry) (s : ℕ) → ((e : Entry) → Member e es → T (admits e s)) → T (admitted es s)
admitted_all [] s h = tt
admitted_all (e ∷ es) s h = and_i (admits e s) (admitted es s) (h e (inl refl)) (admitted_all es s (λ x m. h x (inr m)))

pub admitted_at : (es : List Entry) (s : ℕ) (e : Entry) → Member e es → T (admitted es s) → T (admits e s)
admitted_at [] s e m t = absurd m
admitted_at (x ∷ es) s e (inl q) t = subst (λ z. T (admits z s)) (sym q) (and_l (admits x s) (admitted es s) t)
admitted_at (x ∷ es) s e (inr m) t = admitted_at es s e m (and_r (admits x s) (admitted es s) t)

pub admitted_left : (es new : List Entry) (s : ℕ) → T (admitted (es ++ new) s) → T (admitted es s)
admitted_left [] new s t = tt
admitted_left (e ∷ es) new s t =
    and_i (admits e s) (admitted es s) (and_l (admits e s) (admitted (es ++ new) s) t) (admitted_left es new s (and_r (admits e s) (admitted (es ++ new) s) t))

pub admitted_right : (es new : List Entry) (s : ℕ) → T (admitted (es ++ new) s) → T (admitted new s)
admitted_right [] new s t = t
admitted_right (e ∷ es) new s t = admitted_right es new s (and_r (admits e s) (admitted (es ++ new) s) t)

pub meets_left : (c : System) (es new : List Entry) (s : ℕ) → T (meets c (es ++ new) s) → T (meets c es s)
meets_left c es new s t =
    let p = clauses (bit s) c.safety in
    and_i p (admitted es s) (and_l p (admitted (es ++ new) s) t) (admitted_left es new s (and_r p (admitted (es ++ new) s) t))

pub meets_right : (c : System) (es new : List Entry) (s : ℕ) → T (meets c (es ++ new) s) → T (admitted new s)
meets_right c es new s t = admitted_right es new s (and_r (clauses (bit s) c.safety) (admitted (es ++ new) s) t)

-- a subgoal stands within the book
pub subgoal_at_below : (es : List Entry) (k t : ℕ) → T (subgoal_at es k t) → k < length es
subgoal_at_below es k t h =
    elim (cases_lt k (length es)) [
      | inl l ↦ l
      | inr g ↦ absurd (subst (λ (e : Entry). T (is_subgoal e.kind && nat_eq e.first t)) (get_or_past es k blank g) h)
    ]

pub subgoal_at_append : (es new : List Entry) (k t : ℕ) → T (subgoal_at es k t) → T (subgoal_at (es ++ new) k t)
subgoal_at_append es new k t h =
    subst (λ (e : Entry). T (is_subgoal e.kind && nat_eq e.first t)) (sym (get_or_append_left es new blank k (subgoal_at_below es k t h))) h

pub aimed_append : (c : System) (es new : List Entry) (k t : ℕ) → T (aimed c es k t) → T (aimed c (es ++ new) k t)
aimed_append c es new k t = go (nat_lt k (length c.safety))
  where
    go : (b : Bool) → T (cond b (not (clause (bit t) (get_or c.safety k []))) (nat_le 256 k && subgoal_at es (k - 256) t)) → T (cond b (not (clause (bit t) (get_or c.safety k []))) (nat_le 256 k && subgoal_at (es ++ new) (k - 256) t))
    go true h = h
    go false h = and_i (nat_le 256 k) (subgoal_at (es ++ new) (k - 256) t) (and_l _ _ h) (subgoal_at_append es new (k - 256) t (and_r _ _ h))

-- targets: a safety clause by its number, a subgoal by 256 and its number
pub aimed_clause : (c : System) (es : List Entry) (k t : ℕ) → k < length c.safety → T (not (clause (bit t) (get_or c.safety k []))) → T (aimed c es k t)
aimed_clause c es k t h n = rw (lt-ltb k (length c.safety) h) n

pub aimed_subgoal : (c : System) (es : List Entry) (j t : ℕ) → length c.safety ≤ 256 → T (subgoal_at es j t) → T (aimed c es (256 + j) t)
aimed_subgoal c es j t few h =
    let back : (256 + j) - 256 ≡ j = omega arith in
    rw (le-ltb (256 + j) (length c.safety) (omega arith), le-leb 256 (256 + j) (omega arith), back) h

-- the used entries after storing
pub take_written : {A : Type 0} (b new rest : List A) (i : ℕ) → i ≤ length b → take (i + length new) (take i b ++ (new ++ rest)) ≡ take i b ++ new
take_written b new rest i h =
    let e = length-take-le i b h in
    ap (λ k. take (k + length new) (take i b ++ (new ++ rest))) (sym e) ∙ take-append-add (take i b) (new ++ rest) (length new) ∙ ap (λ z. take i b ++ z) (take_at new rest (length new) refl)

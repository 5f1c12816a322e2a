-- A state meets the clauses by which a solver holds a book exactly where it is consistent with the book. Assumes nothing.
use Rattle.std.proofs.Common.{◌≡◌, ℕ, ◌/◌, ◌^◌, ◌<◌, ◌↔◌, Bool, true, false, not, ◌&&◌, T, List, [], ◌∷◌, ◌++◌, sym, refl, ap, ap₂, ◌∙◌, subst, inl, inr, arith, nat_eq, zero-add}
use Rattle.std.proofs.Math.Dec.{T_not, not_T}
use Rattle.std.proofs.Math.Bool.{and_assoc, not-eq-not}
use Rattle.std.proofs.lemmas.Bool.{eq-eqb, eqb-true}
use Rattle.std.specs.List.{AllByRecursion}
use Rattle.system.specs.Literals.{Valuation, bit, variable_of, clause, clauses, Member}
use Rattle.system.specs.Systems.{System, Consecution, OverRelays}
use Rattle.system.specs.Spelling.{spelled}
use Rattle.system.specs.Preserving.{met}
use Rattle.system.proofs.Truth.{T_of, T_true, all_members}
use Rattle.system.proofs.Spelled.{spelled_true, true_spelled, spelled_over, literal_of_half}
use Rattle.books.specs.Entries.{clause_of, admits_as, held_as, held_clauses}
use Rattle.books.specs.Books.{admitted, meets, rule_as, Ruled}
use Rattle.books.specs.declared.entry.Entry.{Entry}
use Rattle.books.specs.declared.entry.Kind.{Kind}
use Rattle.books.specs.declared.entry.Kind.TheVariants.{Blank, Found, Subgoal, Taken}
use Rattle.books.proofs.Binary.{bit_high, bits_differ}
use Rattle.books.proofs.Meanings.{spelled_from}
use Rattle.books.proofs.Ruled.{member_rule, rule_low}

tests_same : (a b : Bool) → (T a → T b) → (T b → T a) → a ≡ b
tests_same true true f g = refl
tests_same true false f g = absurd (f tt)
tests_same false true f g = absurd (g tt)
tests_same false false f g = refl

-- the clause that is false just at u
pub false_just_there : (n s u : ℕ) → s < 2 ^ n → u < 2 ^ n → clause (bit s) (spelled 0 n (λ i. true) (λ i. not (bit u i))) ≡ not (nat_eq s u)
false_just_there n s u low below = tests_same _ _ differs same
  where
    differs : T (clause (bit s) (spelled 0 n (λ i. true) (λ i. not (bit u i)))) → T (not (nat_eq s u))
    differs t =
        not_T _ (λ h.
        let r = spelled_true 0 (λ i. true) (λ i. not (bit u i)) (bit s) n t in
        not-eq-not.1 refl (ap (λ z. bit z r.0) (sym (eqb-true s u (T_true _ h))) ∙ subst (λ j. bit s j ≡ not (bit u r.0)) (zero-add r.0) r.3))

    same : T (not (nat_eq s u)) → T (clause (bit s) (spelled 0 n (λ i. true) (λ i. not (bit u i))))
    same h =
        let r = bits_differ n s u low below (λ e. T_not _ h (T_of (eq-eqb s u e))) in
        true_spelled 0 (λ i. true) (λ i. not (bit u i)) (bit s) n r.0 r.1 tt (subst (λ j. bit s j ≡ not (bit u r.0)) (sym (zero-add r.0)) r.2)

-- the clause by which an entry is held is true where the entry admits the state, and over the relays
held_admits : (k : Kind) (c : System) (es : List Entry) (j : ℕ) (e : Entry) (s : ℕ) → s < 2 ^ c.n → T (rule_as k c es j e) → clause (bit s) (held_as k c.n e) ≡ admits_as k e s
held_admits Blank c es j e s low t = absurd t
held_admits Found c es j e s low t = refl
held_admits Subgoal c es j e s low t = false_just_there c.n s e.first low (rule_low Subgoal c es j e t)
held_admits Taken c es j e s low t = refl

pub held_low : (k : Kind) (c : System) (es : List Entry) (j : ℕ) (e : Entry) → T (rule_as k c es j e) → OverRelays c.n (held_as k c.n e)
held_low k c es j e t = go k (rule_low k c es j e t) t
  where
    low : e.first < 2 ^ c.n → OverRelays c.n (clause_of e)
    low b =
        all_members (λ l. variable_of l < c.n) (clause_of e) (λ l m.
        let r = spelled_from (bit e.first) (bit e.second) 32 l m in
        subst (λ z. z < c.n) (sym (ap (λ k. k / 2) r.3 ∙ literal_of_half r.0 (bit e.second r.0))) (bit_high c.n e.first r.0 b r.2))

    go : (k : Kind) → e.first < 2 ^ c.n → T (rule_as k c es j e) → OverRelays c.n (held_as k c.n e)
    go Blank b t = absurd t
    go Found b t = low b
    go Subgoal b t = spelled_over c.n c.n (λ i. true) (λ i. not (bit e.first i)) (omega arith)
    go Taken b t = low b

clauses_both : (a : Valuation) (xs ys : List (List ℕ)) → clauses a (xs ++ ys) ≡ (clauses a xs && clauses a ys)
clauses_both a [] ys = refl
clauses_both a (x ∷ xs) ys = ap (λ b. clause a x && b) (clauses_both a xs ys) ∙ sym (and_assoc (clause a x) (clauses a xs) (clauses a ys))

module _ (c : System) (es : List Entry) (ruled : Ruled c es) where
  pub met_meets : (s : ℕ) → s < 2 ^ c.n → met c (held_clauses c.n es) s ≡ meets c es s
  met_meets s low = clauses_both (bit s) c.safety (held_clauses c.n es) ∙ ap (λ b. clauses (bit s) c.safety && b) (each es (λ e m. m))
    where
      each : (rest : List Entry) → ((e : Entry) → Member e rest → Member e es) → clauses (bit s) (held_clauses c.n rest) ≡ admitted rest s
      each [] f = refl
      each (e ∷ rest) f =
          let r = member_rule c es ruled e (f e (inl refl)) in
          ap₂ ◌&&◌ (held_admits e.kind c es r.0 e s low r.1) (each rest (λ x m. f x (inr m)))

  pub held_over : AllByRecursion (OverRelays c.n) (held_clauses c.n es)
  held_over = each es (λ e m. m)
    where
      each : (rest : List Entry) → ((e : Entry) → Member e rest → Member e es) → AllByRecursion (OverRelays c.n) (held_clauses c.n rest)
      each [] f = tt
      each (e ∷ rest) f = let r = member_rule c es ruled e (f e (inl refl)) in (held_low e.kind c es r.0 e r.1, each rest (λ x m. f x (inr m)))

  pub consecution_meets : (p : ℕ → Bool) → Consecution c (met c (held_clauses c.n es)) p ↔ Consecution c (meets c es) p
  consecution_meets p = (
    λ h s t q y j. h s t (subst T (sym (met_meets s j.low)) q) y j,
    λ h s t q y j. h s t (subst T (met_meets s j.low) q) y j,
  )

-- Clauses that a system's step clauses preserve are those of which consecution holds. Assumes nothing.
use Rattle.std.proofs.Common.{◌≡◌, ℕ, ◌+◌, ◌-◌, ◌<◌, ◌≤◌, ◌&&◌, ◌||◌, T, ◌⊎◌, ◌↔◌, List, [], ◌∷◌, ◌++◌, sym, subst, ◌∙◌, inl, inr, arith, nat_lt, nat_le}
use Rattle.std.specs.List.{AllByRecursion}
use Rattle.std.proofs.lemmas.Bool.{lt-ltb, le-ltb, ltb-true, leb-true}
use Rattle.system.specs.Literals.{Valuation, bit, variable_of, clause, clauses, Occurs, OccursAmong}
use Rattle.system.specs.Systems.{System, Step, step_bits, Consecution, OverRelays, OverVariables, is_variable}
use Rattle.system.specs.Preserving.{after, Preserved, StepFormed, PreservedIsConsecution, loaded, met}
use Rattle.system.proofs.Truth.{T_true, and_l, and_r, or_e, member_all, clause_same, clauses_same, clauses_parts, clauses_append}
use Rattle.system.specs.Spelling.{number}
use Rattle.system.proofs.Numbers.{bit_number, number_below}

-- clauses over relays have the same truth under valuations that agree on these
pub relays_alike : (n : ℕ) (a b : Valuation) (c : List ℕ) → OverRelays n c → ((v : ℕ) → v < n → a v ≡ b v) → clause a c ≡ clause b c
relays_alike n a b c over same = clause_same a b c (λ v o. same v (low v o))
  where
    low : (v : ℕ) → Occurs v c → v < n
    low v (l, k, e) = subst (λ u. u < n) e (member_all (λ j. variable_of j < n) c l over k)

pub relays_same : (n : ℕ) (a b : Valuation) (ds : List (List ℕ)) → AllByRecursion (OverRelays n) ds → ((v : ℕ) → v < n → a v ≡ b v) → clauses a ds ≡ clauses b ds
relays_same n a b ds over same = clauses_same a b ds (λ v o. same v (low v o))
  where
    low : (v : ℕ) → OccursAmong v ds → v < n
    low v (d, m, (l, k, e)) = subst (λ u. u < n) e (member_all (λ j. variable_of j < n) d l (member_all (OverRelays n) ds d over m) k)

-- the valuation of a step in its three parts
module _ (s t x : ℕ) where
  pub step_before : (v : ℕ) → v < 32 → step_bits s t x v ≡ bit s v
  step_before v h = rw (lt-ltb v 32 h)

  pub step_after : (v : ℕ) → v < 32 → step_bits s t x (32 + v) ≡ bit t v
  step_after v h = let b : (32 + v) - 32 ≡ v = omega arith in rw (le-ltb (32 + v) 32 (omega arith), lt-ltb (32 + v) 64 (omega arith), b)

  pub step_input : (v : ℕ) → step_bits s t x (64 + v) ≡ bit x v
  step_input v = let b : (64 + v) - 64 ≡ v = omega arith in rw (le-ltb (64 + v) 32 (omega arith), le-ltb (64 + v) 64 (omega arith), b)

-- a variable of a step, by its place
variable_cases : (n m v : ℕ) → T (is_variable n m v) → (v < n) ⊎ (((32 ≤ v) × (v - 32 < n)) ⊎ ((64 ≤ v) × (v - 64 < m)))
variable_cases n m v t =
    elim (or_e (nat_lt v n || (nat_le 32 v && nat_lt (v - 32) n)) (nat_le 64 v && nat_lt (v - 64) m) t) [
      | inl h ↦ elim (or_e (nat_lt v n) (nat_le 32 v && nat_lt (v - 32) n) h) [ inl l ↦ inl (below v n l) | inr r ↦ inr (inl (both 32 n r)) ]
      | inr h ↦ inr (inr (both 64 m h))
    ]
  where
    below : (i k : ℕ) → T (nat_lt i k) → i < k
    below i k h = ltb-true i k (T_true _ h)

    both : (first k : ℕ) → T (nat_le first v && nat_lt (v - first) k) → (first ≤ v) × (v - first < k)
    both first k h = (leb-true first v (T_true _ (and_l (nat_le first v) _ h)), below (v - first) k (and_r (nat_le first v) _ h))

-- a valuation gives a step where it makes the step clauses true
module _ (c : System) (formed : StepFormed c) (a : Valuation) where
  state : ℕ
  state = number c.n a

  next : ℕ
  next = number c.n (after a)

  inputs : ℕ
  inputs = number c.m (λ j. a (64 + j))

  same_variable : (v : ℕ) → T (is_variable c.n c.m v) → a v ≡ step_bits state next inputs v
  unfolding state next inputs
  same_variable v t = go (variable_cases c.n c.m v t)
    where
      few : c.n ≤ 32
      few = formed.relays

      go : (v < c.n) ⊎ (((32 ≤ v) × (v - 32 < c.n)) ⊎ ((64 ≤ v) × (v - 64 < c.m))) → a v ≡ step_bits state next inputs v
      go (inl l) = sym (step_before state next inputs v (omega arith) ∙ bit_number c.n a v l)
      go (inr (inl (g, l))) =
          let e : 32 + (v - 32) ≡ v = omega arith in
          subst (λ u. a u ≡ step_bits state next inputs u) e (sym (step_after state next inputs (v - 32) (omega arith) ∙ bit_number c.n (after a) (v - 32) l))
      go (inr (inr (g, l))) =
          let e : 64 + (v - 64) ≡ v = omega arith in
          subst (λ u. a u ≡ step_bits state next inputs u) e (sym (step_input state next inputs (v - 64) ∙ bit_number c.m (λ j. a (64 + j)) (v - 64) l))

  same_step : clauses a c.step ≡ clauses (step_bits state next inputs) c.step
  same_step = clauses_same a (step_bits state next inputs) c.step (λ v o. same_variable v (variable v o))
    where
      variable : (v : ℕ) → OccursAmong v c.step → T (is_variable c.n c.m v)
      variable v (d, m, (l, k, e)) =
          subst (λ u. T (is_variable c.n c.m u)) e
          (member_all (λ j. T (is_variable c.n c.m (variable_of j))) d l (member_all (OverVariables c.n c.m) c.step d formed.over m) k)

  pub step_of : T (clauses a c.step) → Step c (number c.n a) (number c.n (after a))
  unfolding state next inputs
  step_of t = record {
    low = number_below c.n a;
    next_low = number_below c.n (after a);
    inputs = inputs;
    inputs_low = number_below c.m (λ j. a (64 + j));
    joins = subst T same_step t;
  }

pub preserved_is_consecution : PreservedIsConsecution
unfolding state next
preserved_is_consecution c more cs formed over_more over_cs = (to, from)
  where
    few : c.n ≤ 32
    few = formed.relays

    to : Preserved (c.step ++ more) cs → Consecution c (λ s. clauses (bit s) more) (λ s. clauses (bit s) cs)
    to h s t q p j =
        let a = step_bits s t j.inputs in
        let before : (v : ℕ) → v < c.n → bit s v ≡ a v = λ v l. sym (step_before s t j.inputs v (omega arith)) in
        subst T (relays_same c.n (after a) (bit t) cs over_cs (λ v l. step_after s t j.inputs v (omega arith)))
        (h a (clauses_append a c.step more j.joins (subst T (relays_same c.n (bit s) a more over_more before) q))
        (subst T (relays_same c.n (bit s) a cs over_cs before) p))

    from : Consecution c (λ s. clauses (bit s) more) (λ s. clauses (bit s) cs) → Preserved (c.step ++ more) cs
    from h a held p =
        let parts = clauses_parts a c.step more held in
        let before : (v : ℕ) → v < c.n → a v ≡ bit (state c formed a) v = λ v l. sym (bit_number c.n a v l) in
        subst T (relays_same c.n (bit (next c formed a)) (after a) cs over_cs (λ v l. bit_number c.n (after a) v l))
        (h (state c formed a) (next c formed a) (subst T (relays_same c.n a (bit (state c formed a)) more over_more before) parts.1)
        (subst T (relays_same c.n a (bit (state c formed a)) cs over_cs before) p) (step_of c formed a parts.0))

-- what holds of each of two lists holds of each of both
all_append : {A : Type 0} (P : A → Type 0) (xs ys : List A) → AllByRecursion P xs → AllByRecursion P ys → AllByRecursion P (xs ++ ys)
all_append P [] ys h k = k
all_append P (x ∷ xs) ys h k = (h.0, all_append P xs ys h.1 k)

-- where a solver holds a system and further clauses
pub loaded_is_consecution : (c : System) (more cs : List (List ℕ)) → StepFormed c → AllByRecursion (OverRelays c.n) c.safety
    → AllByRecursion (OverRelays c.n) more → AllByRecursion (OverRelays c.n) cs → Preserved (loaded c more) cs ↔ Consecution c (met c more) (λ s. clauses (bit s) cs)
loaded_is_consecution c more cs formed safety over_more over_cs =
    preserved_is_consecution c (c.safety ++ more) cs formed (all_append (OverRelays c.n) c.safety more safety over_more) over_cs

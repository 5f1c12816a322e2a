-- Tests that compute what the definitions say of a small system. Assumes nothing.
use Rattle.std.proofs.Common.{◌≡◌, ℕ, zero, suc, ◌+◌, ◌-◌, ◌^◌, ◌<◌, ◌≤◌, Bool, true, false, not, cond, ◌&&◌, ◌||◌, T, List, [], ◌∷◌, length, get_or, sym, refl, subst, inl, inr, arith, nat_eq, nat_lt, nat_le}
use Rattle.std.proofs.lemmas.Bool.{cases_eq, eqb-true, ltb-true, leb-true}
use Rattle.system.specs.Literals.{bit, clause, clauses}
use Rattle.system.specs.Systems.{System, Step, step_bits, Initiation, Consecution}
use Rattle.system.proofs.Truth.{T_true, and_l, and_r, and_i, or_l, or_r}
use Rattle.books.specs.declared.entry.Entry.{Entry}
use Rattle.books.specs.Books.{meets, subgoal_at}
use Rattle.books.specs.Targets.{aimed, Counterexample, FirstCounterexample, NoCounterexample}

-- p passes at every number below k, or at some
abbrev pub every : ℕ → (ℕ → Bool) → Bool
every zero p = true
every (suc k) p = every k p && p k

abbrev pub some : ℕ → (ℕ → Bool) → Bool
some zero p = false
some (suc k) p = some k p || p k

every_at : (k : ℕ) (p : ℕ → Bool) → T (every k p) → (i : ℕ) → i < k → T (p i)
every_at zero p t i h = absurd (let z : ⊥ = omega arith in z)
every_at (suc k) p t i h =
    elim (cases_eq i k) [ inl e ↦ subst (λ z. T (p z)) (sym e) (and_r (every k p) (p k) t) | inr n ↦ every_at k p (and_l (every k p) (p k) t) i (omega arith) ]

some_at : (k : ℕ) (p : ℕ → Bool) (i : ℕ) → i < k → T (p i) → T (some k p)
some_at zero p i h t = absurd (let z : ⊥ = omega arith in z)
some_at (suc k) p i h t =
    elim (cases_eq i k) [ inl e ↦ or_r (some k p) (p k) (subst (λ z. T (p z)) e t) | inr n ↦ or_l (some k p) (p k) (some_at k p i (omega arith) t) ]

abbrev pub implies : Bool → Bool → Bool
implies true b = b
implies false b = true

implied : (a b : Bool) → T (implies a b) → T a → T b
implied true b t h = t
implied false b t h = absurd h

-- a subgoal stands in a place
entry_below : (es : List Entry) (j t : ℕ) → T (subgoal_at es j t) → j < length es
entry_below [] j t h = absurd h
entry_below (e ∷ es) zero t h = omega arith
entry_below (e ∷ es) (suc j) t h = let l = entry_below es j t h in omega arith

-- whether a step joins two states, and whether every two states that one joins pass
abbrev pub joins : System → ℕ → ℕ → Bool
joins c s t = some (2 ^ c.m) (λ x. clauses (step_bits s t x) c.step)

joined : (c : System) (s t : ℕ) → Step c s t → T (joins c s t)
joined c s t j = some_at (2 ^ c.m) (λ x. clauses (step_bits s t x) c.step) j.inputs j.inputs_low j.joins

abbrev pub every_step : System → (ℕ → ℕ → Bool) → Bool
every_step c p = every (2 ^ c.n) (λ s. every (2 ^ c.n) (λ t. implies (joins c s t) (p s t)))

at_step : (c : System) (p : ℕ → ℕ → Bool) → T (every_step c p) → (s t : ℕ) → Step c s t → T (p s t)
at_step c p h s t j =
    implied (joins c s t) (p s t)
    (every_at (2 ^ c.n) (λ t. implies (joins c s t) (p s t)) (every_at (2 ^ c.n) (λ s. every (2 ^ c.n) (λ t. implies (joins c s t) (p s t))) h s j.low) t j.next_low)
    (joined c s t j)

-- whether inputs x make a step from s to t
abbrev pub leads : System → ℕ → ℕ → ℕ → Bool
leads c s t x = nat_lt s (2 ^ c.n) && (nat_lt t (2 ^ c.n) && (nat_lt x (2 ^ c.m) && clauses (step_bits s t x) c.step))

pub a_step : (c : System) (s t x : ℕ) → T (leads c s t x) → Step c s t
a_step c s t x h =
    let to = and_r (nat_lt s (2 ^ c.n)) _ h in
    let by = and_r (nat_lt t (2 ^ c.n)) _ to in
    record {
      low = ltb-true s (2 ^ c.n) (T_true (nat_lt s (2 ^ c.n)) (and_l (nat_lt s (2 ^ c.n)) _ h));
      next_low = ltb-true t (2 ^ c.n) (T_true (nat_lt t (2 ^ c.n)) (and_l (nat_lt t (2 ^ c.n)) _ to));
      inputs = x;
      inputs_low = ltb-true x (2 ^ c.m) (T_true (nat_lt x (2 ^ c.m)) (and_l (nat_lt x (2 ^ c.m)) _ by));
      joins = and_r (nat_lt x (2 ^ c.m)) _ by;
    }

-- whether initiation and consecution hold
abbrev pub initiates : System → (ℕ → Bool) → Bool
initiates c p = every (2 ^ c.n) (λ s. implies (clauses (bit s) c.start) (p s))

pub initiation : (c : System) (p : ℕ → Bool) → T (initiates c p) → Initiation c p
initiation c p h s i = implied (clauses (bit s) c.start) (p s) (every_at (2 ^ c.n) (λ s. implies (clauses (bit s) c.start) (p s)) h s i.low) i.starts

abbrev pub consecutes : System → (ℕ → Bool) → (ℕ → Bool) → Bool
consecutes c q p = every_step c (λ s t. implies (q s && p s) (p t))

pub consecution : (c : System) (q p : ℕ → Bool) → T (consecutes c q p) → Consecution c q p
consecution c q p h s t a b j =
    implied (q s && p s) (p t) (at_step c (λ s t. implies (q s && p s) (p t)) h s t j) (and_i (q s) (p s) a b)

module _ (c : System) (es : List Entry) where
  -- whether every counterexample for target k passes
  abbrev pub counterexamples : ℕ → (ℕ → ℕ → Bool) → Bool
  counterexamples k p = every_step c (λ s t. implies (meets c es s && aimed c es k t) (p s t))

  pub counterexample : (k : ℕ) (p : ℕ → ℕ → Bool) → T (counterexamples k p) → (s t : ℕ) → Counterexample c es k s t → T (p s t)
  counterexample k p h s t x =
      implied (meets c es s && aimed c es k t) (p s t)
      (at_step c (λ s t. implies (meets c es s && aimed c es k t) (p s t)) h s t x.joined)
      (and_i (meets c es s) (aimed c es k t) x.before x.at)

  -- the same where just one state and successor pass
  pub the_only : (k s t : ℕ) → T (counterexamples k (λ u v. nat_eq u s && nat_eq v t)) → (u v : ℕ) → Counterexample c es k u v → (s ≡ u) × (t ≡ v)
  the_only k s t h u v x =
      let p = counterexample k (λ u v. nat_eq u s && nat_eq v t) h u v x in
      (sym (eqb-true u s (T_true (nat_eq u s) (and_l (nat_eq u s) (nat_eq v t) p))), sym (eqb-true v t (T_true (nat_eq v t) (and_r (nat_eq u s) (nat_eq v t) p))))

  -- whether no target below k has one
  abbrev pub quiet : ℕ → Bool
  quiet k = every k (λ j. counterexamples j (λ s t. false))

  pub quiet_below : (k : ℕ) → T (quiet k) → (j : ℕ) → j < k → (s t : ℕ) → Counterexample c es j s t → ⊥
  quiet_below k h j l s t x = counterexample j (λ s t. false) (every_at k (λ j. counterexamples j (λ s t. false)) h j l) s t x

  -- whether that step is a counterexample for the first target that has one
  abbrev pub leads_first : ℕ → ℕ → ℕ → ℕ → Bool
  leads_first k s t x = quiet k && (meets c es s && (leads c s t x && aimed c es k t))

  pub first_counterexample : (k s t x : ℕ) → T (leads_first k s t x) → FirstCounterexample c es k s t
  first_counterexample k s t x h =
      let here = and_r (quiet k) _ h in
      let step = and_r (meets c es s) _ here in
      record {
        found = record {
          before = and_l (meets c es s) _ here;
          joined = a_step c s t x (and_l (leads c s t x) (aimed c es k t) step);
          at = and_r (leads c s t x) (aimed c es k t) step;
        };
        earliest = quiet_below k (and_l (quiet k) _ h);
      }

  -- targets are numbers of safety clauses, or 256 and the place of an entry
  target_below : (k t : ℕ) → length c.safety ≤ 256 → T (aimed c es k t) → k < 256 + length es
  target_below k t few = go (nat_lt k (length c.safety)) refl
    where
      go : (b : Bool) → nat_lt k (length c.safety) ≡ b
          → T (cond b (not (clause (bit t) (get_or c.safety k []))) (nat_le 256 k && subgoal_at es (k - 256) t)) → k < 256 + length es
      go true e h = let l = ltb-true k (length c.safety) e in omega arith
      go false e h =
          let low = leb-true 256 k (T_true (nat_le 256 k) (and_l (nat_le 256 k) (subgoal_at es (k - 256) t) h)) in
          let at = entry_below es (k - 256) t (and_r (nat_le 256 k) (subgoal_at es (k - 256) t) h) in
          omega arith

  pub no_counterexample : length c.safety ≤ 256 → T (quiet (256 + length es)) → NoCounterexample c es
  no_counterexample few h k s t x = quiet_below (256 + length es) h k (target_below k t few x.at) s t x

-- What holds of the entries of a book after any list of calls, and what it gives of safety and of the run read out. Assumes nothing.
use Rattle.std.proofs.Common.{◌≡◌, ℕ, zero, suc, ◌+◌, ◌-◌, ◌<◌, ◌≤◌, min, Bool, true, false, cond, not, ◌&&◌, T, ◌⊎◌, List, [], ◌∷◌, ◌++◌, length, get_or, take, sym, refl, ap, subst, subst₂, ◌∙◌, inl, inr, arith, nat_eq, nat_lt, nat_le}
use Rattle.std.proofs.Math.Dec.{T_not, not_T}
use Rattle.std.proofs.Math.Seq.{take-append-add}
use Rattle.std.proofs.lemmas.Bool.{cases_lt, ltb-true, eq-eqb, eqb-true}
use Rattle.std.proofs.lemmas.List.{get_or_append_left, get_or-append_right, get_or-take, length-append, length-take, take-append-le}
use Rattle.system.specs.Literals.{bit, clause, clauses, Member}
use Rattle.system.specs.Systems.{System, Initial, Step, Steps, Reached, Broken, Safe, Initiation, Inductive}
use Rattle.system.proofs.Truth.{T_of, T_true, cases_T, and_l, and_r, and_i, member_cases, clauses_each}
use Rattle.system.proofs.Runs.{reached_initial, reached_step, in_reached, safe_reached, reached_safe}
use Rattle.layout.specs.Spelling.{Admitted}
use Rattle.books.specs.declared.entry.Entry.{Entry}
use Rattle.books.specs.Entries.{is_subgoal, is_clause, blank, clause_of}
use Rattle.books.specs.Books.{admitted, meets, subgoal_at}
use Rattle.books.specs.Targets.{aimed, path, NoCounterexample}
use Rattle.books.proofs.Entries.{member_at, at_member, false_clause, admits_by, admitted_all, meets_left, subgoal_at_below, aimed_append, aimed_clause, aimed_subgoal}

-- from a reached state steps lead to reached states
reached_steps : (c : System) (s : ℕ) (r : List ℕ) → Steps c s r → Reached c s → (t : ℕ) → Member t (s ∷ r) → Reached c t
reached_steps c s r h z t (inl e) = subst (Reached c) (sym e) z
reached_steps c s [] h z t (inr m) = absurd m
reached_steps c s (u ∷ r) h z t (inr m) = reached_steps c u r h.1 (reached_step c s u z h.0) t m

-- a clause entry that is initiated, and true after every step from a state that meets the whole book
pub record Carried (c : System) (es : List Entry) (e : Entry) : Type 0 where
  pub initiated : Initiation c (λ s. clause (bit s) (clause_of e))
  pub stepped : (s t : ℕ) → T (meets c es s) → Step c s t → T (clause (bit t) (clause_of e))

-- a subgoal one step before its target, which the entries es have
pub record Leading (c : System) (es : List Entry) (e : Entry) : Type 0 where
  pub joined : Step c e.first e.second
  pub at : T (aimed c es e.third e.second)

pub record Sound (c : System) (es : List Entry) : Type 0 where
  pub clause_entries : (e : Entry) → Member e es → T (is_clause e.kind) → Carried c es e
  pub subgoals : (j : ℕ) → j < length es → T (is_subgoal (get_or es j blank).kind) → Leading c (take j es) (get_or es j blank)

-- entries that are sound in the book so far stay so with more behind them
pub sound_append : (c : System) (es new : List Entry) → Sound c es
    → ((e : Entry) → Member e new → T (is_clause e.kind) → Carried c (es ++ new) e)
    → ((e : Entry) → Member e new → T (is_subgoal e.kind) → Leading c es e)
    → Sound c (es ++ new)
sound_append c es new so cl sg =
    record {
      clause_entries = λ e m k. elim (member_cases e es new m) [
        | inl h ↦ (let o = so.clause_entries e h k in record { initiated = o.initiated; stepped = λ s t y j. o.stepped s t (meets_left c es new s y) j })
        | inr h ↦ cl e h k
      ];
      subgoals = λ j low k. elim (cases_lt j (length es)) [
        | inl h ↦ old j h k
        | inr h ↦ late j h low k
      ];
    }
  where
    old : (j : ℕ) → j < length es → T (is_subgoal (get_or (es ++ new) j blank).kind) → Leading c (take j (es ++ new)) (get_or (es ++ new) j blank)
    old j h k =
        let e = get_or_append_left es new blank j h in
        subst₂ (Leading c) (sym (take-append-le j es new (omega arith))) (sym e) (so.subgoals j h (subst (λ (z : Entry). T (is_subgoal z.kind)) e k))

    late : (j : ℕ) → length es ≤ j → j < length (es ++ new) → T (is_subgoal (get_or (es ++ new) j blank).kind) → Leading c (take j (es ++ new)) (get_or (es ++ new) j blank)
    late j h low k =
        let e = get_or-append_right es new (length es) j blank refl h in
        let back : length es + (j - length es) ≡ j = omega arith in
        let t = sym (take-append-add es new (j - length es)) ∙ ap (λ z. take z (es ++ new)) back in
        let m = at_member new blank (j - length es) (omega (arith, length-append es new)) in
        let lead = sg (get_or new (j - length es) blank) m (subst (λ (z : Entry). T (is_subgoal z.kind)) e k) in
        let more : Leading c (es ++ take (j - length es) new) (get_or new (j - length es) blank) = record { joined = lead.joined; at = aimed_append c es (take (j - length es) new) _ _ lead.at } in
        subst₂ (Leading c) t (sym e) more

-- a target is a broken state, or the state of an earlier subgoal
aimed_at : (c : System) (es : List Entry) (k t : ℕ) → T (aimed c es k t)
    → ((nat_lt k (length c.safety) ≡ true) × Broken c t) ⊎ ((nat_lt k (length c.safety) ≡ false) × T (subgoal_at es (k - 256) t))
aimed_at c es k t = go (nat_lt k (length c.safety)) refl
  where
    go : (b : Bool) → nat_lt k (length c.safety) ≡ b → T (cond b (not (clause (bit t) (get_or c.safety k []))) (nat_le 256 k && subgoal_at es (k - 256) t))
        → ((b ≡ true) × Broken c t) ⊎ ((b ≡ false) × T (subgoal_at es (k - 256) t))
    go true q n =
        let m = at_member c.safety [] k (ltb-true k (length c.safety) q) in
        inl (refl, not_T _ (λ y. T_not _ n (clauses_each (bit t) c.safety _ y m)))
    go false q n = inr (refl, and_r (nat_le 256 k) _ n)

earlier_subgoal : (es : List Entry) (j k t : ℕ) → T (subgoal_at (take j es) k t)
    → (k < j) × (k < length es) × T (is_subgoal (get_or es k blank).kind) × ((get_or es k blank).first ≡ t)
earlier_subgoal es j k t n =
    let low : k < min j (length es) = rw length-take at (subgoal_at_below (take j es) k t n) in
    let here = subst (λ (z : Entry). T (is_subgoal z.kind && nat_eq z.first t)) (get_or-take j es k blank (omega arith)) n in
    (omega arith, omega arith, and_l _ _ here, eqb-true _ _ (T_true _ (and_r (is_subgoal (get_or es k blank).kind) _ here)))

-- every subgoal starts steps to a broken state: the path read out
module _ (c : System) (es : List Entry) (so : Sound c es) where
  -- steps lead from s through r, which has a broken state
  abbrev pub Doomed : ℕ → List ℕ → Type 0
  Doomed s r = Steps c s r × ((t : ℕ) × Member t r × Broken c t)

  -- of a subgoal whose target is a safety clause, or an earlier subgoal whose own path is known
  onward : (j f : ℕ) → j ≤ f → (e : Entry) → Leading c (take j es) e
      → ((k : ℕ) → k < f → k < length es → T (is_subgoal (get_or es k blank).kind) → Doomed (get_or es k blank).first (path c es f k))
      → Doomed e.first (e.second ∷ cond (nat_lt e.third (length c.safety)) [] (path c es f (e.third - 256)))
  onward j f h e lead ih =
      elim (aimed_at c (take j es) e.third e.second lead.at) [
        | inl p ↦ rw p.0 ((lead.joined, tt), (e.second, inl refl, p.1))
        | inr p ↦ (let r = earlier_subgoal es j (e.third - 256) e.second p.1 in
            let d = ih (e.third - 256) (omega arith) r.1 r.2 in
            rw p.0 ((lead.joined, subst (λ s. Steps c s (path c es f (e.third - 256))) r.3 d.0), (d.1.0, inr d.1.1, d.1.2)))
      ]

  pub path_doomed : (f j : ℕ) → j < f → j < length es → T (is_subgoal (get_or es j blank).kind) → Doomed (get_or es j blank).first (path c es f j)
  path_doomed zero j h low k = absurd (let z : ⊥ = omega arith in z)
  path_doomed (suc f) j h low k =
      onward j f (omega arith) (get_or es j blank) (so.subgoals j low k) (λ i a b d. path_doomed f i a b d)

  -- a reached subgoal makes the system unsafe
  pub subgoal_unreached : Safe c → (e : Entry) → Member e es → T (is_subgoal e.kind) → Reached c e.first → ⊥
  subgoal_unreached safe e m k z =
      let r = member_at es e blank m in
      let d = path_doomed (length es) r.0 r.1 r.1 (subst (λ (z : Entry). T (is_subgoal z.kind)) (sym r.2) k) in
      safe_reached c safe d.1.0 (reached_steps c _ _ d.0 (subst (λ (x : Entry). Reached c x.first) (sym r.2) z) d.1.0 (inr d.1.1)) d.1.2

  -- a state meets the book where no safety clause is broken, every clause entry is true and no subgoal stands
  meets_by : (s : ℕ) → (Broken c s → ⊥) → ((e : Entry) → Member e es → T (is_clause e.kind) → T (clause (bit s) (clause_of e)))
      → ((e : Entry) → Member e es → T (is_subgoal e.kind) → s ≡ e.first → ⊥) → T (meets c es s)
  meets_by s b cl sg =
      and_i (clauses (bit s) c.safety) (admitted es s)
      (elim (cases_T (clauses (bit s) c.safety)) [ inl y ↦ y | inr n ↦ absurd (b n) ])
      (admitted_all es s (λ e m. admits_by e.kind e s (cl e m) (sg e m)))

  -- in a safe system every reached state meets the book
  safe_at : Safe c → (s : ℕ) → Reached c s → ((e : Entry) → Member e es → T (is_clause e.kind) → T (clause (bit s) (clause_of e))) → T (meets c es s)
  safe_at safe s z cl = meets_by s (safe_reached c safe s z) cl (λ e m k q. subgoal_unreached safe e m k (subst (Reached c) q z))

  pub safe_meets : Safe c → (s : ℕ) → Reached c s → T (meets c es s)
  safe_meets safe s z = (in_reached c (λ s. Reached c s × T (meets c es s)) start step s z).1
    where
      start : (s : ℕ) → Initial c s → Reached c s × T (meets c es s)
      start s h = let z = reached_initial c s h in (z, safe_at safe s z (λ e m k. (so.clause_entries e m k).initiated s h))

      step : (s t : ℕ) → Reached c s × T (meets c es s) → Step c s t → Reached c t × T (meets c es t)
      step s t p j = let z = reached_step c s t p.0 j in (z, safe_at safe t z (λ e m k. (so.clause_entries e m k).stepped s t p.1 j))

  -- where no initial state is broken or a subgoal, and no counterexample is left, to meet the book is inductive
  pub meets_inductive : Admitted c → ((s : ℕ) → Initial c s → Broken c s → ⊥) → ((e : Entry) → Member e es → T (is_subgoal e.kind) → Initial c e.first → ⊥)
      → NoCounterexample c es → Inductive c (λ s. true) (meets c es)
  meets_inductive adm unbroken uninitial none = (start, λ s t y p j. step s t p j)
    where
      start : (s : ℕ) → Initial c s → T (meets c es s)
      start s h = meets_by s (unbroken s h) (λ e m k. (so.clause_entries e m k).initiated s h) (λ e m k q. uninitial e m k (subst (Initial c) q h))

      step : (s t : ℕ) → T (meets c es s) → Step c s t → T (meets c es t)
      step s t p j =
          let to : (k : ℕ) → T (aimed c es k t) → ⊥ = λ k at. none k s t (record { before = p; joined = j; at = at }) in
          meets_by t
          (λ b. let r = false_clause (bit t) c.safety b in to r.0 (aimed_clause c es r.0 t r.1 r.2))
          (λ e m k. (so.clause_entries e m k).stepped s t p j)
          (λ e m k q.
          let r = member_at es e blank m in
          let there = and_i (is_subgoal e.kind) (nat_eq e.first t) k (T_of (eq-eqb _ _ (sym q))) in
          to (256 + r.0) (aimed_subgoal c es r.0 t adm.few.2 (subst (λ (x : Entry). T (is_subgoal x.kind && nat_eq x.first t)) (sym r.2) there)))

  -- and what is inductive so keeps the system safe
  pub inductive_safe : Inductive c (λ s. true) (meets c es) → Safe c
  inductive_safe i =
      reached_safe c (λ s z b. T_not _ b (and_l (clauses (bit s) c.safety) (admitted es s) (in_reached c (λ s. T (meets c es s)) i.0 (λ s t p j. i.1 s t tt p j) s z)))

-- Entries of a trail and clauses that they make false: resolution, and what a clause forces. Assumes nothing.
use Rattle.std.proofs.Common.{◌≡◌, ℕ, ◌+◌, ◌%◌, ◌^◌, ◌<◌, ◌≤◌, Bool, true, false, not, ◌&&◌, ◌||◌, T, eqb, ◌⊎◌, List, [], ◌∷◌, ◌++◌, length, get_or, take, Option, Some, None, sym, refl, ap, ◌∙◌, subst, inl, inr, arith}
use Rattle.std.specs.Option.{option_or}
use mathlib.Core.Bool.{not-not}
use Rattle.std.proofs.lemmas.List.{take_more, get_or_default}
use Rattle.std.proofs.lemmas.Bool.{true≢false, cases_eq, and_parts, and_from, or_cases, or_left, or_right, ne_eqb, eqb-false, not-true, not_from_false}
use Rattle.system.specs.Literals.{Valuation, bit, clauses}
use Rattle.masks.specs.Masks.{inside, none, Implied}
use Rattle.masks.specs.Questions.{Hopeless}
use Rattle.masks.specs.declared.mask.ClauseMask.{ClauseMask}
use Rattle.masks.proofs.Sets.{clash, inside_none, bit_of, in_variables, same_or_not, not_opposite}
use Rattle.trail.specs.Decisions.{has, Free, distinct}
use Rattle.trail.specs.Reasons.{Refuted, Forces, Reason, Because, Sound}
use Rattle.trail.specs.declared.decision.Decision.{Decision}
use Rattle.trail.specs.declared.decision.Forcing.{Forcing}
use Rattle.trail.specs.declared.decision.Forcing.TheVariants.{Assumed, Chosen, Forced}
use Rattle.trail.proofs.Deciding.{gives, gives_is, gives_own, has_push, has_between, not_both, fresh_at, distinct_take}
use Rattle.analysis.specs.Conflicts.{Named, ChosenAt, Lands, reason_of, Asserts}

-- the entry at i of the trail, and the entries before it
module _ (ds : List Decision) (i : ℕ) (d : Decision) (h : i < length ds) (is : d ≡ get_or ds i d) where
  has_here : (j : ℕ) (b : Bool) → has (take (i + 1) ds) j b ≡ (has (take i ds) j b || gives d j b)
  has_here j b = ap (λ xs. has xs j b) (take_more ds i d h ∙ ap (λ x. take i ds ++ x ∷ []) (sym is)) ∙ has_push (take i ds) d j b

  pub named_own : Named (take (i + 1) ds) d.variable
  named_own = (d.value, has_here _ _ ∙ or_right (has (take i ds) _ _) _ (gives_own d))

  -- a needed variable is still open, or has a value
  pub landing_step : (x r s j : ℕ) → s ≡ 2 ^ (d.variable % 128) → bit r j ≡ (bit x j && not (bit s j)) → (bit x j ≡ true) ⊎ Named (take i ds) j → (bit r j ≡ true) ⊎ Named (take (i + 1) ds) j
  landing_step x r s j e f (inl t) =
      elim (cases_eq j d.variable) [
        | inl q ↦ inr (subst (Named (take (i + 1) ds)) (sym q) named_own)
        | inr n ↦ inl (f ∙ and_from (bit x j) (not (bit s j)) t (ap not (bit_of s d.variable j d.small e ∙ ne_eqb _ _ n)))
      ]
  landing_step x r s j e f (inr (b, t)) = inr (b, has_between ds i (i + 1) j b (omega arith) t)

  -- another variable has its value from the entries before
  pub before : (j : ℕ) (b : Bool) → (j ≡ d.variable → ⊥) → has (take (i + 1) ds) j b ≡ true → has (take i ds) j b ≡ true
  before j b n t =
      elim (or_cases (has (take i ds) j b) (gives d j b) (sym (has_here j b) ∙ t))
      [ inl p ↦ p | inr g ↦ absurd (n (sym (gives_is d j b g).0)) ]

  pub fresh : distinct ds ≡ true → Free (take i ds) d.variable
  fresh once = subst (λ x. Free (take i ds) x.variable) (sym is) (fresh_at ds i d once h)

  module _ (once : distinct ds ≡ true) where
    -- the entry's variable has the entry's value
    pub own_value : (j : ℕ) (b : Bool) → j ≡ d.variable → has (take (i + 1) ds) j b ≡ true → d.value ≡ b
    own_value j b q t =
        elim (or_cases (has (take i ds) j b) (gives d j b) (sym (has_here j b) ∙ t)) [
          | inl p ↦ clash (has (take i ds) j b) p (subst (λ v. has (take i ds) v b ≡ false) (sym q) (fresh once b))
          | inr g ↦ (gives_is d j b g).1
        ]

    own_sign : (j : ℕ) (c : Bool) → j ≡ d.variable → has (take (i + 1) ds) j (not c) ≡ true → c ≡ not d.value
    own_sign j c q t = sym (not-not c) ∙ ap not (sym (own_value j (not c) q t))

    -- a clause that is false so far forces the other value of the entry's variable at an earlier entry
    asserts : (to : ℕ) (clause : ClauseMask) → to ≤ i → ((j : ℕ) (c : Bool) → inside clause j c ≡ true → (j ≡ d.variable → ⊥) → Named (take to ds) j)
        → Refuted clause (take (i + 1) ds) → Forces clause (take to ds) d.variable (not d.value)
    asserts to clause l others refuted j c t =
        elim (cases_eq j d.variable)
        [ inl q ↦ inl (q, own_sign j c q (refuted j c t)) | inr n ↦ inr (value (others j c t n)) ]
      where
        value : Named (take to ds) j → has (take to ds) j (not c) ≡ true
        value (b, k) =
            elim (same_or_not b c) [
              | inr s ↦ subst (λ x. has (take to ds) j x ≡ true) s k
              | inl s ↦ absurd (not_both (take (i + 1) ds) j c (distinct_take ds (i + 1) once) (subst (λ x. has (take (i + 1) ds) j x ≡ true) s (has_between ds to (i + 1) j b (omega arith) k)) (refuted j c t))
            ]

    asserts_here : (clause : ClauseMask) → Refuted clause (take (i + 1) ds) → Forces clause (take i ds) d.variable (not d.value)
    asserts_here clause refuted j c t =
        elim (cases_eq j d.variable)
        [ inl q ↦ inl (q, own_sign j c q (refuted j c t)) | inr n ↦ inr (before j (not c) n (refuted j c t)) ]

    -- the entry in its place
    at_place : (x : Decision) → d ≡ get_or ds i x
    at_place x = is ∙ get_or_default ds i d x h

    pub chosen_here : d.forcing ≡ Chosen → ChosenAt ds i
    chosen_here f x = ap (λ y. y.forcing) (sym (at_place x)) ∙ f

    -- a jump to the entry itself, where it is a choice
    pub asserts_itself : (clause : ClauseMask) (r : Option ℕ) → ((d.forcing ≡ Chosen) × (r ≡ Some i)) ⊎ ((d.forcing ≡ Chosen → ⊥) × (r ≡ None)) → Asserts ds i clause r
    asserts_itself clause r (inl (f, e)) =
        subst (Asserts ds i clause) (sym e) (
          omega arith,
          chosen_here f,
          λ x refuted. subst (λ y. Forces clause (take i ds) y.variable (not y.value)) (at_place x) (asserts_here clause refuted),
        )
    asserts_itself clause r (inr (n, e)) = subst (Asserts ds i clause) (sym e) (λ k. n (ap (λ y. y.forcing) is ∙ k d))

    -- or else to an earlier choice, before which each other variable of the clause has a value
    pub asserts_earlier : (clause : ClauseMask) (n : ℕ) (r o : Option ℕ)
        → ((j : ℕ) (c : Bool) → inside clause j c ≡ true → (j ≡ d.variable → ⊥) → bit n j ≡ true)
        → Lands ds i n r → Asserts ds i clause o → Asserts ds i clause (option_or r o)
    asserts_earlier clause n None o needed found rest = rest
    asserts_earlier clause n (Some to) o needed (l, chosen, all) rest = (
      l,
      chosen,
      λ x refuted. subst (λ y. Forces clause (take to ds) y.variable (not y.value)) (at_place x)
          (asserts to clause l (λ j c t k. all j (needed j c t k)) refuted),
    )

    -- a clause without the entry's variable
    pub passed : (clause : ClauseMask) → ((c : Bool) → inside clause d.variable c ≡ false) → Refuted clause (take (i + 1) ds) → Refuted clause (take i ds)
    passed clause f refuted j c t =
        before j (not c) (λ q. true≢false (sym t ∙ subst (λ v. inside clause v c ≡ false) (sym q) (f c))) (refuted j c t)

-- the literals of a reason but that of the variable are false
reason_false : (base : List (List ℕ)) (ds : List Decision) (v : ℕ) (b : Bool) (f : Forcing) → Reason base ds v b f → (j : ℕ) (c : Bool) → inside (reason_of f) j c ≡ true → (j ≡ v → ⊥) → has ds j (not c) ≡ true
reason_false base ds v b Assumed r j c t n = clash (inside none j c) t (inside_none j c)
reason_false base ds v b Chosen r j c t n = clash (inside none j c) t (inside_none j c)
reason_false base ds v b (Forced m) r j c t n = elim (r.1 j c t) [ inl e ↦ absurd (n e.0) | inr h ↦ h ]

-- what forced a decision rules out the other value, where the rest of its clause is false
other_value : (base : List (List ℕ)) (ds : List Decision) (v : ℕ) (b : Bool) (f : Forcing) → (f ≡ Chosen → ⊥) → Free ds v → Reason base ds v b f
    → (a : Valuation) → T (clauses a base) → ((j : ℕ) (c : Bool) → inside (reason_of f) j c ≡ true → (j ≡ v → ⊥) → a j ≡ not c) → a v ≡ not b → ⊥
other_value base ds v b Assumed k free r a mods rest o = not_opposite b (sym (r a mods) ∙ o)
other_value base ds v b Chosen k free r a mods rest o = k refl
other_value base ds v b (Forced m) k free r a mods rest o =
    r.0 a mods (λ j c t. elim (cases_eq j v) [ inl q ↦ own j c t q (r.1 j c t) | inr n ↦ rest j c t n ])
  where
    own : (j : ℕ) (c : Bool) → inside m j c ≡ true → j ≡ v → ((j ≡ v) × (c ≡ b)) ⊎ (has ds j (not c) ≡ true) → a j ≡ not c
    own j c t q (inl e) = ap a q ∙ o ∙ ap not (sym e.1)
    own j c t q (inr h) = clash (has ds j (not c)) h (subst (λ x. has ds x (not c) ≡ false) (sym q) (free (not c)))

-- resolving with what forced the entry at i
module _ (base : List (List ℕ)) (ds : List Decision) (i : ℕ) (d : Decision) (h : i < length ds) (is : d ≡ get_or ds i d) (clause r : ClauseMask) (once : distinct ds ≡ true)
    (f : (j : ℕ) (b : Bool) → inside r j b ≡ ((inside clause j b || inside (reason_of d.forcing) j b) && not (eqb j d.variable)))
    (sound : Sound base ds) where
  stands : Because base (take i ds) d
  stands = subst (Because base (take i ds)) (sym is) (sound i d h)

  kept : (j : ℕ) (c : Bool) → inside r j c ≡ true → (j ≡ d.variable → ⊥) × ((inside clause j c ≡ true) ⊎ (inside (reason_of d.forcing) j c ≡ true))
  kept j c t =
      let p = and_parts (inside clause j c || inside (reason_of d.forcing) j c) (not (eqb j d.variable)) (sym (f j c) ∙ t) in
      (eqb-false j d.variable (not-true _ p.1), or_cases (inside clause j c) (inside (reason_of d.forcing) j c) p.0)

  into : (j : ℕ) (c : Bool) → (j ≡ d.variable → ⊥) → (inside clause j c || inside (reason_of d.forcing) j c) ≡ true → inside r j c ≡ true
  into j c n t = f j c ∙ and_from (inside clause j c || inside (reason_of d.forcing) j c) (not (eqb j d.variable)) t (not_from_false _ (ne_eqb j _ n))

  pub reduce_refuted : Refuted clause (take (i + 1) ds) → Refuted r (take i ds)
  reduce_refuted refuted j c t =
      let k = kept j c t in
      elim k.1 [
        | inl p ↦ before ds i d h is j (not c) k.0 (refuted j c p)
        | inr q ↦ reason_false base (take i ds) d.variable d.value d.forcing stands j c q k.0
      ]

  pub reduce_implied : (d.forcing ≡ Chosen → ⊥) → Refuted clause (take (i + 1) ds) → Implied base clause → Implied base r
  reduce_implied n refuted implied a mods fails =
      elim (same_or_not (a d.variable) d.value) [
        | inl q ↦ implied a mods (λ j c t. elim (cases_eq j d.variable) [
          | inl w ↦ ap a w ∙ q ∙ own_value ds i d h is once j (not c) w (refuted j c t)
          | inr x ↦ fails j c (into j c x (or_left (inside clause j c) (inside (reason_of d.forcing) j c) t))
        ])
        | inr q ↦ other_value base (take i ds) d.variable d.value d.forcing n (fresh ds i d h is once) stands a mods
            (λ j c t x. fails j c (into j c x (or_right (inside clause j c) (inside (reason_of d.forcing) j c) t))) q
      ]

-- a clause that is false before any decision has no literal
pub empty_hopeless : (base : List (List ℕ)) (clause : ClauseMask) → Refuted clause [] → Implied base clause → Hopeless base
empty_hopeless base clause refuted implied a mods = implied a mods (λ j c t. absurd (true≢false (sym (refuted j c t))))

-- a variable of a clause other than v is needed
pub needed_bit : (m : ClauseMask) (x y s v j : ℕ) (c : Bool) → v < 128 → s ≡ 2 ^ (v % 128) → ((i : ℕ) → bit x i ≡ (inside m i true || inside m i false)) → ((i : ℕ) → bit y i ≡ (bit x i && not (bit s i)))
    → inside m j c ≡ true → (j ≡ v → ⊥) → bit y j ≡ true
needed_bit m x y s v j c h e f g t n =
    g j ∙ and_from (bit x j) (not (bit s j)) (f j ∙ in_variables m j c t) (ap not (bit_of s v j h e ∙ ne_eqb j v n))

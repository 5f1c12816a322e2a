-- Assignments in their order: where no assignment before one serves, and it does not, none before the next does. Assumes nothing.
use Rattle.std.proofs.Common.{◌≡◌, ℕ, zero, suc, ◌+◌, ◌^◌, ◌<◌, ◌≤◌, Bool, true, false, not, ◌&&◌, T, ◌⊎◌, List, Some, None, Option, is_none, refl, sym, ap, ap₂, ◌∙◌, subst, inl, inr, arith, pow_mono}
use Rattle.std.proofs.lemmas.Bool.{cases_Bool, cases_lt, cases_order, true≢false, and_from, and_parts, not-true}
use Rattle.system.specs.Literals.{Valuation, bit, clauses}
use Rattle.system.proofs.Bits.{bit_none, bit_above}
use Rattle.masks.specs.Masks.{inside, mask_of, Fails, Apart, Meets}
use Rattle.masks.specs.declared.mask.ClauseMask.{ClauseMask}
use Rattle.masks.proofs.Sets.{clash}
use Rattle.masks.proofs.Meaning.{listed_in, unit_apart}
use Rattle.masks.proofs.Asked.{among_implied}
use Rattle.masks.specs.Questions.{unit, Given, Within, Among, Checked, AllMet, AllKept}
use Rattle.counting.specs.Orders.{Before, Stepped, opposed}

-- at each variable of x from i on, below k, a test holds
abbrev Holds : ℕ → ℕ → ℕ → (ℕ → Bool) → Type 0
Holds i k x p = (u : ℕ) → i ≤ u → u < k → bit x u ≡ true → p u ≡ true

-- there is a first of these at which it fails
abbrev FailsFirst : ℕ → ℕ → ℕ → (ℕ → Bool) → Type 0
FailsFirst i k x p = (v : ℕ) × (i ≤ v) × (v < k) × (bit x v ≡ true) × (p v ≡ false) × Holds i v x p

first : (n i x : ℕ) (p : ℕ → Bool) → FailsFirst i (i + n) x p ⊎ Holds i (i + n) x p
first zero i x p = inr (λ u h l e. absurd (let z : ⊥ = omega arith in z))
first (suc n) i x p = go (cases_Bool (bit x i)) (cases_Bool (p i)) (first n (suc i) x p)
  where
    more : (k : ℕ) → (bit x i ≡ true → p i ≡ true) → Holds (suc i) k x p → Holds i k x p
    more k f g u h l t = elim (cases_order i u) [ inl q ↦ subst (λ w. p w ≡ true) q (f (subst (λ w. bit x w ≡ true) (sym q) t)) | inr o ↦ g u (omega arith) l t ]

    here : (bit x i ≡ true → p i ≡ true) → FailsFirst (suc i) (suc i + n) x p ⊎ Holds (suc i) (suc i + n) x p → FailsFirst i (i + suc n) x p ⊎ Holds i (i + suc n) x p
    here f (inl (v, l, h, b, e, g)) = inl (v, omega arith, omega arith, b, e, more v f g)
    here f (inr g) = inr (λ u h l. more (suc i + n) f g u h (omega arith))

    go : (bit x i ≡ true) ⊎ (bit x i ≡ false) → (p i ≡ true) ⊎ (p i ≡ false) → FailsFirst (suc i) (suc i + n) x p ⊎ Holds (suc i) (suc i + n) x p
        → FailsFirst i (i + suc n) x p ⊎ Holds i (i + suc n) x p
    go (inl b) (inr e) r = inl (i, omega arith, omega arith, b, e, λ u m k t. absurd (let z : ⊥ = omega arith in z))
    go (inl b) (inl t) r = here (λ c. t) r
    go (inr b) t r = here (λ c. clash (bit x i) c b) r

-- x are the variables that occur, t those that are true and f those that are false
module _ (x t f : ℕ) (fits : x < 2 ^ 128) (falses : (j : ℕ) → bit f j ≡ (bit x j && not (bit t j))) (P : Valuation → Type 0)
    (early : (a : Valuation) → Before x a t → P a → ⊥)
    (here : (a : Valuation) → ((u : ℕ) → bit x u ≡ true → a u ≡ bit t u) → P a → ⊥) where
  small : (u : ℕ) → bit x u ≡ true → u < 128
  small u h = elim (cases_lt u 128) [ inl l ↦ l | inr g ↦ clash (bit x u) h (bit_above x u (let m = pow_mono {i = 128} {j = u} g in omega arith)) ]

  true_of : (u : ℕ) → bit x u ≡ true → bit f u ≡ false → bit t u ≡ true
  true_of u h e = elim (cases_Bool (bit t u)) [ inl p ↦ p | inr n ↦ clash (bit f u) (falses u ∙ and_from (bit x u) (not (bit t u)) h (ap not n)) e ]

  -- where all are true, no assignment is left
  pub none_left : f ≡ 0 → (a : Valuation) → P a → ⊥
  none_left e a p = go (first 128 0 x a)
    where
      all : (u : ℕ) → bit x u ≡ true → bit t u ≡ true
      all u h = true_of u h (ap (λ y. bit y u) e ∙ bit_none u)

      go : FailsFirst 0 (0 + 128) x a ⊎ Holds 0 (0 + 128) x a → ⊥
      go (inl (v, l, h, b, n, g)) = early a (v, (λ u d c. g u (omega arith) d c ∙ sym (all u c)), b, n, all v b) p
      go (inr g) = here a (λ u c. g u (omega arith) (let s = small u c in omega arith) c ∙ sym (all u c)) p

  -- none before the next serves
  pub next_early : (r q : ℕ) → Stepped t f r q → (a : Valuation) → Before x a r → P a → ⊥
  next_early r q s a (v, agree, b, n, e) p = go (cases_order v q)
    where
      own : (bit x q ≡ true) × (not (bit t q) ≡ true)
      own = and_parts (bit x q) (not (bit t q)) (sym (falses q) ∙ s.last)

      later : (u : ℕ) → q < u → bit x u ≡ true → bit t u ≡ true
      later u d c = true_of u c (s.above u d)

      agrees : v ≡ q → (k : ℕ) → Holds (suc q) k x a → (u : ℕ) → u < k → bit x u ≡ true → a u ≡ bit t u
      agrees i k g u l c =
          elim (cases_order u q) [
            | inl j ↦ ap a (j ∙ sym i) ∙ n ∙ sym (ap (bit t) j ∙ not-true (bit t q) own.1)
            | inr (inl j) ↦ agree u (omega arith) c ∙ s.same u j
            | inr (inr j) ↦ g u (omega arith) l c ∙ sym (later u j c)
          ]

      at_q : v ≡ q → FailsFirst (suc q) (suc q + 128) x a ⊎ Holds (suc q) (suc q + 128) x a → ⊥
      at_q i (inl (w, l, h, c, m, g)) = early a (w, agrees i w g, c, m, later w (omega arith) c) p
      at_q i (inr g) = here a (λ u c. agrees i (suc q + 128) g u (let z = small u c in omega arith) c) p

      go : (v ≡ q) ⊎ ((v < q) ⊎ (q < v)) → ⊥
      go (inl i) = at_q i (first 128 (suc q) x a)
      go (inr (inl d)) = early a (v, (λ u k c. agree u k c ∙ s.same u (omega arith)), b, n, sym (s.same v d) ∙ e) p
      go (inr (inr d)) = true≢false (sym e ∙ s.cleared v d)

-- a clause with no literal among those of an assignment fails wherever the assignment is followed
missed_fails : (x t f : ℕ) (m : ClauseMask) → ((j : ℕ) → bit f j ≡ (bit x j && not (bit t j))) → Within x m → Apart m (record { positive = t; negative = f })
    → (a : Valuation) → ((u : ℕ) → bit x u ≡ true → a u ≡ bit t u) → Fails a m
missed_fails x t f m falses within apart a agree j true h = agree j (within j true h) ∙ apart j true h
missed_fails x t f m falses within apart a agree j false h =
    agree j (within j false h)
    ∙ elim (cases_Bool (bit t j)) [ inl p ↦ p | inr n ↦ clash (bit f j) (falses j ∙ and_from (bit x j) (not (bit t j)) (within j false h) (ap not n)) (apart j false h) ]

-- where the opposite of an assumed literal is in an assignment, the literal is not
turned : (m : ClauseMask) (j : ℕ) (b : Bool) → inside (opposed m) j b ≡ true → inside m j (not b) ≡ true
turned m j true t = t
turned m j false t = t

other_value : (s : ClauseMask) → ((j : ℕ) → bit s.positive j ≡ true → bit s.negative j ≡ true → ⊥) → (j : ℕ) (b : Bool) → inside s j b ≡ true → inside s j (not b) ≡ false
other_value s once j true h = elim (cases_Bool (bit s.negative j)) [ inl p ↦ absurd (once j h p) | inr n ↦ n ]
other_value s once j false h = elim (cases_Bool (bit s.positive j)) [ inl p ↦ absurd (once j p h) | inr n ↦ n ]

pub opposite_missed : (masks : List ClauseMask) (assumed : List ℕ) (set m : ClauseMask) → m ≡ opposed (mask_of assumed) → ((j : ℕ) → bit set.positive j ≡ true → bit set.negative j ≡ true → ⊥)
    → Meets m set → (x : ClauseMask) × Checked masks assumed set (Some x)
opposite_missed masks assumed set m e once (j, b, i, h) =
    let (l, c, p, q) = listed_in assumed j (not b) (turned (mask_of assumed) j b (subst (λ n. inside n j b ≡ true) e i)) in
    (unit l, (inr (l, c, refl), unit_apart l set (ap₂ (inside set) (sym p) (sym q) ∙ other_value set once j b h)))

-- no variable is both true and false
pub one_value : (x t f : ℕ) → ((j : ℕ) → bit f j ≡ (bit x j && not (bit t j))) → (j : ℕ) → bit t j ≡ true → bit f j ≡ true → ⊥
one_value x t f falses j p q = clash (bit t j) p (not-true (bit t j) (and_parts (bit x j) (not (bit t j)) (sym (falses j) ∙ q)).1)

-- where no clause is unmet all are met, and where one is no valuation that follows the assignment makes base true
pub all_met : (masks : List ClauseMask) (assumed : List ℕ) (set : ClauseMask) (r : Option ClauseMask) → Checked masks assumed set r → is_none r ≡ true → AllMet masks set × AllKept assumed set
all_met masks assumed set None found e = found
all_met masks assumed set (Some m) found e = absurd (true≢false (sym e))

pub not_here : (masks : List ClauseMask) (assumed : List ℕ) (base : List (List ℕ)) (x t f : ℕ) (r : Option ClauseMask) → ((j : ℕ) → bit f j ≡ (bit x j && not (bit t j)))
    → ((m : ClauseMask) → Among masks assumed m → Within x m) → Checked masks assumed (record { positive = t; negative = f }) r → is_none r ≡ false
    → Given masks assumed base → (a : Valuation) → ((u : ℕ) → bit x u ≡ true → a u ≡ bit t u) → T (clauses a base) → ⊥
not_here masks assumed base x t f None falses within found e given a agree sat = true≢false e
not_here masks assumed base x t f (Some m) falses within found e given a agree sat =
    among_implied base masks assumed m given found.0 a sat (missed_fails x t f m falses (within m found.0) found.1 a agree)

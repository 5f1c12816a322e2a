-- Outcomes of descents over few places. Assumes nothing.
use Rattle.std.proofs.Common.{ℕ, zero, suc, ◌<◌, List, [], ◌∷◌, sym, refl, subst, arith}
use Rattle.sieve.specs.Marks.{Marks, Largest}
use Rattle.sieve.proofs.Descents.{largest_only}
use Rattle.worked.specs.Descents.{DescendsTo}

module _ (places : ℕ) (family : List ℕ → Type 0) (given out : List ℕ) where
  -- a largest closed set is the only one
  pub outcome : Largest places family given out → DescendsTo places family given out
  outcome l M = (λ m. largest_only places family given M out m l, λ e. subst (Largest places family given) (sym e) l)

-- closed marks are the largest within themselves
module _ (places : ℕ) (family : List ℕ → Type 0) (given : List ℕ) (m : Marks places given) (f : family given) where
  pub itself : Largest places family given given
  itself = record { marks = m; stable = f; within = λ i t. t; greatest = λ N n k w. w }

  pub stays : DescendsTo places family given given
  stays = outcome places family given given itself

-- written marks
pub marks1 : (x : ℕ) → x < 2 → Marks 1 (x ∷ [])
marks1 x p = (refl, (p, tt))

pub marks2 : (x y : ℕ) → x < 2 → y < 2 → Marks 2 (x ∷ y ∷ [])
marks2 x y p q = (refl, (p, (q, tt)))

pub marks3 : (x y z : ℕ) → x < 2 → y < 2 → z < 2 → Marks 3 (x ∷ y ∷ z ∷ [])
marks3 x y z p q r = (refl, (p, (q, (r, tt))))

-- what holds of the digits 0 and 1 holds of every number below 2
digit : (P : ℕ → Type 0) → P 0 → P 1 → (x : ℕ) → x < 2 → P x
digit P a b zero h = a
digit P a b (suc zero) h = b
digit P a b (suc (suc x)) h = absurd (let z : ⊥ = omega arith in z)

-- what holds of the marks that can be written holds of all
pub one_place : (P : List ℕ → Type 0) → P (0 ∷ []) → P (1 ∷ []) → (M : List ℕ) → Marks 1 M → P M
one_place P a b [] m = absurd (let z : ⊥ = omega (arith, m.0) in z)
one_place P a b (x ∷ []) m = digit (λ y. P (y ∷ [])) a b x m.1.0
one_place P a b (x ∷ y ∷ M) m = absurd (let z : ⊥ = omega (arith, m.0) in z)

pub two_places : (P : List ℕ → Type 0) → P (0 ∷ 0 ∷ []) → P (0 ∷ 1 ∷ []) → P (1 ∷ 0 ∷ []) → P (1 ∷ 1 ∷ []) → (M : List ℕ) → Marks 2 M → P M
two_places P a b c d [] m = absurd (let z : ⊥ = omega (arith, m.0) in z)
two_places P a b c d (x ∷ []) m = absurd (let z : ⊥ = omega (arith, m.0) in z)
two_places P a b c d (x ∷ y ∷ []) m =
    digit (λ u. P (u ∷ y ∷ [])) (digit (λ v. P (0 ∷ v ∷ [])) a b y m.1.1.0) (digit (λ v. P (1 ∷ v ∷ [])) c d y m.1.1.0) x m.1.0
two_places P a b c d (x ∷ y ∷ z ∷ M) m = absurd (let z : ⊥ = omega (arith, m.0) in z)

pub three_places : (P : List ℕ → Type 0) → P (0 ∷ 0 ∷ 0 ∷ []) → P (0 ∷ 0 ∷ 1 ∷ []) → P (0 ∷ 1 ∷ 0 ∷ []) → P (0 ∷ 1 ∷ 1 ∷ []) → ((x y : ℕ) → P (1 ∷ x ∷ y ∷ [])) → (M : List ℕ) → Marks 3 M → P M
three_places P a b c d e [] m = absurd (let z : ⊥ = omega (arith, m.0) in z)
three_places P a b c d e (x ∷ []) m = absurd (let z : ⊥ = omega (arith, m.0) in z)
three_places P a b c d e (x ∷ y ∷ []) m = absurd (let z : ⊥ = omega (arith, m.0) in z)
three_places P a b c d e (x ∷ y ∷ z ∷ []) m =
    let u = digit (λ v. P (0 ∷ 0 ∷ v ∷ [])) a b z m.1.1.1.0 in
    let w = digit (λ v. P (0 ∷ 1 ∷ v ∷ [])) c d z m.1.1.1.0 in
    digit (λ t. P (t ∷ y ∷ z ∷ [])) (digit (λ t. P (0 ∷ t ∷ z ∷ [])) u w y m.1.1.0) (e y z) x m.1.0
three_places P a b c d e (x ∷ y ∷ z ∷ w ∷ M) m = absurd (let z : ⊥ = omega (arith, m.0) in z)

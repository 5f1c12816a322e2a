-- Sets of literals by membership. Assumes nothing.
use Rattle.std.proofs.Common.{◌≡◌, ℕ, zero, suc, ◌-◌, ◌/◌, ◌%◌, ◌^◌, ◌<◌, ◌≤◌, pow_mono, Bool, true, false, not, ◌&&◌, ◌||◌, eqb, ◌⊎◌, MatchBool, sym, refl, ap, ◌∙◌, subst, inl, inr, mod-eq_of_lt, arith}
use mathlib.Core.Bool.{beq, and-true, and-false, or-false}
use lib.Bits.{bit_and, bit_or, or_lt}
use lib.Count.{count_trailing_zeros}
use Rattle.std.proofs.lemmas.Bool.{true≢false, cases_Bool, cases_eq, cases_lt, and_parts, and_from, or_cases, or_parts, or_left, or_right, eq-eqb, ne_eqb, eqb-true, not-true}
use Rattle.std.proofs.lemmas.Nat.Bits.{bit_at_not}
use Rattle.std.specs.Int.{bit_not, w128}
use Rattle.std.specs.Cmp.{booleans_Decides}
use Rattle.system.specs.Literals.{bit}
use Rattle.system.proofs.Bits.{bit_of_and, bit_of_or, bit_none, bit_pow, bit_above, Lowest, lowest, second}
use Rattle.masks.specs.Masks.{inside, none, with_value, Meets, Apart}
use Rattle.masks.specs.Standings.{Unassigned, Alone, AllFalse, TwoOpen, Stands}
use Rattle.masks.specs.declared.mask.Standing.TheVariants.{Open, Forces}
use Rattle.masks.specs.declared.mask.ClauseMask.{ClauseMask}

-- a and not b
pub bit_and_not : (a b j : ℕ) → a < 2 ^ 128 → b < 2 ^ 128 → bit (bit_and a (bit_not w128 b)) j ≡ (bit a j && not (bit b j))
bit_and_not a b j h k = bit_of_and a (bit_not w128 b) j ∙ go (cases_lt j 128)
  where
    flipped : (d : ℕ) → d < 2 → eqb (1 - d) 1 ≡ not (eqb d 1)
    flipped zero l = refl
    flipped (suc zero) l = refl
    flipped (suc (suc d)) l = absurd (let z : ⊥ = omega arith in z)

    go : (j < 128) ⊎ (128 ≤ j) → (bit a j && bit (bit_not w128 b) j) ≡ (bit a j && not (bit b j))
    go (inl l) = ap (λ x. bit a j && x) (ap (λ x. eqb x 1) (bit_at_not w128 b j k l) ∙ flipped (b / 2 ^ j % 2) (omega arith))
    go (inr g) =
        let n : bit a j ≡ false = bit_above a j (let m = pow_mono {i = 128} {j = j} g in omega arith) in
        ap (λ x. x && bit (bit_not w128 b) j) n ∙ sym (ap (λ x. x && not (bit b j)) n)

-- a test that cannot be both
pub clash : {A : Type 0} (b : Bool) → b ≡ true → b ≡ false → A
clash b t f = absurd (true≢false (sym t ∙ f))

pub beq_same : (b : Bool) → beq b b ≡ true
beq_same b = (booleans_Decides b b).1 refl

pub beq_true : (a b : Bool) → beq a b ≡ true → a ≡ b
beq_true a b = (booleans_Decides a b).0

-- two tests agree or are opposite, and not both
pub same_or_not : (x y : Bool) → (x ≡ y) ⊎ (x ≡ not y)
same_or_not true true = inl refl
same_or_not true false = inr refl
same_or_not false true = inr refl
same_or_not false false = inl refl

pub not_opposite : (x : Bool) → x ≡ not x → ⊥
not_opposite true q = true≢false q
not_opposite false q = true≢false (sym q)

-- the other number, where one of two is set
common : (x y j : ℕ) → bit (bit_and x y) j ≡ true → (bit x j ≡ true) × (bit y j ≡ true)
common x y j h = and_parts (bit x j) (bit y j) (sym (bit_of_and x y j) ∙ h)

shared_none : (x y j : ℕ) → bit (bit_and x y) j ≡ false → bit x j ≡ true → bit y j ≡ false
shared_none x y j h t = go (bit x j) (bit y j) (sym (bit_of_and x y j) ∙ h) t
  where
    go : (p q : Bool) → (p && q) ≡ false → p ≡ true → q ≡ false
    go true q e t = e
    go false q e t = clash false t refl

module _ (m s : ClauseMask) where
  both : ℕ
  both = bit_or (bit_and m.positive s.positive) (bit_and m.negative s.negative)

  pub meets_test : bit_or (bit_and m.positive s.positive) (bit_and m.negative s.negative) < 2 ^ 128 → MatchBool (not (eqb (bit_or (bit_and m.positive s.positive) (bit_and m.negative s.negative)) 0)) (Meets m s) (Apart m s)
  unfolding both
  meets_test h = go (cases_eq both 0)
    where
      found : (j : ℕ) → bit both j ≡ true → Meets m s
      found j t =
          elim (or_cases (bit (bit_and m.positive s.positive) j) (bit (bit_and m.negative s.negative) j) (sym (bit_of_or _ _ j) ∙ t)) [
            | inl p ↦ (let r = common m.positive s.positive j p in (j, true, r.0, r.1))
            | inr n ↦ (let r = common m.negative s.negative j n in (j, false, r.0, r.1))
          ]

      apart : both ≡ 0 → Apart m s
      apart e j true t =
          let q = or_parts (bit (bit_and m.positive s.positive) j) (bit (bit_and m.negative s.negative) j) (sym (bit_of_or _ _ j) ∙ ap (λ x. bit x j) e ∙ bit_none j) in
          shared_none m.positive s.positive j q.0 t
      apart e j false t =
          let q = or_parts (bit (bit_and m.positive s.positive) j) (bit (bit_and m.negative s.negative) j) (sym (bit_of_or _ _ j) ∙ ap (λ x. bit x j) e ∙ bit_none j) in
          shared_none m.negative s.negative j q.1 t

      go : (both ≡ 0) ⊎ (both ≡ 0 → ⊥) → MatchBool (not (eqb both 0)) (Meets m s) (Apart m s)
      go (inl e) = subst (λ b. MatchBool (not b) (Meets m s) (Apart m s)) (sym (eq-eqb both 0 e)) (apart e)
      go (inr n) =
          let l = lowest 128 both (omega arith) h in
          subst (λ b. MatchBool (not b) (Meets m s) (Apart m s)) (sym (ne_eqb both 0 n)) (found _ l.is)

-- a clause of which no literal is true, by its variables that have no value, the plain p and the negated n
module _ (m s : ClauseMask) (p n k : ℕ)
    (apart : Apart m s)
    (known : (j : ℕ) → bit k j ≡ (inside s j true || inside s j false))
    (plain : (j : ℕ) → bit p j ≡ (bit m.positive j && not (bit k j)))
    (negated : (j : ℕ) → bit n j ≡ (bit m.negative j && not (bit k j))) where
  abbrev o : ClauseMask
  o = record { positive = p; negative = n }

  opens : (j : ℕ) (b : Bool) → inside o j b ≡ (inside m j b && not (bit k j))
  opens j true = plain j
  opens j false = negated j

  opposite : (j : ℕ) (b : Bool) → inside m j b ≡ true → bit k j ≡ true → inside s j (not b) ≡ true
  opposite j true t h =
      elim (or_cases (inside s j true) (inside s j false) (sym (known j) ∙ h))
      [ inl e ↦ clash (inside s j true) e (apart j true t) | inr e ↦ e ]
  opposite j false t h =
      elim (or_cases (inside s j true) (inside s j false) (sym (known j) ∙ h))
      [ inl e ↦ e | inr e ↦ clash (inside s j false) e (apart j false t) ]

  open_or_false : (j : ℕ) (b : Bool) → inside m j b ≡ true → (inside o j b ≡ true) ⊎ (inside s j (not b) ≡ true)
  open_or_false j b t =
      elim (cases_Bool (bit k j))
      [ inl h ↦ inr (opposite j b t h) | inr n ↦ inl (opens j b ∙ and_from (inside m j b) (not (bit k j)) t (ap not n)) ]

  free : (j : ℕ) (b : Bool) → inside o j b ≡ true → Unassigned s j
  free j b t c =
      let q = (and_parts (inside m j b) (not (bit k j)) (sym (opens j b) ∙ t)).1 in
      let e = or_parts (inside s j true) (inside s j false) (sym (known j) ∙ not-true (bit k j) q) in
      elim c as (λ x. inside s j x ≡ false) [ true ↦ e.0 | false ↦ e.1 ]

  some_of : (j : ℕ) (b : Bool) → inside o j b ≡ true → bit (bit_or p n) j ≡ true
  some_of j true t = bit_of_or _ _ j ∙ or_left (bit p j) (bit n j) t
  some_of j false t = bit_of_or _ _ j ∙ or_right (bit p j) (bit n j) t

  pub none_open : bit_or p n ≡ 0 → AllFalse m s
  none_open e j b t =
      elim (open_or_false j b t)
      [ inl q ↦ clash (bit (bit_or p n) j) (some_of j b q) (ap (λ x. bit x j) e ∙ bit_none j) | inr q ↦ q ]

  -- where just one is left, and no literal of it with the other sign, it is forced
  pub one_open : (b : Bool) → p < 2 ^ 128 → n < 2 ^ 128 → (bit_or p n ≡ 0 → ⊥) → bit_or p n ≡ 2 ^ (count_trailing_zeros 128 (bit_or p n) % 128) → ((j : ℕ) → inside o j (not b) ≡ false)
      → Stands m s (Forces (record { variable = count_trailing_zeros 128 (bit_or p n); value = b }))
  one_open b pl nl z e other = (first.small, own (or_cases (bit p v) (bit n v) (sym (bit_of_or p n v) ∙ first.is)), unassigned, alone)
    where
      first : Lowest 128 (bit_or p n) (count_trailing_zeros 128 (bit_or p n))
      first = lowest 128 (bit_or p n) (omega arith) (or_lt 128 p n pl nl)

      v : ℕ
      v = count_trailing_zeros 128 (bit_or p n)

      unassigned : Unassigned s v
      unassigned = elim (or_cases (bit p v) (bit n v) (sym (bit_of_or p n v) ∙ first.is)) [ inl q ↦ free v true q | inr q ↦ free v false q ]

      same : (c d : Bool) (j : ℕ) → ((i : ℕ) → inside o i (not d) ≡ false) → inside o j c ≡ true → c ≡ d
      same true true j f t = refl
      same true false j f t = clash (inside o j true) t (f j)
      same false true j f t = clash (inside o j false) t (f j)
      same false false j f t = refl

      from_open : (c : Bool) → inside o v c ≡ true → inside m v b ≡ true
      from_open c t = subst (λ x. inside m v x ≡ true) (same c b v other t) (and_parts (inside m v c) (not (bit k v)) (sym (opens v c) ∙ t)).0

      own : (bit p v ≡ true) ⊎ (bit n v ≡ true) → inside m v b ≡ true
      own (inl q) = from_open true q
      own (inr q) = from_open false q

      alone : Alone m s v b
      alone j c t =
          elim (open_or_false j c t) [
            | inl q ↦ inl (eqb-true j v (sym (ap (λ x. bit x j) (e ∙ ap (λ x. 2 ^ x) (mod-eq_of_lt first.small)) ∙ bit_pow v j) ∙ some_of j c q), same c b j other q)
            | inr q ↦ inr q
          ]

  signed : (j : ℕ) → bit (bit_or p n) j ≡ true → (b : Bool) × (inside o j b ≡ true)
  signed j t = elim (or_cases (bit p j) (bit n j) (sym (bit_of_or p n j) ∙ t)) [ inl q ↦ (true, q) | inr q ↦ (false, q) ]

  two : (i j : ℕ) (b c : Bool) → inside o i b ≡ true → inside o j c ≡ true → (i ≡ j → b ≡ c → ⊥) → TwoOpen m s
  two i j b c t u d =
      record {
        one = i;
        one_sign = b;
        one_inside = (and_parts (inside m i b) (not (bit k i)) (sym (opens i b) ∙ t)).0;
        one_open = free i b t;
        other = j;
        other_sign = c;
        other_inside = (and_parts (inside m j c) (not (bit k j)) (sym (opens j c) ∙ u)).0;
        other_open = free j c u;
        different = d;
      }

  -- where literals of more than one variable are left
  pub more_open : p < 2 ^ 128 → n < 2 ^ 128 → (bit_or p n ≡ 0 → ⊥) → (bit_or p n ≡ 2 ^ (count_trailing_zeros 128 (bit_or p n) % 128) → ⊥) → Stands m s Open
  more_open pl nl z e =
      let l = or_lt 128 p n pl nl in
      let first = lowest 128 (bit_or p n) (omega arith) l in
      let next = second 128 (bit_or p n) _ l first (λ f. e (f ∙ ap (λ x. 2 ^ x) (sym (mod-eq_of_lt first.small)))) in
      let one = signed _ first.is in
      let other = signed next.0 next.2 in
      (apart, two _ next.0 one.0 other.0 one.1 other.1 (λ f g. let a = next.1 in omega arith))

  -- where a plain literal and a negated one are left
  pub both_open : p < 2 ^ 128 → n < 2 ^ 128 → (p ≡ 0 → ⊥) → (n ≡ 0 → ⊥) → Stands m s Open
  both_open pl nl a b =
      let one = lowest 128 p (omega arith) pl in
      let other = lowest 128 n (omega arith) nl in
      (apart, two _ _ true false one.is other.is (λ f g. true≢false g))

eqb_swap : (i j : ℕ) → eqb i j ≡ eqb j i
eqb_swap i j = elim (cases_eq i j) [ inl e ↦ eq-eqb i j e ∙ sym (eq-eqb j i (sym e)) | inr n ↦ ne_eqb i j n ∙ sym (ne_eqb j i (λ e. n (sym e))) ]

-- the bits of the set of one variable
pub bit_of : (s v j : ℕ) → v < 128 → s ≡ 2 ^ (v % 128) → bit s j ≡ eqb j v
bit_of s v j h e = ap (λ x. bit x j) (e ∙ ap (λ k. 2 ^ k) (mod-eq_of_lt h)) ∙ bit_pow v j

-- the literals of a set with one more
pub with_inside : (m : ClauseMask) (v : ℕ) (b : Bool) (j : ℕ) (c : Bool) → inside (with_value m v b) j c ≡ (inside m j c || (eqb v j && beq b c))
with_inside m v b j c = go b c
  where
    more : (x : ℕ) → bit (bit_or x (2 ^ v)) j ≡ (bit x j || (eqb v j && true))
    more x = bit_of_or x (2 ^ v) j ∙ ap (λ y. bit x j || y) (bit_pow v j ∙ eqb_swap j v ∙ sym (and-true (eqb v j)))

    same : (x : Bool) → x ≡ (x || (eqb v j && false))
    same x = sym (ap (λ y. x || y) (and-false (eqb v j)) ∙ or-false x)

    go : (b c : Bool) → inside (with_value m v b) j c ≡ (inside m j c || (eqb v j && beq b c))
    go true true = more m.positive
    go true false = same (bit m.negative j)
    go false true = same (bit m.positive j)
    go false false = more m.negative

pub inside_none : (j : ℕ) (b : Bool) → inside none j b ≡ false
inside_none j true = bit_none j
inside_none j false = bit_none j

-- a clause by its variables
pub in_variables : (m : ClauseMask) (j : ℕ) (c : Bool) → inside m j c ≡ true → (inside m j true || inside m j false) ≡ true
in_variables m j true t = or_left (inside m j true) (inside m j false) t
in_variables m j false t = or_right (inside m j true) (inside m j false) t

pub not_in_variables : (m : ClauseMask) (j : ℕ) → (inside m j true || inside m j false) ≡ false → (c : Bool) → inside m j c ≡ false
not_in_variables m j e true = (or_parts (inside m j true) (inside m j false) e).0
not_in_variables m j e false = (or_parts (inside m j true) (inside m j false) e).1

-- a variable that a test found no literal of
pub unmentioned : (m : ClauseMask) (v : ℕ) (r : Bool) → v < 128 → r ≡ (inside m (v % 128) true || inside m (v % 128) false) → r ≡ false → (c : Bool) → inside m v c ≡ false
unmentioned m v r h e f = not_in_variables m v (ap (λ x. inside m x true || inside m x false) (sym (mod-eq_of_lt h)) ∙ sym e ∙ f)

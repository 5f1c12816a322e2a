-- Entries as they are written: a clause noted literal by literal, and the clause of a subgoal. Assumes nothing.
use Rattle.std.proofs.Common.{◌≡◌, ℕ, zero, suc, ◌+◌, ◌-◌, ◌*◌, ◌/◌, ◌%◌, ◌^◌, ◌<◌, ◌≤◌, Bool, true, false, cond, not, ◌||◌, List, [], ◌∷◌, ◌++◌, length, get_or, drop, sym, refl, ap, ap₂, ◌∙◌, inl, inr, arith, nat_eq, w32}
use Rattle.std.proofs.Math.Bool.{or-false}
use Rattle.std.proofs.lemmas.Bool.{cases_eq, eq-eqb, ne_eqb}
use Rattle.std.proofs.lemmas.List.{drop_more, drop_all}
use Rattle.std.proofs.lemmas.Nat.Bits.{bit_at_not, bit_at_ones, bit_at-lt}
use Rattle.std.specs.Int.{bit_not, bit_at}
use lib.Bits.{bit_or}
use Rattle.system.specs.Literals.{bit}
use Rattle.system.specs.Spelling.{literal_of, spelled}
use Rattle.system.proofs.Bits.{bit_of_or, bit_pow, low_bits}
use Rattle.books.specs.Entries.{entry_of, has_literal, held_as}
use Rattle.books.specs.declared.entry.Entry.{Entry}
use Rattle.books.specs.declared.entry.Kind.{Kind}
use Rattle.books.specs.declared.entry.Kind.TheVariants.{Subgoal}
use Rattle.books.proofs.Meanings.{occurs}
use Rattle.books.proofs.Binary.{number_bits}

-- a literal is one of relay i
abbrev of_relay : ℕ → ℕ → Bool
of_relay l i = nat_eq l (literal_of i true) || nat_eq l (literal_of i false)

relay_test : (l i : ℕ) → nat_eq i (l / 2) ≡ of_relay l i
relay_test l i =
    elim (cases_eq l (2 * i)) [
      | inl e ↦ rw (eq-eqb l (2 * i + 0) (omega arith), eq-eqb i (l / 2) (omega arith)) refl
      | inr n ↦ elim (cases_eq l (2 * i + 1)) [
        | inl e ↦ rw (ne_eqb l (2 * i + 0) (λ z. n (omega arith)), eq-eqb l (2 * i + 1) e, eq-eqb i (l / 2) (omega arith)) refl
        | inr m ↦ rw (ne_eqb l (2 * i + 0) (λ z. n (omega arith)), ne_eqb l (2 * i + 1) m, ne_eqb i (l / 2) (λ z. elim (cases_eq (l % 2) 0) [ inl e ↦ n (omega arith) | inr o ↦ m (omega arith) ])) refl
      ]
    ]

plain_test : (l i : ℕ) → l % 2 ≡ 0 → nat_eq i (l / 2) ≡ nat_eq l (literal_of i true)
plain_test l i even =
    elim (cases_eq l (2 * i)) [
      | inl e ↦ rw (eq-eqb l (2 * i + 0) (omega arith), eq-eqb i (l / 2) (omega arith)) refl
      | inr n ↦ rw (ne_eqb l (2 * i + 0) (λ z. n (omega arith)), ne_eqb i (l / 2) (λ z. n (omega arith))) refl
    ]

bit_set : (x r i : ℕ) → i < 32 → bit (bit_or x (1 * 2 ^ r % 2 ^ 32)) i ≡ (bit x i || nat_eq i r)
bit_set x r i h =
    let e : 1 * 2 ^ r ≡ 2 ^ r = omega arith in
    bit_of_or x (1 * 2 ^ r % 2 ^ 32) i ∙ ap (λ b. bit x i || b) (low_bits (1 * 2 ^ r) i 32 h ∙ ap (λ y. bit y i) e ∙ bit_pow r i)

-- what a literal adds to the relays noted, and to those noted as plain
pub set_first : (x l r i : ℕ) → r ≡ l / 2 → i < 32 → bit (bit_or x (1 * 2 ^ r % 2 ^ 32)) i ≡ (bit x i || of_relay l i)
set_first x l r i e h = bit_set x r i h ∙ ap (λ b. bit x i || b) (ap (nat_eq i) e ∙ relay_test l i)

pub set_second : (x l r i : ℕ) → r ≡ l / 2 → l % 2 ≡ 0 → i < 32 → bit (bit_or x (1 * 2 ^ r % 2 ^ 32)) i ≡ (bit x i || nat_eq l (literal_of i true))
set_second x l r i e even h = bit_set x r i h ∙ ap (λ b. bit x i || b) (ap (nat_eq i) e ∙ plain_test l i even)

pub odd_second : (x l i : ℕ) → (l % 2 ≡ 0 → ⊥) → bit x i ≡ (bit x i || nat_eq l (literal_of i true))
odd_second x l i odd = sym (ap (λ b. bit x i || b) (ne_eqb l (2 * i + 0) (λ z. odd (omega arith))) ∙ or-false (bit x i))

pub high_first : (x l r i : ℕ) → r ≡ l / 2 → 32 ≤ r → i < 32 → bit x i ≡ (bit x i || of_relay l i)
high_first x l r i e g h = sym (ap (λ b. bit x i || b) (sym (relay_test l i) ∙ ne_eqb i (l / 2) (omega arith)) ∙ or-false (bit x i))

pub high_second : (x l r i : ℕ) → r ≡ l / 2 → 32 ≤ r → i < 32 → bit x i ≡ (bit x i || nat_eq l (literal_of i true))
high_second x l r i e g h = sym (ap (λ b. bit x i || b) (ne_eqb l (2 * i + 0) (omega arith)) ∙ or-false (bit x i))

shuffle : (b x y p q : Bool) → ((b || (x || y)) || (p || q)) ≡ (b || ((x || p) || (y || q)))
shuffle b x y p q = grind arith

one_more : (b x p : Bool) → ((b || x) || p) ≡ (b || (x || p))
one_more b x p = grind arith

module _ (d : List ℕ) (k : ℕ) (here : k < length d) (x y i : ℕ) where
  pub first_more : (bit x i || occurs (drop k d) i) ≡ occurs d i → bit y i ≡ (bit x i || of_relay (get_or d k 0) i) → (bit y i || occurs (drop (k + 1) d) i) ≡ occurs d i
  first_more e s =
      ap (λ b. b || occurs (drop (k + 1) d) i) s
      ∙ shuffle (bit x i) (nat_eq (get_or d k 0) (literal_of i true)) (nat_eq (get_or d k 0) (literal_of i false)) (has_literal (drop (k + 1) d) (literal_of i true)) (has_literal (drop (k + 1) d) (literal_of i false))
      ∙ sym (ap (λ ds. bit x i || occurs ds i) (drop_more d k 0 here))
      ∙ e

  pub second_more : (bit x i || has_literal (drop k d) (literal_of i true)) ≡ has_literal d (literal_of i true) → bit y i ≡ (bit x i || nat_eq (get_or d k 0) (literal_of i true))
      → (bit y i || has_literal (drop (k + 1) d) (literal_of i true)) ≡ has_literal d (literal_of i true)
  second_more e s =
      ap (λ b. b || has_literal (drop (k + 1) d) (literal_of i true)) s
      ∙ one_more (bit x i) (nat_eq (get_or d k 0) (literal_of i true)) (has_literal (drop (k + 1) d) (literal_of i true))
      ∙ sym (ap (λ ds. bit x i || has_literal ds (literal_of i true)) (drop_more d k 0 here))
      ∙ e

-- all literals are noted
pub entry_noted : (kind : Kind) (d : List ℕ) (k first second : ℕ) → length d ≤ k → first < 2 ^ 32 → second < 2 ^ 32
    → ((i : ℕ) → i < 32 → (bit first i || occurs (drop k d) i) ≡ occurs d i)
    → ((i : ℕ) → i < 32 → (bit second i || has_literal (drop k d) (literal_of i true)) ≡ has_literal d (literal_of i true))
    → ◌≡◌ {A = Entry} (record { kind = kind; first = first; second = second; third = 0 }) (entry_of kind d)
entry_noted kind d k first second past low low' f s =
    ap₂ (λ x y. record { kind = kind; first = x; second = y; third = 0 })
    (number_bits 32 first (occurs d) low (λ i h. sym (ap (λ ds. bit first i || occurs ds i) (drop_all k d past) ∙ or-false (bit first i)) ∙ f i h))
    (number_bits 32 second (λ i. has_literal d (literal_of i true)) low' (λ i h. sym (ap (λ ds. bit second i || has_literal ds (literal_of i true)) (drop_all k d past) ∙ or-false (bit second i)) ∙ s i h))

-- relays and signs that are the same below n
spelled_same : (n : ℕ) (f g p q : ℕ → Bool) → ((i : ℕ) → i < n → f i ≡ g i) → ((i : ℕ) → i < n → p i ≡ q i) → spelled 0 n f p ≡ spelled 0 n g q
unfolding spelled
spelled_same zero f g p q h k = refl
spelled_same (suc n) f g p q h k =
    ap₂ (λ xs ys. xs ++ ys) (spelled_same n f g p q (λ i l. h i (omega arith)) (λ i l. k i (omega arith)))
    (ap₂ (λ b s. cond b (literal_of (0 + n) s ∷ []) []) (h n (omega arith)) (k n (omega arith)))

not_digit : (x : ℕ) → x < 2 → nat_eq (1 - x) 1 ≡ not (nat_eq x 1)
not_digit zero h = refl
not_digit (suc zero) h = refl
not_digit (suc (suc x)) h = absurd (let z : ⊥ = omega arith in z)

pub held_subgoal : (n : ℕ) (e : Entry) → n ≤ 32 → e.first < 2 ^ 32 → spelled 0 n (bit (2 ^ 32 - 1)) (bit (bit_not w32 e.first)) ≡ held_as Subgoal n e
held_subgoal n e few low =
    spelled_same n (bit (2 ^ 32 - 1)) (λ i. true) (bit (bit_not w32 e.first)) (λ i. not (bit e.first i))
    (λ i h. eq-eqb (bit_at (2 ^ 32 - 1) i) 1 (bit_at_ones 32 i (omega arith)))
    (λ i h. ap (λ z. nat_eq z 1) (bit_at_not w32 e.first i low (omega arith)) ∙ not_digit (bit_at e.first i) (bit_at-lt e.first i))

-- What a question asks about: it follows wherever the question does, and its variables. Assumes nothing.
use Rattle.std.proofs.Common.{◌≡◌, ℕ, true, false, ◌||◌, ◌⊎◌, List, sym, ap, ◌∙◌, subst, inl, inr}
use lib.Bits.{bit_or}
use Rattle.std.proofs.lemmas.Bool.{or_cases, or_left, or_right}
use Rattle.std.proofs.lemmas.List.{get_or_default}
use Rattle.std.proofs.lemmas.List.Elements.{All-contains}
use Rattle.system.specs.Literals.{bit}
use Rattle.system.proofs.Bits.{bit_of_or}
use Rattle.masks.specs.Masks.{inside, Implied}
use Rattle.masks.specs.Questions.{Given, Among, Mentioned, Within, unit}
use Rattle.masks.specs.declared.mask.ClauseMask.{ClauseMask}
use Rattle.masks.proofs.Sets.{in_variables}

-- what is asked about follows wherever the question does
pub among_implied : (base : List (List ℕ)) (masks : List ClauseMask) (assumed : List ℕ) (m : ClauseMask) → Given masks assumed base → Among masks assumed m → Implied base m
among_implied base masks assumed m given (inl c) = All-contains (Implied base) masks m given.0 c
among_implied base masks assumed m given (inr (l, (k, h, e), f)) = subst (Implied base) (ap unit (get_or_default assumed k 0 l h ∙ e) ∙ sym f) (given.1 k h)

-- variables of a set, within more
pub within_left : (x y : ℕ) (m : ClauseMask) → Within x m → Within (bit_or x y) m
within_left x y m w j c h = bit_of_or x y j ∙ or_left (bit x j) (bit y j) (w j c h)

pub within_variables : (x y : ℕ) (n m : ClauseMask) → n ≡ m → ((j : ℕ) → bit y j ≡ (inside n j true || inside n j false)) → Within (bit_or x y) m
within_variables x y n m e f j c h =
    bit_of_or x y j ∙ or_right (bit x j) (bit y j) (f j ∙ in_variables n j c (subst (λ p. inside p j c ≡ true) (sym e) h))

-- each variable of a set that grows by those of a clause is mentioned, where the clause is among what is asked
pub mentioned_more : (masks : List ClauseMask) (assumed : List ℕ) (x y : ℕ) (n m : ClauseMask) → n ≡ m → Among masks assumed m
    → ((j : ℕ) → bit y j ≡ (inside n j true || inside n j false)) → ((j : ℕ) → bit x j ≡ true → Mentioned masks assumed j)
    → (j : ℕ) → bit (bit_or x y) j ≡ true → Mentioned masks assumed j
mentioned_more masks assumed x y n m e among f before j t =
    elim (or_cases (bit x j) (bit y j) (sym (bit_of_or x y j) ∙ t)) [ inl p ↦ before j p | inr q ↦ here (or_cases (inside n j true) (inside n j false) (sym (f j) ∙ q)) ]
  where
    here : (inside n j true ≡ true) ⊎ (inside n j false ≡ true) → Mentioned masks assumed j
    here (inl p) = (m, true, among, subst (λ k. inside k j true ≡ true) e p)
    here (inr p) = (m, false, among, subst (λ k. inside k j false ≡ true) e p)

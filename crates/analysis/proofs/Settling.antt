-- The variables that have a value before the last choice, entry by entry. Assumes nothing.
use Rattle.std.proofs.Common.{◌≡◌, ℕ, ◌+◌, ◌%◌, ◌^◌, ◌<◌, Bool, true, false, cond, ◌&&◌, ◌||◌, eqb, ◌⊎◌, List, [], ◌∷◌, ◌++◌, length, get_or, take, reverse, sym, refl, ap, ap₂, ◌∙◌, inl, inr}
use lib.Bits.{bit_or}
use mathlib.Core.Bool.{beq, or-false}
use Rattle.std.proofs.lemmas.Bool.{cases_eq, eq-eqb, ne_eqb}
use Rattle.std.proofs.lemmas.List.{take_more, reverse-append}
use Rattle.system.specs.Literals.{bit}
use Rattle.system.proofs.Bits.{bit_of_or}
use Rattle.masks.proofs.Sets.{bit_of}
use Rattle.trail.specs.Decisions.{has}
use Rattle.trail.specs.declared.decision.Decision.{Decision}
use Rattle.trail.specs.declared.decision.Forcing.{Forcing}
use Rattle.trail.specs.declared.decision.Forcing.TheVariants.{Assumed, Chosen, Forced}
use Rattle.analysis.specs.Conflicts.{is_choice, before_choice, Covers}

pub no_choice : (f : Forcing) → (f ≡ Chosen → ⊥) → is_choice f ≡ false
no_choice Assumed n = refl
no_choice Chosen n = absurd (n refl)
no_choice (Forced m) n = refl

-- one more decision gives its variable either value
either : (q b t f : Bool) → ((t || f) || q) ≡ (((q && beq b true) || t) || ((q && beq b false) || f))
either false b t f = or-false (t || f)
either true true true f = refl
either true true false true = refl
either true true false false = refl
either true false true f = refl
either true false false true = refl
either true false false false = refl

pub covers_more : (ds : List Decision) (d : Decision) (x s : ℕ) → s ≡ 2 ^ (d.variable % 128) → Covers ds x → Covers (d ∷ ds) (bit_or x s)
covers_more ds d x s e f j =
    bit_of_or x s j ∙ ap₂ (λ a b. a || b) (f j) (bit_of s d.variable j d.small e ∙ swapped) ∙ either (eqb d.variable j) d.value (has ds j true) (has ds j false)
  where
    swapped : eqb j d.variable ≡ eqb d.variable j
    swapped = elim (cases_eq j d.variable) [
      | inl q ↦ eq-eqb j d.variable q ∙ sym (eq-eqb d.variable j (sym q))
      | inr n ↦ ne_eqb j d.variable n ∙ sym (ne_eqb d.variable j (λ q. n (sym q)))
    ]

-- where the decision is a choice, those before it come before the last choice
pub settled_more : (ds : List Decision) (d : Decision) (x y z : ℕ) → Covers ds x → Covers (before_choice ds) y
    → ((is_choice d.forcing ≡ true) × (z ≡ x)) ⊎ ((is_choice d.forcing ≡ false) × (z ≡ y)) → Covers (before_choice (d ∷ ds)) z
settled_more ds d x y z f g (inl (t, e)) j = ap (λ k. bit k j) e ∙ f j ∙ ap (λ es. has es j true || has es j false) (sym (ap (λ b. cond b ds (before_choice ds)) t))
settled_more ds d x y z f g (inr (t, e)) j = ap (λ k. bit k j) e ∙ g j ∙ ap (λ es. has es j true || has es j false) (sym (ap (λ b. cond b ds (before_choice ds)) t))

-- the entries up to the one at i, the latest first
pub latest_first : (ds : List Decision) (i : ℕ) (d : Decision) → i < length ds → d ≡ get_or ds i d → reverse (take (i + 1) ds) ≡ d ∷ reverse (take i ds)
latest_first ds i d h is = ap reverse (take_more ds i d h ∙ ap (λ x. take i ds ++ x ∷ []) (sym is)) ∙ reverse-append (take i ds) (d ∷ [])

-- Why the decisions of a trail stand, with one more or cut short, and the number that rises. Assumes nothing.
use Rattle.std.proofs.Common.{◌≡◌, ℕ, zero, suc, ◌*◌, ◌^◌, ◌<◌, ◌≤◌, Bool, ◌⊎◌, List, [], ◌∷◌, ◌++◌, length, get_or, take, sym, ap, subst₂, inl, inr, pow-suc, arith}
use mathlib.Core.Path.{subst₃}
use Rattle.std.proofs.lemmas.List.{take-take, take-append-le, take_at, get_or_append_left, get_or_push, length_push, get_or-take, length-take-le}
use Rattle.std.proofs.lemmas.Bool.{cases_lt}
use Rattle.trail.specs.Reasons.{Reason, Because, Sound, digit, height}
use Rattle.trail.specs.declared.decision.Decision.{Decision}
use Rattle.trail.specs.declared.decision.Forcing.{Forcing}
use Rattle.trail.specs.declared.decision.Forcing.TheVariants.{Assumed, Chosen, Forced}

-- why the decisions stand
pub sound_none : (base : List (List ℕ)) (ds : List Decision) → ds ≡ [] → Sound base ds
sound_none base ds e k x h = absurd (let z : ⊥ = (let l = ap length e in omega arith) in z)

pub sound_push : (base : List (List ℕ)) (ds : List Decision) (d : Decision) → Sound base ds → Because base ds d → Sound base (ds ++ d ∷ [])
sound_push base ds d s b k e h = go (cases_lt k (length ds))
  where
    go : (k < length ds) ⊎ (length ds ≤ k) → Because base (take k (ds ++ d ∷ [])) (get_or (ds ++ d ∷ []) k e)
    go (inl l) = subst₂ (Because base) (sym (take-append-le k ds (d ∷ []) (omega arith))) (sym (get_or_append_left ds (d ∷ []) e k l)) (s k e l)
    go (inr g) =
        let q = length_push ds d in
        let i : length ds ≡ k = omega arith in
        subst₂ (Because base) (sym (take_at ds (d ∷ []) k i)) (sym (get_or_push ds d e k i)) b

pub sound_take : (base : List (List ℕ)) (ds : List Decision) (n : ℕ) → n ≤ length ds → Sound base ds → Sound base (take n ds)
sound_take base ds n l s k e h =
    let q = length-take-le n ds l in
    let i : k < n = omega arith in
    subst₂ (Because base) (sym (take-take k n ds (omega arith))) (sym (get_or-take n ds k e i)) (s k e (omega arith))

-- the reason of a decision that is given by its parts
pub because : (base : List (List ℕ)) (ds : List Decision) (d : Decision) (v : ℕ) (b : Bool) (f : Forcing) → d.variable ≡ v → d.value ≡ b → d.forcing ≡ f → Reason base ds v b f → Because base ds d
because base ds d v b f p q r h = subst₃ (Reason base ds) (sym p) (sym q) (sym r) h

-- the number that rises
digit_le : (f : Forcing) (x : ℕ) → digit f * x ≤ 2 * x
digit_le Assumed x = omega arith
digit_le Chosen x = omega arith
digit_le (Forced m) x = omega arith

digit_ge : (f : Forcing) (x : ℕ) → x ≤ digit f * x
digit_ge Assumed x = omega arith
digit_ge Chosen x = omega arith
digit_ge (Forced m) x = omega arith

pub height_below : (n : ℕ) (ds : List Decision) → height n ds < 3 ^ n
height_below zero ds = omega arith
height_below (suc n) [] = let h = height_below n [] in omega (arith, pow-suc 3 n)
height_below (suc n) (d ∷ ds) = let h = height_below n ds in omega (arith, pow-suc 3 n, digit_le d.forcing (3 ^ n))

pub height_rise : (n : ℕ) (ds : List Decision) (d : Decision) (more : List Decision) → length ds < n → height n ds < height n (ds ++ d ∷ more)
height_rise zero ds d more h = absurd (let z : ⊥ = omega arith in z)
height_rise (suc n) [] d more h = let p = height_below n [] in omega (arith, digit_ge d.forcing (3 ^ n))
height_rise (suc n) (e ∷ ds) d more h = let r = height_rise n ds d more (omega arith) in omega arith

pub height_jump : (n : ℕ) (ds : List Decision) (k : ℕ) (d e : Decision) → k < length ds → k < n → (get_or ds k e).forcing ≡ Chosen → digit d.forcing ≡ 2 → height n ds < height n (take k ds ++ d ∷ [])
height_jump zero ds k d e h l c t = absurd (let z : ⊥ = omega arith in z)
height_jump (suc n) [] k d e h l c t = absurd (let z : ⊥ = omega arith in z)
height_jump (suc n) (x ∷ ds) zero d e h l c t =
    let p : digit x.forcing * 3 ^ n ≡ 1 * 3 ^ n = ap (λ f. digit f * 3 ^ n) c in
    let q : digit d.forcing * 3 ^ n ≡ 2 * 3 ^ n = ap (λ y. y * 3 ^ n) t in
    let b = height_below n ds in
    omega arith
height_jump (suc n) (x ∷ ds) (suc k) d e h l c t = let r = height_jump n ds k d e (omega arith) (omega arith) c t in omega arith

pub height_extend : (n : ℕ) (ds more : List Decision) → height n ds ≤ height n (ds ++ more)
height_extend zero ds more = omega arith
height_extend (suc n) [] more = omega arith
height_extend (suc n) (d ∷ ds) more = let h = height_extend n ds more in omega arith

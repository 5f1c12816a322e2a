-- What putting assumed literals on the trail makes true. Assumes nothing.
use Rattle.std.proofs.Common.{◌≡◌, ℕ, ◌+◌, ◌<◌, ◌≤◌, Bool, true, ◌⊎◌, List, [], ◌∷◌, ◌++◌, get_or, sym, ap, ap₂, ◌∙◌, subst, subst₂, inl, inr, arith}
use Rattle.std.proofs.lemmas.Bool.{cases_lt, or_right}
use Rattle.masks.specs.Masks.{inside, Meets}
use Rattle.masks.specs.Questions.{unit}
use Rattle.masks.specs.Standings.{Stands, TwoOpen}
use Rattle.masks.specs.declared.mask.ClauseMask.{ClauseMask}
use Rattle.masks.specs.declared.mask.Standing.{Standing}
use Rattle.masks.specs.declared.mask.Standing.TheVariants.{True, Open}
use Rattle.masks.proofs.Meaning.{unit_is}
use Rattle.trail.specs.Changes.{Appended}
use Rattle.trail.specs.Decisions.{has, Spells}
use Rattle.trail.specs.declared.decision.Decision.{Decision}
use Rattle.trail.specs.declared.decision.Forcing.{Forcing}
use Rattle.trail.proofs.Deciding.{gives, gives_own, has_push}
use Rattle.search.specs.Looks.{true_by, AssumedTo}
use Rattle.search.specs.Searches.{Extends}
use Rattle.search.proofs.Settling.{has_more}

-- no clause of one literal is open
unit_closed : (l : ℕ) (s : ClauseMask) → TwoOpen (unit l) s → ⊥
unit_closed l s two =
    let e = unit_is l two.one two.one_sign two.one_inside in
    let f = unit_is l two.other two.other_sign two.other_inside in
    two.different (e.0 ∙ sym f.0) (e.1 ∙ sym f.1)

-- so where its clause is neither false nor forces, it is true already
pub unit_stood : (l : ℕ) (m s : ClauseMask) (ds : List Decision) (r : Standing) → m ≡ unit l → Spells s ds → Stands m s r → (r ≡ True) ⊎ (r ≡ Open) → true_by ds l ≡ true
unit_stood l m s ds r own spelled stands (inl e) = met (subst₂ (λ x y. Stands x s y) own e stands)
  where
    met : Meets (unit l) s → true_by ds l ≡ true
    met (j, b, i, h) = let f = unit_is l j b i in ap₂ (has ds) (sym f.0) (sym f.1) ∙ sym (spelled j b) ∙ h
unit_stood l m s ds r own spelled stands (inr e) = let two : Stands (unit l) s Open = subst₂ (λ x y. Stands x s y) own e stands in absurd (unit_closed l s two.1)

-- one that is decided
pub unit_decided : (l v : ℕ) (b : Bool) (f : Forcing) (ds es : List Decision) → Appended ds v b f es → inside (unit l) v b ≡ true → true_by es l ≡ true
unit_decided l v b f ds es made i =
    let e = unit_is l v b i in
    let d = made.made in
    let own : has (ds ++ d ∷ []) d.variable d.value ≡ true = has_push ds d d.variable d.value ∙ or_right (has ds d.variable d.value) (gives d d.variable d.value) (gives_own d) in
    ap₂ (has es) (sym e.0) (sym e.1) ∙ ap (λ xs. has xs v b) made.is ∙ ap₂ (has (ds ++ d ∷ [])) (sym made.variable) (sym made.value) ∙ own

-- those that were stay so, and with the next there is one more
pub assumed_next : (n : ℕ) (ls : List ℕ) (ds es : List Decision) → AssumedTo n ls ds → Extends ds es → true_by es (get_or ls n 0) ≡ true → AssumedTo (n + 1) ls es
assumed_next n ls ds es before more here k h = go (cases_lt k n)
  where
    go : (k < n) ⊎ (n ≤ k) → true_by es (get_or ls k 0) ≡ true
    go (inl a) = has_more ds es _ _ more (before k a)
    go (inr b) = let i : n ≡ k = omega arith in subst (λ j. true_by es (get_or ls j 0) ≡ true) i here

-- The steps of a search, by what they do to the trail and to what is implied. Assumes nothing.
use Rattle.std.proofs.Common.{◌≡◌, ℕ, ◌<◌, ◌≤◌, Bool, true, false, not, ◌&&◌, ◌||◌, ◌⊎◌, List, [], ◌∷◌, ◌++◌, length, get_or, take, sym, ap, ◌∙◌, subst, inl, inr, arith, append-nil}
use Rattle.std.proofs.lemmas.List.{append_assoc, get_or_append_left, get_or_push, length_push, length-append}
use Rattle.std.proofs.lemmas.Bool.{cases_Bool, cases_lt, and_from, or_cases}
use Rattle.system.specs.Literals.{bit}
use Rattle.system.proofs.Bits.{bit_none}
use Rattle.masks.specs.Masks.{inside, Implied, Apart}
use Rattle.masks.specs.Questions.{Each, Within}
use Rattle.masks.specs.Standings.{Alone, AllFalse}
use Rattle.masks.specs.declared.mask.ClauseMask.{ClauseMask}
use Rattle.masks.specs.declared.question.Question.{Question}
use Rattle.masks.proofs.Sets.{clash}
use Rattle.trail.specs.Decisions.{Free, distinct, Spells}
use Rattle.trail.specs.Entries.{entries}
use Rattle.trail.specs.Changes.{Appended}
use Rattle.trail.specs.Reasons.{Refuted, Forces, Reason, Sound, digit, height}
use Rattle.trail.specs.declared.decision.Decision.{Decision}
use Rattle.trail.specs.declared.decision.Forcing.{Forcing}
use Rattle.trail.specs.declared.decision.Forcing.TheVariants.{Forced}
use Rattle.trail.specs.declared.trail.Trail.{Trail}
use Rattle.trail.proofs.Deciding.{at_most, place}
use Rattle.trail.proofs.Standing.{sound_push, because, height_rise, height_jump, height_extend}
use Rattle.analysis.specs.Conflicts.{ChosenAt}
use Rattle.search.specs.Searches.{Extends, Turned}
use Rattle.search.specs.declared.progress.Progress.{Progress}
use Rattle.search.specs.declared.progress.Progress.TheVariants.{Satisfied, Further}
use Rattle.search.specs.declared.search.Search.{Search}

-- the literals that a trail makes true, as they were handed out
pub spells_of : (t : Trail) (s : ClauseMask) → s ≡ t.assigned → Spells s (entries t)
spells_of t s e = subst (λ m. Spells m (entries t)) (sym e) t.spelled

-- what a clause forces by the set of true literals, it forces by the decisions
pub forces_of : (m s : ClauseMask) (ds : List Decision) (v : ℕ) (b : Bool) → Spells s ds → Alone m s v b → Forces m ds v b
forces_of m s ds v b spelled alone j c t = elim (alone j c t) [ inl e ↦ inl e | inr h ↦ inr (sym (spelled j (not c)) ∙ h) ]

-- one more decision, with its reason
pub sound_appended : (base : List (List ℕ)) (ds es : List Decision) (v : ℕ) (b : Bool) (f : Forcing) → Appended ds v b f es → Sound base ds → Reason base ds v b f → Sound base es
sound_appended base ds es v b f made sound reason =
    subst (Sound base) (sym made.is) (sound_push base ds made.made sound (because base ds made.made v b f made.variable made.value made.forcing reason))

-- a choice raises the number of the trail, and so does a choice that is changed to what had to be
pub height_chosen : (ds es : List Decision) (v : ℕ) (b : Bool) (f : Forcing) → distinct ds ≡ true → v < 128 → Free ds v → Appended ds v b f es → height 128 ds < height 128 es
height_chosen ds es v b f once small free made = subst (λ xs. height 128 ds < height 128 xs) (sym made.is) (height_rise 128 ds made.made [] (place ds v once small free))

pub height_changed : (ds es : List Decision) (to v : ℕ) (b : Bool) (m : ClauseMask) → distinct ds ≡ true → to < length ds → ChosenAt ds to → Appended (take to ds) v b (Forced m) es → height 128 ds < height 128 es
height_changed ds es to v b m once within chosen made =
    let l = at_most ds once in
    subst (λ xs. height 128 ds < height 128 xs) (sym made.is) (height_jump 128 ds to made.made made.made within (omega arith) (chosen made.made) (ap digit made.forcing))

-- none were added
pub extends_same : (ds es : List Decision) → ds ≡ es → Extends ds es
extends_same ds es e = ([], sym e ∙ sym (append-nil ds))

pub extends_length : (ds es : List Decision) → Extends ds es → length ds ≤ length es
extends_length ds es (more, e) = let f = ap length e in let g = length-append ds more in omega arith

-- decisions were added, and then more
pub extends_trans : (ds es fs : List Decision) → Extends ds es → Extends es fs → Extends ds fs
extends_trans ds es fs (m, e) (n, f) = (m ++ n, f ∙ ap (λ xs. xs ++ n) e ∙ append_assoc ds m n)

-- the number of the trail falls at none of them
pub climbs : (ds es : List Decision) → Extends ds es → height 128 ds ≤ height 128 es
climbs ds es (more, e) = subst (λ xs. height 128 ds ≤ height 128 xs) (sym e) (height_extend 128 ds more)

-- a turn that begins with propagation
pub turned_later : (question : Question) (before mid after : Search) → Extends (entries before.trail) (entries mid.trail)
    → (p : Progress) → Turned question mid after p → Turned question before after p
turned_later question before mid after more Satisfied t = t
turned_later question before mid after more Further t = let l = climbs (entries before.trail) (entries mid.trail) more in omega arith

-- a clause of those that are implied
pub each_at : (base : List (List ℕ)) (ms : List ClauseMask) (m : ClauseMask) (k : ℕ) → Each base ms → k < length ms → m ≡ get_or ms k m → Implied base m
each_at base ms m k each h e = subst (Implied base) (sym e) (each k m h)

-- implied clauses, one more
pub each_none : (base : List (List ℕ)) (ms : List ClauseMask) → ms ≡ [] → Each base ms
each_none base ms e k x h = absurd (omega (arith, ap length e))

pub each_push : (base : List (List ℕ)) (ms : List ClauseMask) (m : ClauseMask) → Each base ms → Implied base m → Each base (ms ++ m ∷ [])
each_push base ms m each i k x h = go (cases_lt k (length ms))
  where
    go : (k < length ms) ⊎ (length ms ≤ k) → Implied base (get_or (ms ++ m ∷ []) k x)
    go (inl l) = subst (Implied base) (sym (get_or_append_left ms (m ∷ []) x k l)) (each k x l)
    go (inr g) = let q = length_push ms m in let e : length ms ≡ k = omega arith in subst (Implied base) (sym (get_or_push ms m x k e)) i

-- a clause of which no literal is true and every variable, one of x, has a value
pub all_false : (m s : ClauseMask) (x y k : ℕ) → Apart m s → Within x m → ((j : ℕ) → bit k j ≡ (inside s j true || inside s j false))
    → ((j : ℕ) → bit y j ≡ (bit x j && not (bit k j))) → y ≡ 0 → AllFalse m s
all_false m s x y k apart within known g e j c t = value c t (cases_Bool (bit k j))
  where
    value : (c : Bool) → inside m j c ≡ true → (bit k j ≡ true) ⊎ (bit k j ≡ false) → inside s j (not c) ≡ true
    value c u (inr n) = clash (bit y j) (g j ∙ and_from (bit x j) (not (bit k j)) (within j c u) (ap not n)) (ap (λ z. bit z j) e ∙ bit_none j)
    value true u (inl h) = elim (or_cases (inside s j true) (inside s j false) (sym (known j) ∙ h)) [ inl p ↦ clash (inside s j true) p (apart j true u) | inr q ↦ q ]
    value false u (inl h) = elim (or_cases (inside s j true) (inside s j false) (sym (known j) ∙ h)) [ inl p ↦ p | inr q ↦ clash (inside s j false) q (apart j false u) ]

-- what is false by the set of true literals is false by the decisions
pub refuted_of : (m s : ClauseMask) (ds : List Decision) → Spells s ds → AllFalse m s → Refuted m ds
refuted_of m s ds spelled f j c t = sym (spelled j (not c)) ∙ f j c t

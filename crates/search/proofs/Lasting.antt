-- What lasts of a trail: the decisions before the first choice. Assumes nothing.
use Rattle.std.proofs.Common.{◌≡◌, ℕ, ◌+◌, ◌-◌, ◌<◌, ◌≤◌, Bool, ◌⊎◌, List, [], ◌∷◌, ◌++◌, length, get_or, take, refl, sym, ap, ◌∙◌, subst, inl, inr, arith}
use Rattle.std.proofs.lemmas.Bool.{true≢false, cases_lt}
use Rattle.std.proofs.lemmas.List.{append_assoc, get_or_append_left}
use Rattle.std.proofs.lemmas.List.Elements.{All-push}
use Rattle.std.proofs.Math.Seq.{take-append-add}
use Rattle.masks.specs.Questions.{Units, AllKept}
use Rattle.masks.specs.declared.mask.ClauseMask.{ClauseMask}
use Rattle.masks.proofs.Meaning.{unit_met}
use Rattle.trail.specs.Decisions.{Spells}
use Rattle.trail.specs.Changes.{Appended}
use Rattle.trail.specs.declared.decision.Decision.{Decision}
use Rattle.trail.specs.declared.decision.Forcing.TheVariants.{Assumed, Chosen}
use Rattle.analysis.specs.Conflicts.{is_choice}
use Rattle.search.specs.Looks.{AssumedTo, Grounded}
use Rattle.search.specs.Searches.{Extends, NoChoice, Lasts, Jumped}
use Rattle.search.proofs.Stepping.{extends_same, extends_trans}
use Rattle.search.proofs.Settling.{has_more}

-- an assumed literal is no choice
assumed_apart : Assumed ≡ Chosen → ⊥
assumed_apart e = true≢false (sym (ap is_choice e))

pub no_choice_assumed : (ds es : List Decision) (v : ℕ) (b : Bool) → Appended ds v b Assumed es → NoChoice ds → NoChoice es
no_choice_assumed ds es v b made none =
    subst NoChoice (sym made.is) (All-push (λ (d : Decision). d.forcing ≡ Chosen → ⊥) ds made.made none (λ e. assumed_apart (sym made.forcing ∙ e)))

-- where none is a choice there is no jump
pub no_jump : (ds es : List Decision) → NoChoice ds → Jumped ds es → ⊥
no_jump ds es none jumped = none jumped.place jumped.made jumped.within (jumped.chosen jumped.made)

-- what lasts through each step
pub lasts_more : (ds es : List Decision) → Extends ds es → Lasts ds es
lasts_more ds es more first none before = extends_trans first ds es before more

pub lasts_jumped : (ds es : List Decision) → Jumped ds es → Lasts ds es
lasts_jumped ds es jumped first none (rest, e) = go (cases_lt jumped.place (length first))
  where
    go : (jumped.place < length first) ⊎ (length first ≤ jumped.place) → Extends first es
    go (inl l) =
        let d = jumped.made in
        absurd (none jumped.place d l (ap (λ (x : Decision). x.forcing) (sym (get_or_append_left first rest d jumped.place l) ∙ ap (λ xs. get_or xs jumped.place d) (sym e)) ∙ jumped.chosen d))
    go (inr g) =
        let n = jumped.place - length first in
        let k : length first + n ≡ jumped.place = omega arith in (
          take n rest ++ jumped.made ∷ [],
          jumped.is ∙ ap (λ xs. xs ++ jumped.made ∷ []) (ap (take jumped.place) e ∙ ap (λ i. take i (first ++ rest)) (sym k) ∙ take-append-add first rest n)
              ∙ append_assoc first (take n rest) (jumped.made ∷ []),
        )

-- literals that are true where nothing was chosen stay true
pub grounded_here : (ls : List ℕ) (ds : List Decision) → NoChoice ds → AssumedTo (length ls) ls ds → Grounded ls ds
grounded_here ls ds none assumed = record { first = ds; unchosen = none; reached = extends_same ds ds refl; assumed = assumed }

pub grounded_lasts : (ls : List ℕ) (ds es : List Decision) → Lasts ds es → Grounded ls ds → Grounded ls es
grounded_lasts ls ds es lasts g = record { first = g.first; unchosen = g.unchosen; reached = lasts g.first g.unchosen g.reached; assumed = g.assumed }

-- literals that the first decisions make true are met by all that is true
pub grounded_kept : (ls : List ℕ) (ds : List Decision) (s : ClauseMask) → Spells s ds → Grounded ls ds → AllKept ls s
grounded_kept ls ds s spelled g k h = unit_met (get_or ls k 0) s (spelled _ _ ∙ has_more g.first ds _ _ g.reached (g.assumed k h))

-- where nothing is assumed
pub none_assumed : (base : List (List ℕ)) → Units base []
none_assumed base k h = absurd (let z : ⊥ = omega (arith, h) in z)

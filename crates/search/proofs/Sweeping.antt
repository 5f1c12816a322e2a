-- The first pass over the clauses. Assumes nothing.
use Rattle.std.proofs.Common.{◌≡◌, ℕ, ◌+◌, ◌<◌, Bool, true, false, cond, nat_lt, List, [], ◌∷◌, ◌++◌, length, get_or, refl, sym, ap, ◌∙◌, subst, inl, inr, arith, append-nil}
use Rattle.std.proofs.lemmas.Bool.{cases_lt}
use Rattle.std.proofs.lemmas.List.{append_assoc, get_or_default}
use Rattle.masks.specs.declared.mask.ClauseMask.{ClauseMask}
use Rattle.masks.specs.declared.mask.Standing.{Standing}
use Rattle.masks.specs.declared.mask.Standing.TheVariants.{True, Open, Forces, False}
use Rattle.trail.specs.declared.decision.Decision.{Decision}
use Rattle.search.specs.Looks.{Swept, SweptTo}
use Rattle.search.specs.Searches.{Extends}
use Rattle.search.specs.Watched.{added, Begun}
use Rattle.search.proofs.Looking.{looked_later}

-- what is watched only grows
abbrev Grows : List (ℕ × ℕ) → List (ℕ × ℕ) → Type 0
Grows before after = (more : List (ℕ × ℕ)) × (after ≡ before ++ more)

added_grows : (room : ℕ) (x : ℕ × ℕ) (links : List (ℕ × ℕ)) → Grows links (added room x links)
added_grows room x links = go (nat_lt (length links) room)
  where
    go : (b : Bool) → Grows links (cond b (links ++ x ∷ []) links)
    go true = (x ∷ [], refl)
    go false = ([], sym (append-nil links))

grows_trans : (us vs ws : List (ℕ × ℕ)) → Grows us vs → Grows vs ws → Grows us ws
grows_trans us vs ws (m, e) (n, f) = (m ++ n, f ∙ ap (λ xs. xs ++ n) e ∙ append_assoc us m n)

begun_grows : (m : ClauseMask) (known k room : ℕ) (s : Standing) (before after : List (ℕ × ℕ)) → Begun m known k room s before after → Grows before after
begun_grows m known k room True before after e = ([], e ∙ sym (append-nil before))
begun_grows m known k room Open before after b =
    let (more, e) = grows_trans before _ _ (added_grows room _ before) (added_grows room _ _) in (more, b.made ∙ e)
begun_grows m known k room (Forces l) before after e = ([], e ∙ sym (append-nil before))
begun_grows m known k room False before after e = ([], e ∙ sym (append-nil before))

-- what the pass did for a clause stays so
swept_later : (m : ClauseMask) (k room : ℕ) (ds es fs : List Decision) (links new more : List (ℕ × ℕ)) → Swept m k room ds es links → Extends es fs → new ≡ links ++ more → Swept m k room ds fs new
swept_later m k room ds es fs links new more s e f =
    record {
      looked = looked_later m ds es fs s.looked e;
      known = s.known;
      of_known = s.of_known;
      before = s.before;
      after = s.after;
      begun = s.begun;
      more = s.more ++ more;
      stand = f ∙ ap (λ xs. xs ++ more) s.stand ∙ append_assoc s.after s.more more;
    }

-- one clause more
pub swept_next : (n room : ℕ) (ms : List ClauseMask) (ds es fs : List Decision) (links new : List (ℕ × ℕ)) (m : ClauseMask) (known : ℕ) (s : Standing) → SweptTo n ms room ds es links → Extends es fs
    → Begun m known n room s links new → Swept m n room ds fs new → n < length ms → (d : ClauseMask) → m ≡ get_or ms n d → SweptTo (n + 1) ms room ds fs new
swept_next n room ms ds es fs links new m known s before e begun here within d same k x l =
    elim (cases_lt k n) [
      | inl a ↦ let (more, f) = begun_grows m known n room s links new begun in swept_later (get_or ms k x) k room ds es fs links new more (before k x a) e f
      | inr b ↦
          let i : n ≡ k = omega arith in
          subst (λ j. Swept (get_or ms j x) j room ds fs new) i (subst (λ y. Swept y n room ds fs new) (same ∙ get_or_default ms n d x within) here)
    ]

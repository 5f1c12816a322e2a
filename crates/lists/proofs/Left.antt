-- What is left of a list of clauses from some place on. Assumes nothing.
use Rattle.std.proofs.Common.{◌≡◌, ℕ, ◌+◌, ◌<◌, ◌≤◌, List, [], ◌∷◌, length, get_or, drop, sym, ◌∙◌, inl, inr}
use Rattle.std.proofs.lemmas.Bool.{cases_lt}
use Rattle.std.proofs.lemmas.List.{drop_more}
use Rattle.std.proofs.Math.ListN.{drop_of_length-le}

-- the first of it stands in that place, and the others are left from the next place on
pub left_more : (ds : List (List ℕ)) (k : ℕ) (d : List ℕ) (rest : List (List ℕ)) → drop k ds ≡ d ∷ rest → (k < length ds) × (d ≡ get_or ds k []) × (rest ≡ drop (k + 1) ds)
left_more ds k d rest e =
    elim (cases_lt k (length ds)) [
      | inl h ↦ (let q = sym e ∙ drop_more ds k [] h in (h, cc, cc))
      | inr g ↦ absurd (let q = sym (drop_of_length-le ds g) ∙ e in cc)
    ]

-- nothing is left from the end on
pub left_none : (ds : List (List ℕ)) (k : ℕ) → drop k ds ≡ [] → length ds ≤ k
left_none ds k e = elim (cases_lt k (length ds)) [ inl h ↦ absurd (let q = sym e ∙ drop_more ds k [] h in cc) | inr g ↦ g ]

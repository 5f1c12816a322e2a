-- Where sections end, and the bytes from there on. Assumes nothing.
use Rattle.std.proofs.Common.{◌≡◌, ℕ, ◌+◌, ◌-◌, List, length, drop, sym, ap, ◌∙◌, inl, inr, arith, length-drop}
use Rattle.std.proofs.lemmas.List.{drop_all, drop-drop}
use Rattle.std.proofs.lemmas.Bool.{cases_lt}
use Rattle.lists.specs.Spelling.{after_clauses}
use Rattle.lists.proofs.Spelled.{after_drop}
use Rattle.layout.specs.Reading.{end_of, step_place, safety_place, left_place}

-- the bytes from the start of each section on, and those left over
abbrev pub start_bytes : List ℕ → List ℕ
start_bytes bs = drop 18 bs

abbrev pub step_bytes : List ℕ → List ℕ
step_bytes bs = drop (step_place bs) bs

abbrev pub safety_bytes : List ℕ → List ℕ
safety_bytes bs = drop (safety_place bs) bs

abbrev pub left_bytes : List ℕ → List ℕ
left_bytes bs = drop (left_place bs) bs

-- the end of a list, by how much of it is left
left_drop : (i : ℕ) (bs : List ℕ) → drop (length bs - length (drop i bs)) bs ≡ drop i bs
left_drop i bs =
    elim (cases_lt i (length bs)) [
      | inl h ↦ ap (λ k. drop k bs) (let e : length bs - length (drop i bs) ≡ i = omega (arith, length-drop i bs) in e)
      | inr h ↦ drop_all (length bs - length (drop i bs)) bs (omega (arith, length-drop i bs)) ∙ sym (drop_all i bs h)
    ]

-- what follows the clauses of a section is the bytes from its end on
pub after_section : (count at : ℕ) (bs : List ℕ) → drop (end_of count at bs) bs ≡ after_clauses count (drop at bs)
after_section count at bs =
    let r = after_drop count (drop at bs) in
    let e = r.1 ∙ drop-drop r.0 at bs in
    ap (λ xs. drop (length bs - length xs) bs) e ∙ left_drop (at + r.0) bs ∙ sym e

-- a place by the bytes from there on
pub end_length : (count at : ℕ) (bs : List ℕ) → end_of count at bs ≡ length bs - length (drop (end_of count at bs) bs)
end_length count at bs = ap (λ xs. length bs - length xs) (sym (after_section count at bs))

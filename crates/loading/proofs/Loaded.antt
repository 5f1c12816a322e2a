-- Clauses added one after another: what is held, followed by what is left, is everything. Assumes nothing.
use Rattle.std.proofs.Common.{◌≡◌, ℕ, ◌+◌, true, false, List, [], ◌∷◌, ◌++◌, length, sym, ap, ◌∙◌, zero-add, arith, append_assoc, append-nil, length-append, nat_le}
use Rattle.std.proofs.lemmas.Bool.{and_parts, and_from, leb-true, le-leb, lt-ltb}
use Rattle.std.proofs.lemmas.Bool.Decides.{nat_tests}
use Rattle.system.specs.Literals.{size}
use Rattle.system.proofs.Sizes.{size_append}
use Rattle.solver.specs.Answers.{fits, spare, need_of}
use Rattle.solver.specs.declared.capacity.Capacity.{Capacity}

module _ (held cs : List (List ℕ)) (capacity : Capacity) (room : spare (need_of cs) held capacity ≡ true) (now left : List (List ℕ)) (all : now ++ left ≡ held ++ cs) where
  -- the next of what is left fits
  pub next_fits : (c : List ℕ) (rest : List (List ℕ)) → left ≡ c ∷ rest → fits now c capacity ≡ true
  next_fits c rest e =
      let p = and_parts (nat_le (length held + length cs) capacity.clauses) (nat_le (size held + size cs) capacity.literals) room in
      let x = leb-true (length held + length cs) capacity.clauses p.0 in
      let y = leb-true (size held + size cs) capacity.literals p.1 in
      let a = sym (length-append now left) ∙ ap length all ∙ length-append held cs in
      let b = sym (size_append now left) ∙ ap size all ∙ size_append held cs in
      let f = ap length e in
      let g = ap size e in
      and_from _ _ (lt-ltb (length now) capacity.clauses (omega arith)) (le-leb (size now + length c) capacity.literals (omega arith))

-- two lists, one after the other: room for both is room for the first, and then for the second
pub spare_first : (xs ys : List (List ℕ)) (capacity : Capacity) → spare (need_of xs) [] capacity ≡ false → spare (need_of (xs ++ (ys ++ []))) [] capacity ≡ false
spare_first xs ys capacity h =
    let e = append-nil ys in let n = length-append xs ys in let s = size_append xs ys in rw e (grind (arith, nat_tests))

pub spare_both : (xs ys : List (List ℕ)) (capacity : Capacity) → spare (need_of ys) xs capacity ≡ spare (need_of (xs ++ (ys ++ []))) [] capacity
spare_both xs ys capacity =
    let e = append-nil ys in let n = length-append xs ys in let s = size_append xs ys in rw (e, n, s) (simp zero-add)

pub ruleset both = (spare_first, spare_both)

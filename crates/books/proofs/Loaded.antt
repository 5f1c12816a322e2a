-- A book loaded entry by entry: what is held, followed by what is left, is everything. Assumes nothing.
use Rattle.std.proofs.Common.{◌≡◌, ℕ, ◌+◌, ◌<◌, Bool, true, false, cond, List, [], ◌∷◌, ◌++◌, length, get_or, drop, sym, ap, ◌∙◌, arith, append_assoc, length-append}
use Rattle.std.proofs.lemmas.List.{drop_more}
use Rattle.std.proofs.lemmas.Bool.Decides.{nat_tests}
use Rattle.system.specs.Systems.{System}
use Rattle.system.specs.Preserving.{loaded}
use Rattle.system.proofs.Sizes.{size_append}
use Rattle.solver.specs.Answers.{fits, spare, need_of}
use Rattle.solver.specs.declared.capacity.Capacity.{Capacity}
use Rattle.books.specs.Entries.{blank, held_clause, held_clauses}
use Rattle.books.specs.Books.{book_loaded}
use Rattle.books.specs.declared.entry.Entry.{Entry}

-- the further clauses follow a system's own
loaded_more : (c : System) (more : List (List ℕ)) → loaded c [] ++ more ≡ loaded c more
loaded_more c more = append_assoc c.step (c.safety ++ []) more ∙ ap (λ xs. c.step ++ xs) (append_assoc c.safety [] more)

-- where some clauses do not fit, those and more do not
spare_front : (xs ys : List (List ℕ)) (capacity : Capacity) → spare (need_of xs) [] capacity ≡ false → spare (need_of (xs ++ ys)) [] capacity ≡ false
spare_front xs ys capacity h = let n = length-append xs ys in let s = size_append xs ys in grind (arith, nat_tests)

pub loaded_front : (c : System) (es : List Entry) (capacity : Capacity) → spare (need_of (loaded c [])) [] capacity ≡ false → spare (need_of (book_loaded c es)) [] capacity ≡ false
loaded_front c es capacity h =
    ap (λ xs. spare (need_of xs) [] capacity) (sym (loaded_more c (held_clauses c.n es))) ∙ spare_front (loaded c []) (held_clauses c.n es) capacity h

-- one clause more
spare_next : (xs : List (List ℕ)) (d : List ℕ) (capacity : Capacity) → fits xs d capacity ≡ spare (need_of (xs ++ d ∷ [])) [] capacity
spare_next xs d capacity = let n = length-append xs (d ∷ []) in let s = size_append xs (d ∷ []) in grind (arith, nat_tests)

-- entry k is next
module _ (c : System) (es : List Entry) (k : ℕ) (here : k < length es) (held : List (List ℕ)) (all : held ++ held_clauses c.n (drop k es) ≡ book_loaded c es) where
  next : List ℕ
  next = held_clause c.n (get_or es k blank)

  split : (held ++ next ∷ []) ++ held_clauses c.n (drop (k + 1) es) ≡ book_loaded c es
  unfolding next
  split =
      append_assoc held (next ∷ []) (held_clauses c.n (drop (k + 1) es))
      ∙ sym (ap (λ xs. held ++ held_clauses c.n xs) (drop_more es k blank here))
      ∙ all

  -- its clause is added, or does not fit
  module _ (d : List ℕ) (same : d ≡ held_clause c.n (get_or es k blank)) (capacity now : Capacity) (ok : Bool) (kept : now ≡ capacity) (test : ok ≡ fits held d now) where
    fitting : spare (need_of (held ++ d ∷ [])) [] capacity ≡ ok
    fitting = sym (spare_next held d capacity) ∙ ap (fits held d) (sym kept) ∙ sym test

    module _ (after : List (List ℕ)) (added : after ≡ cond ok (held ++ d ∷ []) held) (h : ok ≡ true) where
      one_more : after ≡ held ++ d ∷ []
      one_more = added ∙ ap (λ b. cond b (held ++ d ∷ []) held) h

      pub left_next : after ++ held_clauses c.n (drop (k + 1) es) ≡ book_loaded c es
      unfolding next
      left_next = ap (λ xs. xs ++ held_clauses c.n (drop (k + 1) es)) (one_more ∙ ap (λ x. held ++ x ∷ []) same) ∙ split

      pub next_room : spare (need_of after) [] capacity ≡ true
      next_room = ap (λ xs. spare (need_of xs) [] capacity) one_more ∙ fitting ∙ h

    pub no_room : ok ≡ false → spare (need_of (book_loaded c es)) [] capacity ≡ false
    unfolding next
    no_room h =
        ap (λ xs. spare (need_of xs) [] capacity) (sym split)
        ∙ spare_front (held ++ next ∷ []) (held_clauses c.n (drop (k + 1) es)) capacity
        (ap (λ x. spare (need_of (held ++ x ∷ [])) [] capacity) (sym same) ∙ fitting ∙ h)

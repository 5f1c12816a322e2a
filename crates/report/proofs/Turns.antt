-- The lines of a judging, one after another: those of the entries so far, and what follows them. Assumes nothing.
use Rattle.std.proofs.Common.{◌≡◌, ℕ, zero, suc, ◌+◌, ◌<◌, ◌≤◌, List, [], ◌∷◌, ◌++◌, length, get_or, take, codes, decimal, sym, ap, ◌∙◌, ap₂, arith}
use Rattle.std.proofs.lemmas.List.{append_assoc, append-nil, take_all}
use Rattle.books.specs.declared.entry.Entry.{Entry}
use Rattle.histories.specs.declared.verdict.Verdict.TheVariants.{Holds}
use Rattle.report.specs.Lines.{entry_line, entry_lines, holds_line}

-- the turn that decided, and what follows it
pub holds_then : (turn : ℕ) (more : List ℕ) → codes "turn " ++ (decimal turn ++ (codes " holds\n" ++ more)) ≡ holds_line Holds turn ++ more
holds_then turn more = ap (λ bs. codes "turn " ++ bs) (sym (append_assoc (decimal turn) (codes " holds\n") more))

-- the line of one more entry
line_more : (turn i : ℕ) (es : List Entry) (d : Entry) → i < length es → entry_lines turn (take (suc i) es) ≡ entry_lines turn (take i es) ++ entry_line (turn + i) (get_or es i d)
line_more turn i [] d h = absurd (omega arith)
line_more turn zero (e ∷ es) d h = append-nil (entry_line turn e) ∙ ap (λ n. entry_line n e) (let z : turn ≡ turn + zero = omega arith in z)
line_more turn (suc i) (e ∷ es) d h =
    ap (λ bs. entry_line turn e ++ bs) (line_more (suc turn) i es d (omega arith))
    ∙ sym (append_assoc (entry_line turn e) (entry_lines (suc turn) (take i es)) (entry_line (suc turn + i) (get_or es i d)))
    ∙ ap (λ n. entry_lines turn (take (suc i) (e ∷ es)) ++ entry_line n (get_or es i d)) (let z : suc turn + i ≡ turn + suc i = omega arith in z)

-- the entries so far and one more, and all entries and the end
module _ (told opened : List ℕ) (i : ℕ) (es : List Entry) (e : told ≡ opened ++ entry_lines 1 (take i es)) where
  pub told_more : (d : Entry) → i < length es → told ++ entry_line (i + 1) (get_or es i d) ≡ opened ++ entry_lines 1 (take (i + 1) es)
  told_more d h = let z : i + 1 ≡ suc i = omega arith in let y : 1 + i ≡ suc i = omega arith in
      ap₂ (λ bs n. bs ++ entry_line n (get_or es i d)) e (z ∙ sym y)
      ∙ append_assoc opened (entry_lines 1 (take i es)) (entry_line (1 + i) (get_or es i d))
      ∙ ap (λ bs. opened ++ bs) (sym (line_more 1 i es d h))
      ∙ ap (λ n. opened ++ entry_lines 1 (take n es)) (sym z)

  pub told_all : (end : List ℕ) → length es ≤ i → told ++ end ≡ opened ++ (entry_lines 1 es ++ end)
  told_all end h =
      ap (λ bs. bs ++ end) (e ∙ ap (λ fs. opened ++ entry_lines 1 fs) (take_all i es h))
      ∙ append_assoc opened (entry_lines 1 es) end

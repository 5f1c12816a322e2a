-- Valuations that make true what a solver holds of a book are the steps from the states that are consistent with it. Assumes nothing.
use Rattle.std.proofs.Common.{◌≡◌, ℕ, ◌/◌, ◌%◌, ◌^◌, ◌<◌, ◌≤◌, not, T, List, ◌++◌, Some, None, sym, ap, ◌∙◌, subst, subst₂, inl, inr, arith}
use Rattle.std.specs.List.{AllByRecursion}
use Rattle.system.specs.Literals.{Valuation, bit, clause, clauses}
use Rattle.system.specs.Systems.{System, step_bits, OverRelays, Rising}
use Rattle.system.specs.Preserving.{after, StepFormed, met}
use Rattle.system.specs.Spelling.{number}
use Rattle.system.proofs.Truth.{cases_T, member_all, all_members, member_cases, clauses_parts, clauses_append}
use Rattle.system.proofs.Numbers.{bit_number, number_below}
use Rattle.system.proofs.Preserving.{relays_alike, relays_same, step_before, step_after, step_of}
use Rattle.solver.specs.Answers.{literals, model, Satisfied}
use Rattle.books.specs.declared.entry.Entry.{Entry}
use Rattle.books.specs.Entries.{held_clauses}
use Rattle.books.specs.Books.{meets, book_loaded}
use Rattle.questions.specs.Questions.{StepAgainst}
use Rattle.questions.proofs.Valuations.{before_model, after_model}
use Rattle.questions.proofs.Initials.{over_32}

module _ (c : System) (formed : StepFormed c) (safe : AllByRecursion (λ e. OverRelays c.n e × Rising e) c.safety) (es : List Entry)
    (held_over : AllByRecursion (OverRelays c.n) (held_clauses c.n es)) (alike : (s : ℕ) → s < 2 ^ c.n → met c (held_clauses c.n es) s ≡ meets c es s)
    (held : List (List ℕ)) (holds : held ≡ book_loaded c es) (d : List ℕ) (over : OverRelays c.n d) (assumed : List ℕ)
    (denied : OverRelays 32 d → (a : Valuation) → literals a assumed ≡ not (clause (after a) d)) where
  few : c.n ≤ 32
  few = formed.relays

  false_after : (a : Valuation) → literals a assumed ≡ not (clause (after a) d)
  false_after = denied (over_32 c.n d few over)

  before_over : AllByRecursion (OverRelays c.n) (c.safety ++ held_clauses c.n es)
  before_over =
      all_members (OverRelays c.n) (c.safety ++ held_clauses c.n es) (λ e m. elim (member_cases e c.safety (held_clauses c.n es) m) [
        | inl k ↦ (member_all (λ e. OverRelays c.n e × Rising e) c.safety e safe k).0
        | inr k ↦ member_all (OverRelays c.n) (held_clauses c.n es) e held_over k
      ])

  -- a valuation with the relays of a state before a step
  meets_same : (a : Valuation) (s : ℕ) → s < 2 ^ c.n → ((v : ℕ) → v < c.n → a v ≡ bit s v) → clauses a (c.safety ++ held_clauses c.n es) ≡ meets c es s
  meets_same a s low same = relays_same c.n a (bit s) (c.safety ++ held_clauses c.n es) before_over same ∙ alike s low

  step_from : (a : Valuation) → Satisfied a held assumed → StepAgainst c es d (Some (record { state = number c.n a; successor = number c.n (after a) }))
  step_from a s =
      record {
        consistent = subst T (meets_same a (number c.n a) (number_below c.n a) (λ v h. sym (bit_number c.n a v h))) parts.1;
        joined = step_of c formed a parts.0;
        broken = subst T (false_after a ∙ ap not (relays_alike c.n (after a) (bit (number c.n (after a))) d over (λ v h. sym (bit_number c.n (after a) v h)))) s.1;
      }
    where
      parts : T (clauses a c.step) × T (clauses a (c.safety ++ held_clauses c.n es))
      parts = clauses_parts a c.step (c.safety ++ held_clauses c.n es) (subst (λ cs. T (clauses a cs)) holds s.0)

  pub step_yes : (low high : ℕ) → Satisfied (model low high) held assumed → (s t : ℕ) → s ≡ low % 2 ^ c.n → t ≡ low / 4294967296 % 2 ^ c.n
      → StepAgainst c es d (Some (record { state = s; successor = t }))
  step_yes low high t x y is_x is_y =
      subst₂ (λ p q. StepAgainst c es d (Some (record { state = p; successor = q })))
      (sym (is_x ∙ before_model c.n low high few)) (sym (is_y ∙ after_model c.n low high few)) (step_from (model low high) t)

  pub step_no : ((a : Valuation) → Satisfied a held assumed → ⊥) → StepAgainst c es d None
  step_no none s t m j =
      elim (cases_T (clause (bit t) d)) [
        | inl y ↦ y
        | inr n ↦ absurd (none a (
          subst (λ cs. T (clauses a cs)) (sym holds) (clauses_append a c.step (c.safety ++ held_clauses c.n es) j.joins (subst T (sym (meets_same a s j.low before)) m)),
          subst T (sym (false_after a ∙ ap not (relays_alike c.n (after a) (bit t) d over behind))) n,
        ))
      ]
    where
      a : Valuation
      a = step_bits s t j.inputs

      before : (v : ℕ) → v < c.n → a v ≡ bit s v
      before v h = step_before s t j.inputs v (omega arith)

      behind : (v : ℕ) → v < c.n → after a v ≡ bit t v
      behind v h = step_after s t j.inputs v (omega arith)

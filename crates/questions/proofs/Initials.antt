-- Valuations that make the start clauses true are the initial states. Assumes nothing.
use Rattle.std.proofs.Common.{◌≡◌, ℕ, ◌%◌, ◌^◌, ◌<◌, ◌≤◌, Bool, not, T, IsTrue, List, Some, None, sym, ap, ◌∙◌, subst, inl, inr, arith}
use Rattle.std.specs.List.{AllByRecursion}
use Rattle.system.specs.Literals.{Valuation, bit, variable_of, clause, clauses}
use Rattle.system.specs.Systems.{System, Initial, OverRelays, Rising}
use Rattle.system.specs.Spelling.{number}
use Rattle.system.proofs.Truth.{T_of, T_true, cases_T, member_all, all_members}
use Rattle.system.proofs.Numbers.{bit_number, number_below}
use Rattle.system.proofs.Preserving.{relays_alike, relays_same}
use Rattle.solver.specs.Answers.{literals, model, Satisfied}
use Rattle.questions.specs.Questions.{InitialAgainst}
use Rattle.questions.proofs.Valuations.{before_model}

-- a clause over the relays is one over 32
pub over_32 : (n : ℕ) (d : List ℕ) → n ≤ 32 → OverRelays n d → OverRelays 32 d
over_32 n d few over = all_members (λ l. variable_of l < 32) d (λ l m. let h = member_all (λ k. variable_of k < n) d l over m in omega arith)

module _ (c : System) (few : c.n ≤ 32) (starts : AllByRecursion (λ e. OverRelays c.n e × Rising e) c.start) (held : List (List ℕ)) (holds : held ≡ c.start) (d : List ℕ) (over : OverRelays c.n d) (assumed : List ℕ)
    (denied : OverRelays 32 d → (a : Valuation) → literals a assumed ≡ not (clause a d)) where
  false_where : (a : Valuation) → literals a assumed ≡ not (clause a d)
  false_where = denied (over_32 c.n d few over)

  start_over : AllByRecursion (OverRelays c.n) c.start
  start_over = all_members (OverRelays c.n) c.start (λ e m. (member_all (λ e. OverRelays c.n e × Rising e) c.start e starts m).0)

  initial_of : (a : Valuation) → Satisfied a held assumed → InitialAgainst c d (Some (number c.n a))
  initial_of a s = (
    record { low = number_below c.n a; starts = subst T (relays_same c.n a (bit (number c.n a)) c.start start_over same) (subst (λ cs. T (clauses a cs)) holds s.0) },
    subst T (false_where a ∙ ap not (relays_alike c.n a (bit (number c.n a)) d over same)) s.1,
  )
    where
      same : (v : ℕ) → v < c.n → a v ≡ bit (number c.n a) v
      same v h = sym (bit_number c.n a v h)

  pub initial_yes : (low high : ℕ) → Satisfied (model low high) held assumed → (s : ℕ) → s ≡ low % 2 ^ c.n → InitialAgainst c d (Some s)
  initial_yes low high t s is = subst (λ x. InitialAgainst c d (Some x)) (sym (is ∙ before_model c.n low high few)) (initial_of (model low high) t)

  pub initial_no : ((a : Valuation) → Satisfied a held assumed → ⊥) → InitialAgainst c d None
  initial_no none s i =
      elim (cases_T (clause (bit s) d)) [
        | inl y ↦ y
        | inr n ↦ absurd (none (bit s) (subst (λ cs. T (clauses (bit s) cs)) (sym holds) i.starts, subst T (sym (false_where (bit s))) n))
      ]

-- whether a state is initial, from the two tests
pub initial_tests : (c : System) (s : ℕ) (r : Bool) → s < 2 ^ c.n → r ≡ clauses (bit s) c.start → (IsTrue r → Initial c s) × (Initial c s → IsTrue r)
initial_tests c s r low is = (λ t. record { low = low; starts = T_of (sym is ∙ t) }, λ i. is ∙ T_true (clauses (bit s) c.start) i.starts)

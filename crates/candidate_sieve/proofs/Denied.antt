-- What the answers about the denied literals of a clause say. Assumes nothing.
use Rattle.std.proofs.Common.{◌≡◌, ℕ, ◌+◌, ◌-◌, ◌/◌, ◌%◌, ◌<◌, ◌≤◌, true, not, ◌&&◌, cond, T, eqb, List, [], ◌∷◌, length, Some, None, sym, ap, ◌∙◌, subst, inl, inr, arith, shr-shr}
use Rattle.std.proofs.lemmas.Bool.{lt-ltb, eq-eqb}
use Rattle.system.specs.Literals.{Valuation, bit, clause}
use Rattle.system.specs.Preserving.{after}
use Rattle.system.proofs.Truth.{T_false, and_i, cases_T}
use Rattle.system.proofs.Preserving.{relays_alike}
use Rattle.system.proofs.Sizes.{rising_length}
use Rattle.solver.specs.Answers.{literals, model, Satisfied}
use Rattle.candidate_sieve.specs.Candidates.{Formed, chosen}
use Rattle.candidate_sieve.specs.Questions.{Found}

-- a candidate has at most 32 literals
pub formed_length : (c : List ℕ) → Formed c → length c ≤ 32
formed_length c f = rising_length 32 c f.0 f.1

-- the state after a step that a model gives
pub bit_after : (low v : ℕ) → bit (low / 4294967296) v ≡ bit low (32 + v)
bit_after low v = ap (λ x. eqb (x % 2) 1) (shr-shr low 32 v)

model_after : (low high v : ℕ) → v < 32 → bit low (32 + v) ≡ after (model low high) v
model_after low high v h = sym (ap (λ b. cond b (bit low (32 + v)) (bit high ((32 + v) - 64))) (lt-ltb (32 + v) 64 (omega arith)))

module _ (held : List (List ℕ)) (c assumed : List ℕ) (f : Formed c) (d : (a : Valuation) → literals a assumed ≡ not (clause (after a) c)) (x : ℕ) where
  pub answer_yes : x ≡ 1 → (low high t : ℕ) → Satisfied (model low high) held assumed → ((v : ℕ) → v < 32 → bit t v ≡ bit low (32 + v)) → Found held (chosen (x ∷ []) (c ∷ [])) (Some t)
  answer_yes e low high t s is = rw (eq-eqb x 1 e) (record { values = model low high; admitted = s.0; next = next; broken = broken })
    where
      next : (v : ℕ) → v < 32 → bit t v ≡ after (model low high) v
      next v h = is v h ∙ model_after low high v h

      false_after : T (not (clause (bit t) c))
      false_after = subst T (d (model low high) ∙ ap not (sym (relays_alike 32 (bit t) (after (model low high)) c f.0 next))) s.1

      broken : T (not (clause (bit t) c && true))
      broken = subst (λ b. T (not (b && true))) (sym (T_false (clause (bit t) c) false_after)) tt

  pub answer_no : x ≡ 1 → ((a : Valuation) → Satisfied a held assumed → ⊥) → Found held (chosen (x ∷ []) (c ∷ [])) None
  answer_no e none a t = rw (eq-eqb x 1 e) (and_i (clause (after a) c) true (elim (cases_T (clause (after a) c)) [
    | inl y ↦ y
    | inr n ↦ absurd (none a (t, subst T (sym (d a)) n))
  ]) tt)

-- The states before and after a step that a model gives. Assumes nothing.
use Rattle.std.proofs.Common.{◌≡◌, ℕ, ◌+◌, ◌-◌, ◌/◌, ◌%◌, ◌^◌, ◌≤◌, cond, eqb, sym, ap, ◌∙◌, arith, pow_pos, shr-shr}
use Rattle.std.proofs.lemmas.Bool.{lt-ltb}
use Rattle.std.proofs.lemmas.Nat.{mod_below}
use Rattle.system.specs.Literals.{bit}
use Rattle.system.specs.Preserving.{after}
use Rattle.system.specs.Spelling.{number}
use Rattle.system.proofs.Bits.{low_bits}
use Rattle.solver.specs.Answers.{model}
use Rattle.books.proofs.Binary.{number_bits}

module _ (n low high : ℕ) (few : n ≤ 32) where
  -- the state before a step has the lowest bits of the model, and that after it those from bit 32 on
  pub before_model : low % 2 ^ n ≡ number n (model low high)
  before_model =
      number_bits n (low % 2 ^ n) (model low high) (mod_below low (2 ^ n) (pow_pos n)) (λ v h.
      low_bits low v n h ∙ sym (ap (λ b. cond b (bit low v) (bit high (v - 64))) (lt-ltb v 64 (omega arith))))

  pub after_model : low / 4294967296 % 2 ^ n ≡ number n (after (model low high))
  after_model =
      number_bits n (low / 4294967296 % 2 ^ n) (after (model low high)) (mod_below (low / 4294967296) (2 ^ n) (pow_pos n)) (λ v h.
      low_bits (low / 4294967296) v n h
      ∙ ap (λ x. eqb (x % 2) 1) (shr-shr low 32 v)
      ∙ sym (ap (λ b. cond b (bit low (32 + v)) (bit high ((32 + v) - 64))) (lt-ltb (32 + v) 64 (omega arith))))

-- A clause with no more literals than a state has relays counts whole. Assumes nothing.
use Rattle.std.proofs.Common.{ℕ, ◌≤◌, List, length, take, subst}
use Rattle.std.proofs.lemmas.List.{take_all}
use Rattle.system.specs.Systems.{OverRelays}

-- a clause over so many relays, with no more literals than a state has relays
pub record Narrow (n : ℕ) (d : List ℕ) : Type 0 where
  pub over : OverRelays n d
  pub short : length d ≤ 32

pub whole : (P : List ℕ → Type 0) (n : ℕ) (d : List ℕ) → (OverRelays n (take 32 d) → P (take 32 d)) → Narrow n d → P d
whole P n d answer narrow = subst (λ x. OverRelays n x → P x) (take_all 32 d narrow.short) answer narrow.over

-- How many literals clauses and lists of clauses have. Assumes nothing.
use Rattle.std.proofs.Common.{◌≡◌, ℕ, ◌+◌, ◌<◌, ◌≤◌, List, [], ◌∷◌, ◌++◌, length, arith}
use Rattle.std.specs.List.{AllByRecursion}
use Rattle.system.specs.Literals.{variable_of, size}
use Rattle.system.specs.Systems.{OverRelays, Rising}

-- two lists together
pub size_append : (cs ds : List (List ℕ)) → size (cs ++ ds) ≡ size cs + size ds
size_append [] ds = omega arith
size_append (c ∷ cs) ds = let h = size_append cs ds in omega arith

-- a clause over so many relays, in which they rise, has no more literals
rising_after : (n v : ℕ) (c : List ℕ) → OverRelays n c → Rising c → AllByRecursion (λ k. v < variable_of k) c → v < n → v + 1 + length c ≤ n
rising_after n v [] o r a h = omega arith
rising_after n v (l ∷ c) o r a h = let e = rising_after n (variable_of l) c o.1 r.1 r.0 o.0 in let b = a.0 in omega arith

pub rising_length : (n : ℕ) (c : List ℕ) → OverRelays n c → Rising c → length c ≤ n
rising_length n [] o r = omega arith
rising_length n (l ∷ c) o r = let e = rising_after n (variable_of l) c o.1 r.1 r.0 o.0 in omega arith

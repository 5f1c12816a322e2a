-- How a storage keeps its clauses: its literals, cut into parts of the lengths that it keeps, and their sets of literals.
use Rattle.std.specs.Prelude.{◌≡◌, ℕ, ◌≤◌, List, map, sum, vec_items, vec_len, vec_capacity}
use Rattle.masks.specs.Masks.{mask_of}
use Rattle.storage.specs.Parts.{parts}
use Rattle.storage.specs.Stored.{Stored}
use Rattle.storage.specs.declared.storage.Storage.TheInside.{Inside}

abbrev pub held_by : Inside → List (List ℕ)
held_by s = parts (vec_items s.lengths) (vec_items s.literals)

abbrev pub stored : Inside → Stored
stored s = record { held = held_by s; capacity = s.capacity }

pub record Kept (s : Inside) : Type 0 where
  pub whole : sum (vec_items s.lengths) ≡ vec_len s.literals
  pub paired : vec_len s.lengths ≡ vec_len s.masks
  pub masked : vec_items s.masks ≡ map mask_of (held_by s)
  pub clauses_within : vec_len s.masks ≤ s.capacity.clauses
  pub literals_within : vec_len s.literals ≤ s.capacity.literals
  pub masks_reserved : s.capacity.clauses ≤ vec_capacity s.masks
  pub lengths_reserved : s.capacity.clauses ≤ vec_capacity s.lengths
  pub literals_reserved : s.capacity.literals ≤ vec_capacity s.literals

-- A list cut into parts of given lengths.
use Rattle.std.specs.Prelude.{ℕ, List, [], ◌∷◌, take, drop}

-- the first part has the first length, and so on
abbrev pub parts : List ℕ → List ℕ → List (List ℕ)
parts [] xs = []
parts (n ∷ ns) xs = take n xs ∷ parts ns (drop n xs)

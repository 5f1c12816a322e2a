-- Sets of places as lists of marks, 1 for marked and 0 for not, and families of closed sets.
use Rattle.std.specs.Prelude.{◌≡◌, ℕ, max, ◌<◌, Bool, not, T, List, [], ◌∷◌, length, replicate, ◌==◌, slice_index_or}
use Rattle.std.specs.List.{AllByRecursion}

-- place i is marked
abbrev pub marked : List ℕ → ℕ → Bool
marked M i = slice_index_or M i 0 == 1

-- one mark for each place
abbrev pub Marks : ℕ → List ℕ → Type 0
Marks places M = (length M ≡ places) × AllByRecursion (λ x. x < 2) M

-- every place marked in M is marked in N
abbrev pub Within : List ℕ → List ℕ → Type 0
Within M N = (i : ℕ) → T (marked M i) → T (marked N i)

-- the places marked in one of the two
abbrev pub union : List ℕ → List ℕ → List ℕ
union [] N = []
union (x ∷ M) [] = x ∷ M
union (x ∷ M) (y ∷ N) = max x y ∷ union M N

-- no place
abbrev pub none : ℕ → List ℕ
none places = replicate places 0

-- the largest closed set within the marks given: closed, within them, and containing every other closed set within them
pub record Largest (places : ℕ) (closed : List ℕ → Type 0) (given out : List ℕ) : Type 0 where
  pub marks : Marks places out
  pub stable : closed out
  pub within : Within out given
  pub greatest : (M : List ℕ) → Marks places M → closed M → Within M given → Within M out

-- one sifting of marks: a place or more is unmarked, and only places that lie in no closed part of the marks given
pub record Reduced (places : ℕ) (closed : List ℕ → Type 0) (given out : List ℕ) : Type 0 where
  pub marks : Marks places out
  pub within : Within out given
  pub fewer : (i : ℕ) × T (marked given i) × T (not (marked out i))
  pub idle : (i : ℕ) → T (marked given i) → T (not (marked out i)) → (M : List ℕ) → Marks places M → closed M → Within M given → T (not (marked M i))

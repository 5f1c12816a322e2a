-- The links of each literal, chained from the head of the literal on.
use Rattle.std.specs.Prelude.{◌≡◌, ℕ, zero, suc, ◌+◌, ◌-◌, ◌/◌, ◌%◌, ◌^◌, ◌<◌, ◌&&◌, ◌==◌, cond, List, [], ◌∷◌, length, Option, Some, None, slice_index_or, nat_lt}
use Rattle.std.proofs.Props.{props}
use Rattle.search.specs.declared.watches.Cursor.{Cursor}
use Rattle.search.specs.declared.watches.Link.{Link}

-- the link at a place of the table
abbrev pub link_at : List Link → ℕ → Link
link_at links p = slice_index_or links p (record { clause = 0; literal = 0; next = None })

-- the place of the other link of the same clause: the two stand side by side
abbrev pub beside : ℕ → ℕ
beside p = cond (p % 2 == 0) (p + 1) (p - 1)

-- the variable of that link's literal as a bit, or 0 where there is no such link; variables count modulo 128
abbrev pub partner_of : List Link → ℕ → ℕ
partner_of links p = cond (nat_lt (beside p) (length links)) (2 ^ ((link_at links (beside p)).literal / 2 % 128)) 0

-- the first link of a literal
abbrev pub head_of : List (Option ℕ) → ℕ → Option ℕ
head_of heads l = slice_index_or heads l None

-- how often a place comes
abbrev pub tally : ℕ → List ℕ → ℕ
tally p [] = 0
tally p (q ∷ qs) = cond (p == q) 1 0 + tally p qs

-- 1 for a place of the table whose link is of the literal, and else 0
abbrev pub owned : List Link → ℕ → ℕ → ℕ
owned links l p = cond (nat_lt p (length links) && ((link_at links p).literal == l)) 1 0

-- from the first on each place is followed by the next of its link, and the last has none
abbrev pub Runs : List Link → Option ℕ → List ℕ → Type 0
Runs links first [] = first ≡ None
Runs links first (q ∷ qs) = (first ≡ Some q) × Runs links (link_at links q).next qs

-- a chain runs through each place once whose link is of the literal, and through no other
pub record Chain (links : List Link) (l : ℕ) (first : Option ℕ) (qs : List ℕ) : Type 0 where
  pub runs : Runs links first qs
  pub once : (p : ℕ) → tally p qs ≡ owned links l p

-- the places that are come to from the first on, at most n of them
abbrev pub places : List Link → ℕ → Option ℕ → List ℕ
places links n None = []
places links zero (Some p) = []
places links (suc n) (Some p) = p ∷ places links n (link_at links p).next

-- the places that are come to from the head of the literal on
abbrev pub chain_of : List (Option ℕ) → List Link → ℕ → List ℕ
chain_of heads links l = places links (length links) (head_of heads l)

-- those of each literal are its chain
abbrev pub Linked : List (Option ℕ) → List Link → Type 0
Linked heads links = (l : ℕ) → l < 256 → Chain links l (head_of heads l) (chain_of heads links l)

-- there is one way at most to show it
runs_prop : (links : List Link) (first : Option ℕ) (qs : List ℕ) → IsProp (Runs links first qs)
runs_prop links first [] = Prim.hlevel props
runs_prop links first (q ∷ qs) = let h = runs_prop links (link_at links q).next qs in Prim.hlevel (props, h)

pub linked_prop : (heads : List (Option ℕ)) (links : List Link) → IsProp (Linked heads links)
linked_prop heads links = Prim.hlevel (props, runs_prop)

-- the places of the front, the last of them first, put before the rest
abbrev pub onto : List ℕ → List ℕ → List ℕ
onto [] rest = rest
onto (b ∷ front) rest = onto front (b ∷ rest)

-- the first of the places
abbrev pub first_of : List ℕ → Option ℕ
first_of [] = None
first_of (q ∷ qs) = Some q

-- a walk along the chain of its literal that has the rest before it
pub record At (heads : List (Option ℕ)) (links : List Link) (at : Cursor) (rest : List ℕ) : Type 0 where
  pub front : List ℕ
  pub chain : Chain links at.literal (head_of heads at.literal) (onto front rest)
  pub before : at.before ≡ first_of front
  pub place : at.place ≡ first_of rest

-- what taking out the link at which a walk is does: what was before it, a link or else the head, comes to lead to the next
pub record Unlinked (heads new_heads : List (Option ℕ)) (links new_links : List Link) (at : Cursor) (next : Option ℕ) : Type 0 where
  pub many : length new_links ≡ length links
  pub wide : length new_heads ≡ length heads
  pub clauses : (q : ℕ) → (link_at new_links q).clause ≡ (link_at links q).clause
  pub literals : (q : ℕ) → (link_at new_links q).literal ≡ (link_at links q).literal
  pub nexts : (q : ℕ) → (at.before ≡ Some q → ⊥) → (link_at new_links q).next ≡ (link_at links q).next
  pub other_heads : (k : ℕ) → (k ≡ at.literal → ⊥) → head_of new_heads k ≡ head_of heads k
  pub mended_link : (q : ℕ) → at.before ≡ Some q → ((link_at new_links q).next ≡ next) × (head_of new_heads at.literal ≡ head_of heads at.literal)
  pub mended_head : at.before ≡ None → head_of new_heads at.literal ≡ next

-- what moving the link at the place p to the literal l does, for a walk along the chain of another literal that is at p
pub record Moved (heads new_heads : List (Option ℕ)) (links new_links : List Link) (at : Cursor) (p l : ℕ) : Type 0 where
  pub many : length new_links ≡ length links
  pub clauses : (q : ℕ) → (link_at new_links q).clause ≡ (link_at links q).clause
  pub others : (q : ℕ) → (q ≡ p → ⊥) → (link_at new_links q).literal ≡ (link_at links q).literal
  pub literal : (link_at new_links p).literal ≡ l
  pub next : (link_at new_links p).next ≡ head_of heads l
  pub head : head_of new_heads l ≡ Some p
  -- the link before it, or else the head, comes to lead to what was the next
  pub nexts : (q : ℕ) → (q ≡ p → ⊥) → (at.before ≡ Some q → ⊥) → (link_at new_links q).next ≡ (link_at links q).next
  pub other_heads : (k : ℕ) → (k ≡ l → ⊥) → (k ≡ at.literal → ⊥) → head_of new_heads k ≡ head_of heads k
  pub mended_link : (q : ℕ) → at.before ≡ Some q → ((link_at new_links q).next ≡ (link_at links p).next) × (head_of new_heads at.literal ≡ head_of heads at.literal)
  pub mended_head : at.before ≡ None → head_of new_heads at.literal ≡ (link_at links p).next

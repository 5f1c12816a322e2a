-- Lists of candidate clauses: what reading any bytes gives, and which bytes spell such a list.
use Rattle.std.specs.Prelude.{◌≡◌, ℕ, zero, suc, ◌-◌, ◌≤◌, ◌↔◌, List, [], ◌∷◌, length, drop, Ok, Err, Option, Result, nat_le}
use Rattle.std.specs.List.{AllByRecursion}
use Rattle.system.specs.Systems.{OverRelays, Rising}
use Rattle.faults.specs.Firsts.{unmet, or_else, inside, unless}
use Rattle.faults.specs.declared.work.WorkFault.{WorkFault}
use Rattle.faults.specs.declared.work.WorkFault.TheVariants.{InCandidates, TooManyCandidates}
use Rattle.lists.specs.Spelling.{clauses_in, after_clauses, spell_clauses}
use Rattle.clauses.specs.Reading.{clauses_fault}
use Rattle.lists.specs.Lists.{clauses_of}
use Rattle.lists.specs.declared.list.ClauseList.{ClauseList}
use Rattle.clauses.specs.declared.scope.Scope.TheVariants.{Before}

-- how many clauses begin before the end of the bytes; each takes a byte at least, so that as many turns as bytes suffice
unfoldable pub count_within : ℕ → List ℕ → ℕ
count_within zero bs = 0
count_within (suc turns) [] = 0
count_within (suc turns) (len ∷ rest) = suc (count_within turns (drop len rest))

unfoldable pub count_in : List ℕ → ℕ
unfolding count_within
count_in bs = count_within (length bs) bs

-- a candidate past the 512th, at its length byte
abbrev pub too_many : List ℕ → Option WorkFault
too_many bs = unmet (nat_le (count_in bs) 512) (TooManyCandidates (length bs - length (after_clauses 512 bs)))

-- first the faults of all clauses, then a candidate too many
abbrev pub candidates_fault : ℕ → List ℕ → Option WorkFault
candidates_fault n bs = or_else (inside InCandidates (clauses_fault (Before n) (count_in bs) 0 bs)) (too_many bs)

-- the candidates that the bytes spell, or the first fault
abbrev pub read_candidates : ℕ → List ℕ → Result (List (List ℕ)) WorkFault
read_candidates n bs = unless (candidates_fault n bs) (clauses_in (count_in bs) bs)

-- what a result of reading means
abbrev pub gathered : Result ClauseList WorkFault → Result (List (List ℕ)) WorkFault
gathered (Ok list) = Ok (clauses_of list)
gathered (Err f) = Err f

-- a list of candidates: at most 512 clauses over n relays before a step
pub record CandidateList (n : ℕ) (cs : List (List ℕ)) : Type 0 where
  pub few : length cs ≤ 512
  pub formed : AllByRecursion (λ c. OverRelays n c × Rising c) cs

-- reading accepts exactly the bytes that spell a list of candidates, and reads them as that list
abbrev pub ReadAsSpelled : ℕ → List ℕ → Result ClauseList WorkFault → Type 0
ReadAsSpelled n bs r = (cs : List (List ℕ)) → (gathered r ≡ Ok cs) ↔ (CandidateList n cs × (bs ≡ spell_clauses cs))

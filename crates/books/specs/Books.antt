-- A book of used entries: which states are consistent with it, the rules that its entries keep, and what a solver holds of it.
use Rattle.std.specs.Prelude.{◌≡◌, ℕ, suc, ◌+◌, ◌-◌, ◌*◌, ◌^◌, Bool, true, false, cond, ◌&&◌, List, [], ◌∷◌, length, None, Option, ◌==◌, nat_le, nat_lt, slice_index_or, bit_and}
use Rattle.system.specs.Literals.{bit, clauses, size}
use Rattle.system.specs.Systems.{System}
use Rattle.system.specs.Preserving.{loaded}
use Rattle.solver.specs.Answers.{spare}
use Rattle.solver.specs.declared.capacity.Capacity.{Capacity}
use Rattle.faults.specs.Firsts.{unmet, or_else}
use Rattle.faults.specs.Refusals.{count_place}
use Rattle.faults.specs.declared.case.ListName.TheVariants.{Start, Step, Safety}
use Rattle.faults.specs.declared.work.WorkFault.{WorkFault}
use Rattle.faults.specs.declared.work.WorkFault.TheVariants.{TooManyPlaces, AgainstRules, NoCapacity}
use Rattle.layout.specs.Reading.{field}
use Rattle.books.specs.declared.entry.Entry.{Entry}
use Rattle.books.specs.declared.entry.Kind.{Kind}
use Rattle.books.specs.declared.entry.Kind.TheVariants.{Blank, Found, Subgoal, Taken}
use Rattle.books.specs.Entries.{is_subgoal, blank, admits, held_clauses}

-- every entry admits the state
abbrev pub admitted : List Entry → ℕ → Bool
admitted [] s = true
admitted (e ∷ es) s = admits e s && admitted es s

-- a state is consistent with a book: every safety clause and every clause of the book is true, and it is no subgoal
abbrev pub meets : System → List Entry → ℕ → Bool
meets c es s = clauses (bit s) c.safety && admitted es s

-- entry j is a subgoal whose state is t
abbrev pub subgoal_at : List Entry → ℕ → ℕ → Bool
subgoal_at es j t = is_subgoal (slice_index_or es j blank).kind && ((slice_index_or es j blank).first == t)

-- first has relays of the system, second some of these, and third is 0
abbrev pub clause_rule : System → Entry → Bool
clause_rule c e = nat_lt e.first (2 ^ c.n) && (bit_and e.first e.second == e.second) && (e.third == 0)

-- the rule of entry i: of a clause that it is over the relays; of a subgoal that its state and successor are states, and its
-- third is the number of a safety clause, or 256 and the number of an earlier subgoal whose state is the successor
abbrev pub rule_as : Kind → System → List Entry → ℕ → Entry → Bool
rule_as Blank c es i e = false
rule_as Found c es i e = clause_rule c e
rule_as Subgoal c es i e =
    nat_lt e.first (2 ^ c.n) && nat_lt e.second (2 ^ c.n)
    && cond (nat_lt e.third (length c.safety)) true (nat_le 256 e.third && nat_lt (e.third - 256) i && subgoal_at es (e.third - 256) e.second)
rule_as Taken c es i e = clause_rule c e

abbrev pub rule : System → List Entry → ℕ → Entry → Bool
rule c es i e = rule_as e.kind c es i e

-- the first of the entries, counted from i, that is against its rule
abbrev pub against : System → List Entry → ℕ → List Entry → Option WorkFault
against c es i [] = None
against c es i (e ∷ rest) = or_else (unmet (rule c es i e) (AgainstRules i)) (against c es (suc i) rest)

abbrev pub rules_fault : System → List Entry → Option WorkFault
rules_fault c es = against c es 0 es

-- every entry keeps its rule
abbrev pub Ruled : System → List Entry → Type 0
Ruled c es = rules_fault c es ≡ None

-- what a solver holds of a system and its book: step clauses, safety clauses, and the entries in order
abbrev pub book_loaded : System → List Entry → List (List ℕ)
book_loaded c es = loaded c (held_clauses c.n es)

-- room for so many clauses with so many literals, so many entries over the relays, one clause more, and 512 candidates
abbrev pub room_beside : (clauses literals relays places : ℕ) → Capacity
room_beside clauses literals relays places = record { clauses = clauses + places + 513; literals = literals + relays * (places + 513) }

-- room for all clauses of a system
abbrev pub room_for : System → ℕ → Capacity
room_for c places = room_beside (length c.start + length c.step + length c.safety) (size c.start + size c.step + size c.safety) c.n places

abbrev pub enough : Capacity → System → ℕ → Bool
enough capacity c places = spare (room_for c places) [] capacity

-- a book has at most 8192 places, and a solver has the room that is needed with them
abbrev pub places_fault : Capacity → Capacity → ℕ → Option WorkFault
places_fault capacity need places = or_else (unmet (nat_le places 8192) TooManyPlaces) (unmet (spare need [] capacity) NoCapacity)

abbrev pub room_fault : Capacity → System → ℕ → Option WorkFault
room_fault capacity c places = places_fault capacity (room_for c places) places

-- how many clauses the header of any bytes tells
abbrev pub told_clauses : List ℕ → ℕ
told_clauses bs = field bs (count_place Start) + field bs (count_place Step) + field bs (count_place Safety)

-- the room that the header and the length of any bytes tell: behind the header each clause has a length byte, and every other
-- byte is a literal
abbrev pub told_room : List ℕ → ℕ → Capacity
told_room bs places = room_beside (told_clauses bs) (length bs - (18 + told_clauses bs)) (field bs 0) places

abbrev pub told_room_fault : Capacity → List ℕ → ℕ → Option WorkFault
told_room_fault capacity bs places = places_fault capacity (told_room bs places) places

-- the entries of a book keep the rules, and a solver has room for the system and them
pub record Ready (c : System) (es : List Entry) (capacity : Capacity) : Type 0 where
  pub ruled : Ruled c es
  pub room : enough capacity c (length es) ≡ true

-- and it holds them
pub record Holding (c : System) (es : List Entry) (held : List (List ℕ)) (capacity : Capacity) : Type 0 where
  pub ready : Ready c es capacity
  pub loads : held ≡ book_loaded c es

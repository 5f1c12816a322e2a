-- The room that a system and its book need, and what of it is left beside the loaded book. Assumes nothing.
use Rattle.std.proofs.Common.{◌≡◌, ℕ, zero, suc, ◌+◌, ◌-◌, ◌*◌, ◌^◌, ◌<◌, ◌≤◌, Bool, true, false, cond, not, T, List, [], ◌∷◌, ◌++◌, length, None, Option, refl, ap, ap₂, ◌∙◌, inl, inr, arith, length-append, mul-add, le_trans, nat_le}
use Rattle.std.specs.List.{AllByRecursion}
use Rattle.std.proofs.Math.Nat.{mul-suc}
use Rattle.std.proofs.lemmas.Bool.{and_parts, and_from, leb-true, le-leb, cases_lt}
use Rattle.system.specs.Literals.{bit, Member}
use Rattle.system.specs.Systems.{OverRelays, Rising}
use Rattle.system.specs.Spelling.{literal_of, spelled}
use Rattle.system.proofs.Truth.{T_of}
use Rattle.system.proofs.Sizes.{size_append, rising_length}
use Rattle.system.proofs.Spelled.{length_spelled}
use Rattle.solver.specs.Answers.{need_of, spare}
use Rattle.solver.specs.declared.capacity.Capacity.{Capacity}
use Rattle.books.specs.Entries.{held_as, held_clauses}
use Rattle.books.specs.Books.{rule_as, Ruled, book_loaded, room_for, enough, places_fault, room_fault, told_clauses, told_room, told_room_fault}
use Rattle.books.specs.declared.entry.Entry.{Entry}
use Rattle.books.specs.declared.entry.Kind.{Kind}
use Rattle.books.specs.declared.entry.Kind.TheVariants.{Blank, Found, Subgoal, Taken}
use Rattle.books.proofs.Binary.{bit_high}
use Rattle.books.proofs.Ruled.{member_rule, rule_low}
use Rattle.std.proofs.lemmas.Nat.{mul-le}
use Rattle.system.specs.Literals.{size}
use Rattle.system.specs.Systems.{System}
use Rattle.faults.specs.Firsts.{or_else, unless}
use Rattle.faults.specs.Refusals.{count_place}
use Rattle.faults.specs.declared.case.ListName.TheVariants.{Start, Step, Safety}
use Rattle.faults.specs.declared.work.WorkFault.TheVariants.{TooManyPlaces, NoCapacity}
use Rattle.faults.proofs.Firsts.{none_unmet}
use Rattle.layout.specs.Reading.{field}
use Rattle.layout.specs.Spelling.{spell, Admitted}
use Rattle.layout.proofs.Law.{spelled_length, field_relays}
use Rattle.cases.proofs.Places.{list_ends, spelled_size, counted}

-- the lists of a system have few literals together
pub short_lists : (c : System) → Admitted c → size c.start + size c.step + size c.safety ≤ 32768
short_lists c a =
    let e = list_ends c Safety in
    let s = a.short in
    let x = spelled_size c.start in
    let y = spelled_size c.step in
    let z = spelled_size c.safety in
    omega arith

both_none : {F : Type 0} (o p : Option F) → o ≡ None → p ≡ None → or_else o p ≡ None
both_none o p a b = grind arith

-- so much room is enough for any system and so many places
pub room_enough : (c : System) → Admitted c → (capacity : Capacity) (places : ℕ) → places ≤ 8192
    → 2049 + places ≤ capacity.clauses → 32768 + 32 * (places + 513) ≤ capacity.literals → room_fault capacity c places ≡ None
room_enough c a capacity places h clauses literals =
    let few = a.few in
    let short = short_lists c a in
    let m : c.n * (places + 513) ≤ 32 * (places + 513) = mul-le c.n (places + 513) 32 (places + 513) a.relays.1 (omega arith) in
    let fits = and_from _ _ (le-leb (0 + (length c.start + length c.step + length c.safety + places + 513)) capacity.clauses (omega arith)) (le-leb (0 + (size c.start + size c.step + size c.safety + c.n * (places + 513))) capacity.literals (omega arith)) in
    both_none _ _ (none_unmet (nat_le places 8192) TooManyPlaces (le-leb places 8192 h)) (none_unmet _ NoCapacity fits)

-- the bytes of a system tell the room for it
pub room_told : (c : System) (bs : List ℕ) (places : ℕ) → bs ≡ spell c → told_room bs places ≡ room_for c places
room_told c bs places e =
    let n : field bs 0 ≡ c.n = ap (λ bs. field bs 0) e ∙ field_relays c in
    let i : field bs (count_place Start) ≡ length c.start = ap (λ bs. field bs (count_place Start)) e ∙ counted c Start in
    let j : field bs (count_place Step) ≡ length c.step = ap (λ bs. field bs (count_place Step)) e ∙ counted c Step in
    let k : field bs (count_place Safety) ≡ length c.safety = ap (λ bs. field bs (count_place Safety)) e ∙ counted c Safety in
    let x = spelled_size c.start in
    let y = spelled_size c.step in
    let z = spelled_size c.safety in
    let long = ap length e ∙ spelled_length c in
    let all : length bs - (18 + told_clauses bs) ≡ size c.start + size c.step + size c.safety = omega arith in
    let m : field bs 0 * (places + 513) ≡ c.n * (places + 513) = ap (λ n. n * (places + 513)) n in
    ap₂ (λ (k l : ℕ). record { clauses = k; literals = l }) (omega arith) (omega arith)

-- so the answer by what they tell is the answer for it
pub answer_told : (c : System) (bs : List ℕ) (places : ℕ) (capacity : Capacity) → bs ≡ spell c
    → unless (told_room_fault capacity bs places) (tt {0}) ≡ unless (room_fault capacity c places) (tt {0})
answer_told c bs places capacity e = ap (λ need. unless (places_fault capacity need places) (tt {0})) (room_told c bs places e)

-- what enough room says
parts : (c : System) (capacity : Capacity) (places : ℕ) → enough capacity c places ≡ true
    → (length c.start + length c.step + length c.safety + places + 513 ≤ capacity.clauses) × (size c.start + size c.step + size c.safety + c.n * (places + 513) ≤ capacity.literals)
parts c capacity places e =
    let k = length c.start + length c.step + length c.safety + places + 513 in
    let m = size c.start + size c.step + size c.safety + c.n * (places + 513) in
    let p = and_parts (nat_le (0 + k) capacity.clauses) (nat_le (0 + m) capacity.literals) e in
    let x = leb-true (0 + k) capacity.clauses p.0 in
    let y = leb-true (0 + m) capacity.literals p.1 in
    (omega arith, omega arith)

-- and when clauses fit beside others
spare_by : (need : Capacity) (held : List (List ℕ)) (capacity : Capacity) → length held + need.clauses ≤ capacity.clauses → size held + need.literals ≤ capacity.literals → spare need held capacity ≡ true
spare_by need held capacity a b = and_from _ _ (le-leb _ capacity.clauses a) (le-leb _ capacity.literals b)

-- room for more places is room for fewer
pub enough_fewer : (c : System) (capacity : Capacity) (a b : ℕ) → a ≤ b → enough capacity c b ≡ true → enough capacity c a ≡ true
enough_fewer c capacity a b h e =
    let r = parts c capacity b e in
    let m = mul-le c.n (a + 513) c.n (b + 513) (omega arith) (omega arith) in
    and_from _ _ (le-leb _ capacity.clauses (omega (arith, r.0))) (le-leb _ capacity.literals (omega (arith, r.1)))

pub start_room : (c : System) (capacity : Capacity) (places : ℕ) → enough capacity c places ≡ true → spare (need_of c.start) [] capacity ≡ true
start_room c capacity places e =
    let r = parts c capacity places e in spare_by (need_of c.start) [] capacity (omega (arith, r.0)) (omega (arith, r.1))

-- clauses over so many relays, in which they rise, have at most so many literals each
rising_size : (n : ℕ) (ds : List (List ℕ)) → AllByRecursion (λ d. OverRelays n d × Rising d) ds → size ds ≤ n * length ds
rising_size n [] h = omega arith
rising_size n (d ∷ ds) h =
    let a = rising_length n d h.0.0 h.0.1 in
    let b = rising_size n ds h.1 in
    let m : n * suc (length ds) ≡ n * length ds + n = mul-suc n (length ds) in
    omega arith

-- so has the clause by which a solver holds an entry that keeps its rule
short_spelled : (k n : ℕ) (inside sign : ℕ → Bool) → ((i : ℕ) → i < k → T (inside i) → i < n) → length (spelled 0 k inside sign) ≤ n
unfolding spelled
short_spelled zero n inside sign h = omega arith
short_spelled (suc k) n inside sign h =
    elim (cases_lt k n) [
      | inl l ↦ le_trans (length_spelled 0 inside sign (suc k)) l
      | inr g ↦ last g (inside k) refl (short_spelled k n inside sign (λ i l t. h i (omega arith) t))
    ]
  where
    last : n ≤ k → (b : Bool) → inside k ≡ b → length (spelled 0 k inside sign) ≤ n → length (spelled 0 k inside sign ++ cond b (literal_of (0 + k) (sign k) ∷ []) []) ≤ n
    last g true e s = absurd (let z = h k (omega arith) (T_of e) in let y : ⊥ = omega arith in y)
    last g false e s = let q = length-append {A = ℕ} (spelled 0 k inside sign) [] in omega arith

pub held_short : (k : Kind) (c : System) (es : List Entry) (j : ℕ) (e : Entry) → T (rule_as k c es j e) → length (held_as k c.n e) ≤ c.n
held_short k c es j e t = go k (rule_low k c es j e t) t
  where
    go : (k : Kind) → e.first < 2 ^ c.n → T (rule_as k c es j e) → length (held_as k c.n e) ≤ c.n
    go Blank b t = absurd t
    go Found b t = short_spelled 32 c.n (bit e.first) (bit e.second) (λ i l m. bit_high c.n e.first i b m)
    go Subgoal b t = length_spelled 0 (λ i. true) (λ i. not (bit e.first i)) c.n
    go Taken b t = short_spelled 32 c.n (bit e.first) (bit e.second) (λ i l m. bit_high c.n e.first i b m)

-- a book that keeps the rules, where there is room for as many places as it has entries
module _ (c : System) (es : List Entry) (ruled : Ruled c es) (capacity : Capacity) (room : enough capacity c (length es) ≡ true) where
  held_length : length (held_clauses c.n es) ≡ length es
  held_length = go es
    where
      go : (rest : List Entry) → length (held_clauses c.n rest) ≡ length rest
      go [] = refl
      go (e ∷ rest) = ap suc (go rest)

  held_size : size (held_clauses c.n es) ≤ c.n * length es
  held_size = go es (λ e m. m)
    where
      go : (rest : List Entry) → ((e : Entry) → Member e rest → Member e es) → size (held_clauses c.n rest) ≤ c.n * length rest
      go [] f = omega arith
      go (e ∷ rest) f =
          let r = member_rule c es ruled e (f e (inl refl)) in
          let a = held_short e.kind c es r.0 e r.1 in
          let b = go rest (λ x m. f x (inr m)) in
          let m : c.n * suc (length rest) ≡ c.n * length rest + c.n = mul-suc c.n (length rest) in
          omega arith

  -- what is left beside the loaded book
  clauses_left : length (book_loaded c es) + 513 ≤ capacity.clauses
  clauses_left =
      let more = c.safety ++ held_clauses c.n es in
      let a = length-append c.step more in
      let b = length-append c.safety (held_clauses c.n es) in
      omega (arith, (parts c capacity (length es) room).0, held_length)

  literals_left : size (book_loaded c es) + c.n * 513 ≤ capacity.literals
  literals_left =
      let more = c.safety ++ held_clauses c.n es in
      let a = size_append c.step more in
      let b = size_append c.safety (held_clauses c.n es) in
      let m : c.n * (length es + 513) ≡ c.n * length es + c.n * 513 = mul-add c.n (length es) 513 in
      omega (arith, (parts c capacity (length es) room).1, held_size)

  pub loaded_room : spare (need_of (book_loaded c es)) [] capacity ≡ true
  loaded_room = spare_by (need_of (book_loaded c es)) [] capacity (omega (arith, clauses_left)) (omega (arith, literals_left))

  pub clause_room : spare (record { clauses = 1; literals = c.n }) (book_loaded c es) capacity ≡ true
  clause_room = spare_by (record { clauses = 1; literals = c.n }) (book_loaded c es) capacity (omega (arith, clauses_left)) (omega (arith, literals_left))

  pub candidates_room : (ds : List (List ℕ)) → length ds ≤ 512 → AllByRecursion (λ d. OverRelays c.n d × Rising d) ds → spare (need_of ds) (book_loaded c es) capacity ≡ true
  candidates_room ds few formed =
      let s = rising_size c.n ds formed in
      let m : c.n * length ds ≤ c.n * 513 = mul-le c.n (length ds) c.n 513 (omega arith) (omega arith) in
      spare_by (need_of ds) (book_loaded c es) capacity (omega (arith, clauses_left)) (omega (arith, literals_left))

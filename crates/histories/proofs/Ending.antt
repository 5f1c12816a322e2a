-- Turns come to an end: the number of states that are consistent with the book falls with every entry that a turn stores. Assumes nothing.
use Rattle.std.proofs.Common.{◌≡◌, ℕ, zero, suc, ◌+◌, ◌^◌, ◌<◌, ◌≤◌, Bool, false, cond, not, T, List, [], ◌∷◌, ◌++◌, map, length, Some, None, Ok, Err, Result, sym, refl, ap, ◌∙◌, subst, subst₂, inl, inr, arith}
use Rattle.std.proofs.Math.Dec.{T_not, not_T}
use Rattle.std.proofs.lemmas.Bool.{cases_eq, eq-eqb}
use Rattle.std.proofs.lemmas.List.{length-append}
use Rattle.system.specs.Systems.{System}
use Rattle.system.proofs.Truth.{T_of}
use Rattle.solver.specs.declared.capacity.Capacity.{Capacity}
use Rattle.faults.specs.declared.work.WorkFault.{WorkFault}
use Rattle.faults.specs.declared.work.WorkFault.TheVariants.{NoPlace}
use Rattle.layout.specs.Spelling.{Admitted}
use Rattle.candidate_sieve.specs.Candidates.{chosen}
use Rattle.books.specs.declared.entry.Entry.{Entry}
use Rattle.books.specs.declared.entry.Kind.TheVariants.{Taken}
use Rattle.books.specs.Entries.{is_taken, entry_of, admits_as, admits}
use Rattle.books.specs.Books.{meets, against}
use Rattle.books.specs.Targets.{FirstCounterexample}
use Rattle.books.proofs.Entries.{admitted_at, meets_left, meets_right}
use Rattle.learning.proofs.Minimal.{learns_minimal}
use Rattle.taking.specs.Taking.{taken_entries}
use Rattle.histories.specs.declared.verdict.Verdict.{Verdict}
use Rattle.histories.specs.declared.verdict.Verdict.TheVariants.{Undecided}
use Rattle.histories.specs.Calls.{Progress, Stage, entries, checked, decided, storing, holding, wiped, Learned, Turned, Took, learned_clause, learned_subgoal, turn_refused, turn_holds, turn_full, turn_stores, take_refused, take_unread, take_full, take_stores}
use Rattle.histories.specs.Histories.{counted, kept, Lived, opens, turns, takes, looks}
use Rattle.histories.specs.Laws.{taken_count, EveryListDecides}
use Rattle.histories.proofs.Standing.{Standing, checked_open, kept_sized, kept_stored, lived_standing}

-- how many numbers below k pass the test
count_below : ℕ → (ℕ → Bool) → ℕ
count_below zero p = 0
count_below (suc k) p = count_below k p + cond (p k) 1 0

all_at_most : (k : ℕ) (p : ℕ → Bool) → count_below k p ≤ k
unfolding count_below
all_at_most zero p = omega arith
all_at_most (suc k) p = let h = all_at_most k p in grind arith

module _ (p q : ℕ → Bool) (less : (s : ℕ) → T (q s) → T (p s)) where
  no_more : (k : ℕ) → count_below k q ≤ count_below k p
  unfolding count_below
  no_more zero = omega arith
  no_more (suc k) = let h = no_more k in let l = less k in grind arith

  fewer : (k s : ℕ) → s < k → T (p s) → T (not (q s)) → count_below k q + 1 ≤ count_below k p
  unfolding count_below
  fewer zero s b t f = absurd (let z : ⊥ = omega arith in z)
  fewer (suc k) s b t f =
      elim (cases_eq s k) [
        | inl e ↦ (let h = no_more k in let y = subst (λ z. T (p z)) e t in let n = subst (λ z. T (not (q z))) e f in grind arith)
        | inr d ↦ (let h = fewer k s (omega arith) t f in let l = less k in grind arith)
      ]

-- the states that are consistent with the book
left : System → List Entry → ℕ
left c es = count_below (2 ^ c.n) (meets c es)

-- a counterexample begins in one
some_left : (c : System) (es : List Entry) (k s t : ℕ) → FirstCounterexample c es k s t → 0 < left c es
unfolding left
some_left c es k s t f = let h = fewer (meets c es) (λ _. false) (λ s t. absurd t) (2 ^ c.n) s f.found.joined.low f.found.before tt in omega arith

-- taken entries
pub taken_append : (es new : List Entry) → taken_count (es ++ new) ≡ taken_count es + taken_count new
taken_append [] new = omega arith
taken_append (e ∷ es) new = let h = taken_append es new in omega arith

all_taken : (ds : List (List ℕ)) → taken_count (map (entry_of Taken) ds) ≡ length (map (entry_of Taken) ds)
all_taken [] = refl
all_taken (d ∷ ds) = let h = all_taken ds in omega arith

-- each entry cost a state or was taken, and while nothing is decided each accepted turn stored one
record Counted (c : System) (k : ℕ) (w : Progress) (es : List Entry) : Type 0 where
  spent : length es + left c es ≤ taken_count es + 2 ^ c.n
  turned : w.verdict ≡ Undecided → k + taken_count es ≡ length es

-- entries of which j are not taken are stored, and exclude so many states
counted_stored : (c : System) (k j : ℕ) (w v : Progress) (es new : List Entry) → Counted c k w es → w.verdict ≡ Undecided
    → j + taken_count new ≡ length new → left c (es ++ new) + j ≤ left c es → Counted c (k + j) v (es ++ new)
counted_stored c k j w v es new h u e l =
    let taken = taken_append es new in
    let long = length-append es new in
    let before = h.spent in
    let so_far = h.turned u in
    record { spent = omega arith; turned = λ _. omega arith }

-- a check does not refuse for want of a place
not_against : (c : System) (es rest : List Entry) (i : ℕ) → against c es i rest ≡ Some NoPlace → ⊥
not_against c es [] i e = cc
not_against c es (x ∷ rest) i e = let h = not_against c es rest (suc i) in grind arith

not_full : (capacity : Capacity) (x : Stage) → checked capacity x ≡ Some NoPlace → ⊥
not_full capacity x e = let h = not_against x.work.system (entries x) (entries x) 0 in grind arith

-- the entry that a turn stores is not taken, and excludes the state found
pub learned_excludes : (c : System) → Admitted c → (es : List Entry) (k s t : ℕ) (e : Entry) (v : Verdict) → Learned c es k s t e v → (is_taken e.kind ≡ false) × T (not (admits e s))
learned_excludes c adm es k s t e v (learned_clause h u) =
    let least = learns_minimal c adm.relays.1 es s (Some e) h in
    (ap is_taken least.0, subst (λ k. T (not (admits_as k e s))) (sym least.0) least.1.false_there)
learned_excludes c adm es k s t e v (learned_subgoal h q j) =
    subst (λ (e : Entry). (is_taken e.kind ≡ false) × T (not (admits e s))) (sym q) (refl, not_T _ (λ t. T_not _ t (T_of (eq-eqb s s refl))))

module _ (c : System) (k : ℕ) (w v : Progress) (es : List Entry) (h : Counted c k w es) (u : w.verdict ≡ Undecided) where
  counted_learned : Admitted c → (i s t : ℕ) (e : Entry) (b : Verdict) → FirstCounterexample c es i s t → Learned c es i s t e b → Counted c (k + 1) v (es ++ e ∷ [])
  unfolding left
  counted_learned adm i s t e b f learned =
      let x = learned_excludes c adm es i s t e b learned in
      let out = not_T (meets c (es ++ e ∷ []) s) (λ y. T_not _ x.1 (admitted_at (e ∷ []) s e (inl refl) (meets_right c es (e ∷ []) s y))) in
      let none : taken_count (e ∷ []) ≡ 0 = ap (λ b. cond b 1 0 + 0) x.0 in
      let less = fewer (meets c es) (meets c (es ++ e ∷ [])) (meets_left c es (e ∷ [])) (2 ^ c.n) s f.found.joined.low f.found.before out in
      counted_stored c k 1 w v es (e ∷ []) h u (omega arith) less

  counted_taken : (ds : List (List ℕ)) (M : List ℕ) → Counted c (k + 0) v (es ++ taken_entries ds M)
  unfolding left
  counted_taken ds M =
      let new = taken_entries ds M in
      let less = no_more (meets c es) (meets c (es ++ new)) (meets_left c es new) (2 ^ c.n) in
      let all = all_taken (chosen M ds) in
      counted_stored c k 0 w v es new h u (omega arith) (omega arith)

-- what a call finds
module _ (c : System) (k : ℕ) (es : List Entry) (capacity : Capacity) (x : Stage) (old : Standing c x.work es) (h : Counted c k x.work es) (q : kept es x ≡ es) where
  -- what it leaves, where it is j turns accepted
  abbrev After : ℕ → Stage → Type 0
  After j y = Counted c (k + j) y.work (kept es y)

  unchanged : After 0 x
  unchanged = let same : k ≡ k + 0 = omega arith in subst₂ (λ k es. Counted c k x.work es) same (sym q) h

  -- where its check is passed
  module _ (a : checked capacity x ≡ None) where
    entries_same : entries x ≡ es
    entries_same = sym (kept_sized es x (checked_open capacity x a).1) ∙ q

    here : (P : System → List Entry → Type 0) → P x.work.system (entries x) → P c es
    here P = subst₂ P old.same entries_same

    stored : (j : ℕ) (new : List Entry) (v : Verdict) → x.work.used + length new ≤ x.work.places → Counted c (k + j) (storing x new v).work (es ++ new) → After j (storing x new v)
    stored j new v fits =
        subst (Counted c (k + j) (storing x new v).work) (sym (kept_stored es x new v (checked_open capacity x a).1 fits ∙ ap (λ z. z ++ new) entries_same))

    -- while a state is left there are fewer entries than taken ones and states
    few : (i s t : ℕ) → FirstCounterexample x.work.system (entries x) i s t → length es < taken_count es + 2 ^ c.n
    few i s t f = let l = some_left c es i s t (here (λ c es. FirstCounterexample c es i s t) f) in let b = h.spent in omega arith

  turn_counted : (r : Result (Unit {0}) WorkFault) (y : Stage) → Turned capacity x r y → After (counted r) y
  turn_counted r y = go
    where
      from : (j : Result (Unit {0}) WorkFault) (z : Stage) → r ≡ j → y ≡ z → After (counted j) z → After (counted r) y
      from j z e f = subst₂ (λ (r : Result (Unit {0}) WorkFault) (y : Stage). After (counted r) y) (sym e) (sym f)

      go : Turned capacity x r y → After (counted r) y
      go (turn_refused f a e z) = from (Err f) x e z unchanged
      go (turn_holds a n e z) = from (Ok tt) (holding x) e z (record { spent = unchanged.spent; turned = λ u. cc })
      go (turn_full a i s t f l e z) = from (Err NoPlace) (wiped x) e z unchanged
      go (turn_stores a i s t f l d v learned e z) =
          let first = here a (λ c es. FirstCounterexample c es i s t) f in
          let told = here a (λ c es. Learned c es i s t d v) learned in
          from (Ok tt) (storing x (d ∷ []) v) e z
          (stored a 1 (d ∷ []) v (omega arith) (counted_learned c k x.work (storing x (d ∷ []) v).work es h (checked_open capacity x a).0 old.system_admitted i s t d v first told))

  take_counted : (read : Result (List (List ℕ)) WorkFault) (r : Result (Unit {0}) WorkFault) (y : Stage) → Took capacity x read r y → After 0 y
  take_counted read r y (take_refused f a e z) = subst (After 0) (sym z) unchanged
  take_counted read r y (take_unread a f i e z) = subst (After 0) (sym z) unchanged
  take_counted read r y (take_full a ds i M sv l e z) = subst (After 0) (sym z) unchanged
  take_counted read r y (take_stores a ds i M sv l e z) =
      let new = taken_entries ds M in
      subst (After 0) (sym z) (stored a 0 new Undecided l (counted_taken c k x.work (storing x new Undecided).work es h (checked_open capacity x a).0 ds M))

  suffices : taken_count es + 2 ^ c.n ≤ x.work.places → (y : Stage) → Turned capacity x (Err NoPlace) y → ⊥
  suffices room y (turn_refused f a e z) = not_full capacity x (let same : f ≡ NoPlace = cc in a ∙ ap Some same)
  suffices room y (turn_holds a n e z) = cc
  suffices room y (turn_full a i s t f l e z) = let more = few a i s t f in omega (arith, old.counts)
  suffices room y (turn_stores a i s t f l e v learned b z) = cc

  decides_at : 2 ^ c.n ≤ k → (y : Stage) → Turned capacity x (Ok tt) y → T (decided y.work.verdict)
  decides_at many y (turn_refused f a e z) = cc
  decides_at many y (turn_holds a n e z) = subst (λ (y : Stage). T (decided y.work.verdict)) (sym z) tt
  decides_at many y (turn_full a i s t f l e z) = cc
  decides_at many y (turn_stores a i s t f l e v learned b z) =
      let more = few a i s t f in let all = h.turned (checked_open capacity x a).0 in absurd (let z : ⊥ = omega arith in z)

standing_at : {c : System} {k : ℕ} {w : Progress} {es : List Entry} → Lived c k w es → (v : Progress) → v ≡ w → Standing c v es
standing_at {c} {k} {w} {es} l v p = subst (λ z. Standing c z es) (sym p) (lived_standing l)

lived_counted : {c : System} {k : ℕ} {w : Progress} {es : List Entry} → Lived c k w es → Counted c k w es
unfolding left
lived_counted {c} (opens adm capacity places held after o) = let h = all_at_most (2 ^ c.n) (meets c []) in record { spent = omega arith; turned = λ u. refl }
lived_counted {c} (turns {k} {w} {es} l capacity x r y p q t) =
    turn_counted c k es capacity x (standing_at l x.work p) (subst (λ z. Counted c k z es) (sym p) (lived_counted l)) q r y t
lived_counted {c} (takes {k} {w} {es} l capacity x bs r y p q t) =
    let same : k + 0 ≡ k = omega arith in
    subst (λ k. Counted c k y.work (kept es y)) same (take_counted c k es capacity x (standing_at l x.work p) (subst (λ z. Counted c k z es) (sym p) (lived_counted l)) q _ r y t)
lived_counted (looks l) = lived_counted l

pub decides : EveryListDecides
decides c k w es l = (
  λ room capacity x y p q t. suffices c k es capacity x (standing_at l x.work p) (found x p) q (subst (λ (z : Progress). taken_count es + 2 ^ c.n ≤ z.places) (sym p) room) y t,
  λ many capacity x y p q t. decides_at c k es capacity x (standing_at l x.work p) (found x p) q many y t,
)
  where
    found : (x : Stage) → x.work ≡ w → Counted c k x.work es
    found x p = subst (λ z. Counted c k z es) (sym p) (lived_counted l)

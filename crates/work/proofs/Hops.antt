-- The run that ends a book, followed from a subgoal to its target. Assumes nothing.
use Rattle.std.proofs.Common.{◌≡◌, ℕ, zero, suc, ◌-◌, ◌^◌, ◌<◌, Bool, true, false, cond, ◌&&◌, ◌||◌, if◌then◌else◌, T, List, length, get_or, Some, None, Option, sym, refl, ap, ◌∙◌, subst, inl, inr, arith, nat_lt, nat_le, slice_get}
use Rattle.std.proofs.lemmas.Bool.{ltb-true, leb-true, cases_Bool}
use Rattle.system.specs.Systems.{System}
use Rattle.system.proofs.Truth.{T_of, T_true, and_l, and_r}
use Rattle.books.specs.Entries.{is_subgoal, blank}
use Rattle.books.specs.Books.{subgoal_at, rule_as, Ruled}
use Rattle.books.specs.Targets.{path, run_of}
use Rattle.books.specs.declared.entry.Entry.{Entry}
use Rattle.books.specs.declared.entry.Kind.{Kind}
use Rattle.books.specs.declared.entry.Kind.TheVariants.{Blank, Found, Subgoal, Taken}
use Rattle.books.proofs.Ruled.{ruled_each}
use Rattle.histories.specs.declared.verdict.Verdict.TheVariants.{BrokenByEntry}
use Rattle.histories.specs.Reads.{stray}

-- state number of the run is so many states past the successor of the subgoal at a place
pub record Hopped (c : System) (es : List Entry) (number left at : ℕ) : Type 0 where
  pub below : at < length es
  pub goal : T (is_subgoal (get_or es at blank).kind)
  pub turns : ℕ
  pub enough : at < turns
  pub same : slice_get (run_of c es) number ≡ slice_get (path c es turns at) left

-- the rule of a subgoal whose target is no safety clause
aimed_back : (k : Kind) (c : System) (es : List Entry) (j : ℕ) (e : Entry) → T (is_subgoal k) → T (rule_as k c es j e) → nat_lt e.third (length c.safety) ≡ false
    → T (nat_le 256 e.third && nat_lt (e.third - 256) j && subgoal_at es (e.third - 256) e.second)
aimed_back Blank c es j e s t n = absurd s
aimed_back Found c es j e s t n = absurd s
aimed_back Taken c es j e s t n = absurd s
aimed_back Subgoal c es j e s t n =
    subst (λ (b : Bool). T (cond b true (nat_le 256 e.third && nat_lt (e.third - 256) j && subgoal_at es (e.third - 256) e.second))) n
    (and_r (nat_lt e.first (2 ^ c.n) && nat_lt e.second (2 ^ c.n)) _ t)

module _ (c : System) (es : List Entry) where
  -- the subgoal that a subgoal's third names, if it names no safety clause
  abbrev named : ℕ → Option ℕ
  named third = if nat_lt third (length c.safety) || nat_lt third 256 then None else Some (third - 256)

  -- past its own state the run begins at the last entry
  pub hops_begin : stray BrokenByEntry es ≡ false → (at number : ℕ) → at ≡ length es - 1 → 0 < length es → 0 < number → Hopped c es number (number - 1) at
  hops_begin last at zero e some past = absurd (let z : ⊥ = omega arith in z)
  hops_begin last at (suc number) e some past = record {
    below = let z : at < length es = omega arith in z;
    goal = subst (λ j. T (is_subgoal (get_or es j blank).kind)) (sym e) (T_of (let f : is_subgoal (get_or es (length es - 1) blank).kind ≡ true = grind arith in f));
    turns = length es;
    enough = let z : at < length es = omega arith in z;
    same = rw (e, let z : suc number - 1 ≡ number = omega arith in z) refl;
  }

  module _ (number left at : ℕ) (h : Hopped c es number left at) where
    -- one state further
    pub hops_on : Ruled c es → (rest : ℕ) → left ≡ suc rest → (k : ℕ) → Some k ≡ named (get_or es at blank).third → Hopped c es number rest k
    hops_on ruled rest e k named_is =
        let x = get_or es at blank in
        let n : nat_lt x.third (length c.safety) ≡ false = grind arith in
        let q : k ≡ x.third - 256 = grind arith in
        let t = aimed_back _ c es at x h.goal (ruled_each c es ruled at h.below) n in
        let early = and_l (nat_le 256 x.third && nat_lt (x.third - 256) at) (subgoal_at es (x.third - 256) x.second) t in
        let less : x.third - 256 < at = ltb-true (x.third - 256) at (T_true (nat_lt (x.third - 256) at) (and_r (nat_le 256 x.third) (nat_lt (x.third - 256) at) early)) in
        let found = and_r (nat_le 256 x.third && nat_lt (x.third - 256) at) (subgoal_at es (x.third - 256) x.second) t in
        let below = h.below in
        subst (Hopped c es number rest) (sym q) (go h.turns h.enough h.same n less (and_l (is_subgoal (get_or es (x.third - 256) blank).kind) _ found) (let z : x.third - 256 < length es = omega (arith, below, less) in z))
      where
        go : (turns : ℕ) → at < turns → slice_get (run_of c es) number ≡ slice_get (path c es turns at) left → nat_lt (get_or es at blank).third (length c.safety) ≡ false
            → (get_or es at blank).third - 256 < at → T (is_subgoal (get_or es ((get_or es at blank).third - 256) blank).kind) → (get_or es at blank).third - 256 < length es
            → Hopped c es number rest ((get_or es at blank).third - 256)
        go zero l s n less g b = absurd (let z : ⊥ = omega arith in z)
        go (suc turns) l s n less g b = record {
          below = b;
          goal = g;
          turns = turns;
          enough = let z : (get_or es at blank).third - 256 < turns = omega (arith, l, less) in z;
          same = s ∙ ap (slice_get (path c es (suc turns) at)) e ∙ rw n refl;
        }

    -- nothing past a subgoal that names no subgoal, since its target is a safety clause then
    pub hops_past : Ruled c es → (rest : ℕ) → left ≡ suc rest → None ≡ named (get_or es at blank).third → slice_get (run_of c es) number ≡ None
    hops_past ruled rest e none = h.same ∙ go h.turns h.enough
      where
        ends : nat_lt (get_or es at blank).third (length c.safety) ≡ true
        ends = elim (cases_Bool (nat_lt (get_or es at blank).third (length c.safety))) [
          | inl y ↦ y
          | inr n ↦ (let x = get_or es at blank in
              let t = aimed_back _ c es at x h.goal (ruled_each c es ruled at h.below) n in
              let far : nat_le 256 x.third ≡ true = T_true (nat_le 256 x.third) (and_l _ _ (and_l _ (subgoal_at es (x.third - 256) x.second) t)) in
              let near : nat_lt x.third 256 ≡ true = grind arith in
              let f = leb-true 256 x.third far in let g = ltb-true x.third 256 near in absurd (let z : ⊥ = omega (arith, f, g) in z))
        ]

        go : (turns : ℕ) → at < turns → slice_get (path c es turns at) left ≡ None
        go zero l = absurd (let z : ⊥ = omega arith in z)
        go (suc turns) l = rw (e, ends) refl

-- The descent: what holds of the marks from sifting to sifting, and at its end. Assumes nothing.
use Rattle.std.proofs.Common.{true≢false, ◌≡◌, ◌↔◌, ℕ, zero, suc, ◌+◌, ◌<◌, ◌≤◌, Bool, cond, not, T, List, [], ◌∷◌, length, Some, None, Ok, Err, Option, Result, sym, refl, ap, ◌∙◌, subst, subst₂, inl, inr, arith, nat_eq}
use Rattle.solver.specs.declared.capacity.Capacity.{Capacity}
use Rattle.faults.specs.declared.work.WorkFault.{WorkFault}
use Rattle.sieve.specs.Marks.{marked, Marks, Within, Largest, Reduced}
use Rattle.sieve.specs.Sieves.{sift_fault, Sifted, Descended}
use Rattle.sieve.specs.declared.sifting.Sifting.{Sifting}
use Rattle.sieve.specs.declared.sifting.Sifting.TheVariants.{Closed, Fewer}
use Rattle.sieve.proofs.MarksChecked.{sift_marks, sift_spare, sift_sound}
use Rattle.system.proofs.Truth.{cases_T, T_false, T_true}
use Rattle.sieve.proofs.Marked.{same_marks}

-- two largest closed sets within the same marks are one
pub largest_only : (places : ℕ) (closed : List ℕ → Type 0) (given M N : List ℕ) → Largest places closed given M → Largest places closed given N → M ≡ N
largest_only places closed given M N m n =
    same_marks places M N m.marks n.marks (n.greatest M m.marks m.stable m.within) (m.greatest N n.marks n.stable n.within)

-- families that are alike have the same largest sets
pub largest_same : (places : ℕ) (closed family : List ℕ → Type 0) → ((M : List ℕ) → closed M ↔ family M) → (given out : List ℕ) → Largest places closed given out → Largest places family given out
largest_same places closed family same given out l =
    record {
      marks = l.marks;
      stable = (same out).0 l.stable;
      within = l.within;
      greatest = λ M m f w. l.greatest M m ((same M).1 f) w;
    }

-- how many places are marked
pub count : List ℕ → ℕ
count [] = 0
count (x ∷ M) = cond (nat_eq x 1) 1 0 + count M

one_mark : (a b : Bool) → (T a → T b) → cond a 1 0 ≤ cond b 1 0
one_mark a b h = grind arith

no_more : (M N : List ℕ) → length N ≡ length M → Within N M → count N ≤ count M
unfolding count
no_more [] [] e w = omega arith
no_more [] (y ∷ N) e w = absurd (let z : ⊥ = omega arith in z)
no_more (x ∷ M) [] e w = absurd (let z : ⊥ = omega arith in z)
no_more (x ∷ M) (y ∷ N) e w =
    let h = no_more M N (omega arith) (λ i t. w (suc i) t) in let b = one_mark (nat_eq y 1) (nat_eq x 1) (w 0) in omega arith

less_mark : (a b : Bool) → T a → T (not b) → cond b 1 0 < cond a 1 0
less_mark a b t f = grind arith

pub fewer_marks : (M N : List ℕ) → length N ≡ length M → Within N M → (i : ℕ) → T (marked M i) → T (not (marked N i)) → count N < count M
unfolding count
fewer_marks [] N e w i t f = absurd t
fewer_marks (x ∷ M) [] e w i t f = absurd (let z : ⊥ = omega arith in z)
fewer_marks (x ∷ M) (y ∷ N) e w zero t f =
    let h = no_more M N (omega arith) (λ i t. w (suc i) t) in let b = less_mark (nat_eq x 1) (nat_eq y 1) t f in omega arith
fewer_marks (x ∷ M) (y ∷ N) e w (suc i) t f =
    let h = fewer_marks M N (omega arith) (λ i t. w (suc i) t) i t f in let b = one_mark (nat_eq y 1) (nat_eq x 1) (w 0) in omega arith

-- marks on the way down from those given: within them, and with every closed part of them
pub record Descending (places : ℕ) (closed : List ℕ → Type 0) (given M : List ℕ) : Type 0 where
  pub marks : Marks places M
  pub within : Within M given
  pub all : (N : List ℕ) → Marks places N → closed N → Within N given → Within N M

-- what the marks are from sifting to sifting: as given where they are refused, else on the way down
pub Downward : ℕ → (List ℕ → Type 0) → Option WorkFault → List ℕ → List ℕ → Type 0
Downward places closed (Some f) given M = M ≡ given
Downward places closed None given M = Descending places closed given M

module _ (places : ℕ) (need : Capacity) (family : List (List ℕ) → List ℕ → Type 0) (given : List ℕ) where
  -- everything of one sifting, by what the solver holds and its capacity
  abbrev Sifts : List ℕ → Result Sifting WorkFault → List ℕ → List (List ℕ) → Capacity → Type 0
  Sifts M r N held capacity = Sifted places (family held) (sift_fault places need held capacity M) M r N

  abbrev pub Down : List (List ℕ) → Capacity → List ℕ → Type 0
  Down held capacity M = Downward places (family held) (sift_fault places need held capacity given) given M

  module _ (held : List (List ℕ)) (capacity : Capacity) where
    abbrev closed : List ℕ → Type 0
    closed = family held

    abbrev fault : List ℕ → Option WorkFault
    fault = sift_fault places need held capacity

    start_at : (o : Option WorkFault) → fault given ≡ o → Downward places closed o given given
    unfolding Downward
    start_at (Some f) e = refl
    start_at None e = record { marks = sift_marks places need held capacity given e; within = λ i t. t; all = λ N n c w. w }

    pub start : Down held capacity given
    start = start_at (fault given) refl

    -- marks on the way down are refused exactly where those given are
    same_fault_at : (o : Option WorkFault) (M : List ℕ) → fault given ≡ o → Downward places closed o given M → fault M ≡ o
    unfolding Downward
    same_fault_at (Some f) M e q = ap fault q ∙ e
    same_fault_at None M e q = sift_sound places need held capacity M q.marks (sift_spare places need held capacity given e)

    -- one sifting from marks on the way down, where it says what it says of those given
    told_at : (o : Option WorkFault) (M N : List ℕ) (r : Result Sifting WorkFault) → fault given ≡ o → Downward places closed o given M → Sifts M r N held capacity
        → Sifted places closed o M r N
    told_at o M N r e d s = subst (λ (x : Option WorkFault). Sifted places closed x M r N) (same_fault_at o M e d) s

    on_at : (o : Option WorkFault) (M N : List ℕ) → Downward places closed o given M → Sifted places closed o M (Ok Fewer) N
        → Downward places closed o given N × Reduced places closed M N
    unfolding Downward
    on_at (Some f) M N d s = cc s.0
    on_at None M N d s = (record { marks = s.marks; within = λ i t. d.within i (s.within i t); all = λ K k h w. kept K k h (d.all K k h w) }, s)
      where
        kept : (K : List ℕ) → Marks places K → closed K → Within K M → Within K N
        kept K k h w i t =
            elim (cases_T (marked N i)) [ inl y ↦ y | inr n ↦ absurd (true≢false (sym (T_true (marked K i) t) ∙ T_false (marked K i) (s.idle i (w i t) n K k h w))) ]

    end_at : (o : Option WorkFault) (M N : List ℕ) → Downward places closed o given M → Sifted places closed o M (Ok Closed) N → Descended places closed o given (Ok tt) N
    unfolding Downward
    end_at (Some f) M N d s = cc s.0
    end_at None M N d s =
        subst (Largest places closed given) (sym s.1) (record { marks = d.marks; stable = s.0; within = d.within; greatest = d.all })

    refused_at : (o : Option WorkFault) (M N : List ℕ) (f : WorkFault) → Downward places closed o given M → Sifted places closed o M (Err f) N
        → Descended places closed o given (Err f) N
    unfolding Downward
    refused_at (Some g) M N f d s = (err_same (Err f) (Err f) refl s.0 refl, s.1 ∙ d)
      where
        err_same : (r : Result Sifting WorkFault) (q : Result (Unit {0}) WorkFault) → r ≡ Err f → r ≡ Err g → q ≡ Err f → q ≡ Err g
        err_same r q a b h = let e : f ≡ g = cc in h ∙ ap Err e
    refused_at None M N f d s = absurd s

    -- what a sifting tells, with the solver holding what it held at the beginning
    module _ (now : List (List ℕ)) (room : Capacity) (same : now ≡ held) (fits : room ≡ capacity) (M N : List ℕ) (down : Down held capacity M) where
      told : (r : Result Sifting WorkFault) → Sifts M r N now room → Sifted places closed (fault given) M r N
      told r s = told_at (fault given) M N r refl down (subst₂ (Sifts M r N) same fits s)

      pub on : (r : Result Sifting WorkFault) → r ≡ Ok Fewer → Sifts M r N now room → Down held capacity N × Reduced places closed M N
      on r e s = on_at (fault given) M N down (subst (λ (x : Result Sifting WorkFault). Sifted places closed (fault given) M x N) e (told r s))

      pub end : (r : Result Sifting WorkFault) → r ≡ Ok Closed → Sifts M r N now room → Descended places closed (fault given) given (Ok tt) N
      end r e s = end_at (fault given) M N down (subst (λ (x : Result Sifting WorkFault). Sifted places closed (fault given) M x N) e (told r s))

      pub refused : (r : Result Sifting WorkFault) (f : WorkFault) → r ≡ Err f → Sifts M r N now room → Descended places closed (fault given) given (Err f) N
      refused r f e s = refused_at (fault given) M N f down (subst (λ (x : Result Sifting WorkFault). Sifted places closed (fault given) M x N) e (told r s))

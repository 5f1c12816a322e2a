-- No byte past the longest case and one more changes what is read: the header refuses such bytes already. Assumes nothing.
use Rattle.std.proofs.Common.{◌≡◌, ◌⊎◌, ℕ, ◌+◌, ◌*◌, ◌<◌, Bool, false, eqb, leb, ◌&&◌, List, [], ◌∷◌, length, take, Some, None, Err, Option, refl, ap, ◌∙◌, ap₂, inl, inr, arith, length-take, get_or-take, take_all}
use Rattle.std.proofs.lemmas.Bool.{cases_lt, le-leb}
use Rattle.std.proofs.lemmas.Bool.Decides.{nat_tests}
use Rattle.faults.specs.Firsts.{unmet, or_else, first_of}
use Rattle.faults.specs.declared.case.CaseFault.{CaseFault}
use Rattle.faults.specs.declared.case.CaseFault.TheVariants.{Short, Relays, Inputs, Count, Total}
use Rattle.faults.specs.declared.case.ListName.TheVariants.{Start, Step, Safety}
use Rattle.layout.specs.Reading.{field, header_fault, case_fault, read_case}
use Rattle.layout.proofs.Law.{fault_read}

or_some : {F : Type 0} (o p : Option F) → ((f : F) × (p ≡ Some f)) → (f : F) × (or_else o p ≡ Some f)
or_some None p h = h
or_some (Some g) p h = (g, refl)

-- the header's tests after the first, by its numbers
by_numbers : ℕ → ℕ → ℕ → ℕ → ℕ → Bool → List (Option CaseFault)
by_numbers n m start step safety total =
    unmet (leb 1 n && leb n 32) Relays
    ∷ unmet (leb m 64) Inputs
    ∷ unmet (leb start 256) (Count Start)
    ∷ unmet (leb step 1024) (Count Step)
    ∷ unmet (leb safety 256) (Count Safety)
    ∷ unmet total Total
    ∷ []

some_number : (n m start step safety : ℕ) → (f : CaseFault) × (first_of (by_numbers n m start step safety false) ≡ Some f)
unfolding by_numbers
some_number n m start step safety =
    let steps = or_some (unmet (leb step 1024) (Count Step)) _ (or_some (unmet (leb safety 256) (Count Safety)) (Some Total) (Total, refl)) in
    let starts = or_some (unmet (leb start 256) (Count Start)) _ steps in
    or_some (unmet (leb 1 n && leb n 32) Relays) _ (or_some (unmet (leb m 64) Inputs) _ starts)

too_long : (total long : ℕ) → 32768 < long → (leb total 32768 && eqb total long) ≡ false
too_long total long h = grind (arith, nat_tests)

-- bytes that are too long are refused by these numbers
long_header : (bs : List ℕ) → 32768 < length bs → header_fault bs ≡ first_of (by_numbers (field bs 0) (field bs 2) (field bs 4) (field bs 6) (field bs 8) false)
unfolding by_numbers
long_header bs h =
    ap₂ (λ s t. or_else (unmet s (Short (length bs))) (first_of (by_numbers (field bs 0) (field bs 2) (field bs 4) (field bs 6) (field bs 8) t)))
    (le-leb 18 (length bs) (omega arith)) (too_long (field bs 16) (length bs) h)

or_first : {F : Type 0} (o p : Option F) (f : F) → o ≡ Some f → or_else o p ≡ Some f
or_first o p f e = ap (λ q. or_else q p) e

long_fault : (bs : List ℕ) (f : CaseFault) → header_fault bs ≡ Some f → case_fault bs ≡ Some f
long_fault bs f e = or_first (header_fault bs) _ f e

module _ (k : ℕ) (bs : List ℕ) (h : 32768 < k) where
  field_cut : (i : ℕ) → i + 1 < k → field (take k bs) i ≡ field bs i
  field_cut i l = ap₂ (λ x y. x + 256 * y) (get_or-take k bs i 0 (omega arith)) (get_or-take k bs (i + 1) 0 l)

  -- bytes that are cut there are all the bytes, or both are refused for the same fault
  pub read_cut : (take k bs ≡ bs) ⊎ ((f : CaseFault) × (read_case (take k bs) ≡ Err f) × (read_case bs ≡ Err f))
  read_cut =
      elim (cases_lt k (length bs)) [
        | inl l ↦
            let p = some_number (field bs 0) (field bs 2) (field bs 4) (field bs 6) (field bs 8) in
            let n = length-take k bs in
            let e0 = field_cut 0 (omega arith) in
            let e2 = field_cut 2 (omega arith) in
            let e4 = field_cut 4 (omega arith) in
            let e6 = field_cut 6 (omega arith) in
            let e8 = field_cut 8 (omega arith) in
            let cut = long_header (take k bs) (omega arith) ∙ (λ i. first_of (by_numbers (e0 i) (e2 i) (e4 i) (e6 i) (e8 i) false)) ∙ p.1 in
            let whole = long_header bs (omega arith) ∙ p.1 in
            inr (p.0, fault_read (take k bs) p.0 (long_fault (take k bs) p.0 cut), fault_read bs p.0 (long_fault bs p.0 whole))
        | inr l ↦ inl (take_all k bs l)
      ]

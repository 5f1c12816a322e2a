-- The opposites of a clause's literals, one after another. Assumes nothing.
use Rattle.std.proofs.Common.{◌≡◌, ℕ, ◌+◌, ◌<◌, Bool, not, ◌&&◌, ◌||◌, List, [], ◌∷◌, ◌++◌, ◌≤◌, length, get_or, take, set, sym, ap, ◌∙◌, ap₂, subst, arith}
use Rattle.std.proofs.Math.Bool.{and-true, and_assoc, or-false, or_assoc}
use Rattle.std.proofs.lemmas.List.{length-set, take_all, take_more, take_more_set}
use Rattle.system.specs.Literals.{Valuation, variable_of, literal, clause}
use Rattle.system.specs.Systems.{OverRelays}
use Rattle.system.proofs.Truth.{all_place}
use Rattle.solver.specs.Answers.{literals}
use Rattle.denial.specs.declared.moment.Moment.{Moment}
use Rattle.denial.specs.Moments.{at}

-- one more literal, of a list of them and of a clause
literals_more : (a : Valuation) (ls : List ℕ) (l : ℕ) → literals a (ls ++ l ∷ []) ≡ (literals a ls && literal a l)
literals_more a [] l = and-true (literal a l)
literals_more a (k ∷ ls) l = ap (λ b. literal a k && b) (literals_more a ls l) ∙ sym (and_assoc (literal a k) (literals a ls) (literal a l))

clause_more : (a : Valuation) (ls : List ℕ) (l : ℕ) → clause a (ls ++ l ∷ []) ≡ (clause a ls || literal a l)
clause_more a [] l = or-false (literal a l)
clause_more a (k ∷ ls) l = ap (λ b. literal a k || b) (clause_more a ls l) ∙ sym (or_assoc (literal a k) (clause a ls) (literal a l))

not_or : (x y : Bool) → (not x && not y) ≡ not (x || y)
not_or x y = grind arith

-- the first n literals are denied
pub record Denying (moment : Moment) (c : List ℕ) (n : ℕ) (out : List ℕ) : Type 0 where
  pub long : length out ≡ 32
  pub denied : OverRelays 32 c → (a : Valuation) → literals a (take n out) ≡ not (clause (at moment a) (take n c))

pub denying_on : (moment : Moment) (c : List ℕ) (n : ℕ) (out : List ℕ) (l : ℕ) → Denying moment c n out → n < length c → n < 32
    → (variable_of (get_or c n 0) < 32 → (a : Valuation) → literal a l ≡ not (literal (at moment a) (get_or c n 0))) → Denying moment c (n + 1) (set out n l)
denying_on moment c n out l w h few d = record { long = length-set out n l ∙ w.long; denied = here }
  where
    room : n < length out
    room = let e = w.long in omega arith

    here : OverRelays 32 c → (a : Valuation) → literals a (take (n + 1) (set out n l)) ≡ not (clause (at moment a) (take (n + 1) c))
    here over a =
        ap (literals a) (take_more_set out n l room)
        ∙ literals_more a (take n out) l
        ∙ ap₂ ◌&&◌ (w.denied over a) (d (all_place (λ k. variable_of k < 32) c 0 n over h) a)
        ∙ not_or (clause (at moment a) (take n c)) (literal (at moment a) (get_or c n 0))
        ∙ ap not (sym (ap (clause (at moment a)) (take_more c n 0 h) ∙ clause_more (at moment a) (take n c) (get_or c n 0)))

-- all that count were denied
pub denied_all : (moment : Moment) (d : List ℕ) (count i : ℕ) (out : List ℕ) → take count d ≡ take 32 d → i ≡ count → length (take count d) ≡ count → Denying moment (take count d) i out
    → OverRelays 32 (take 32 d) → (a : Valuation) → literals a (take count out) ≡ not (clause (at moment a) (take 32 d))
denied_all moment d count i out cut is long w over a =
    ap (λ k. literals a (take k out)) (sym is)
    ∙ w.denied (subst (OverRelays 32) (sym cut) over) a
    ∙ ap (λ c. not (clause (at moment a) c)) (take_all i (take count d) (omega arith) ∙ cut)

-- a clause of no more literals counts whole
pub denied_whole : (moment : Moment) (d ls : List ℕ) → length d ≤ 32 → (OverRelays 32 (take 32 d) → (a : Valuation) → literals a ls ≡ not (clause (at moment a) (take 32 d)))
    → OverRelays 32 d → (a : Valuation) → literals a ls ≡ not (clause (at moment a) d)
denied_whole moment d ls short = subst (λ x. OverRelays 32 x → (a : Valuation) → literals a ls ≡ not (clause (at moment a) x)) (take_all 32 d short)

-- Candidates asked one after another whether they are true in every initial state. Assumes nothing.
use Rattle.std.proofs.Common.{◌≡◌, ℕ, ◌+◌, ◌<◌, ◌≤◌, true, ◌↔◌, List, [], ◌∷◌, length, get_or, drop, set, sym, ap, ◌∙◌, subst, subst₂, inl, inr, arith}
use Rattle.std.proofs.lemmas.Bool.{cases_eq}
use Rattle.std.proofs.lemmas.List.{length-set, length-drop, get_or-set_other}
use Rattle.std.proofs.lemmas.Grind.{get_or-set_at}
use Rattle.system.specs.Literals.{bit, clause}
use Rattle.system.specs.Systems.{System, Initiation, OverRelays, Rising}
use Rattle.system.proofs.Truth.{all_place}
use Rattle.solver.specs.Answers.{need_of, spare}
use Rattle.solver.specs.declared.capacity.Capacity.{Capacity}
use Rattle.clauses.specs.Candidates.{CandidateList}
use Rattle.sieve.proofs.Marked.{marked_is, is_marked, marked_below, all_small}
use Rattle.candidate_sieve.specs.Candidates.{Formed}
use Rattle.candidate_sieve.proofs.Denied.{formed_length}
use Rattle.candidate_sieve.proofs.Reading.{candidates_formed}
use Rattle.questions.proofs.Whole.{Narrow}
use Rattle.lists.proofs.Left.{left_more}
use Rattle.taking.specs.Taking.{InitiallyTrue}

-- a mark that tells whether a candidate is true in every initial state
abbrev pub Tells : System → List ℕ → ℕ → Type 0
Tells c d x = (x ≡ 1) ↔ Initiation c (λ s. clause (bit s) d)

module _ (c : System) (capacity : Capacity) (ds : List (List ℕ)) where
  -- the first n candidates are asked, with answers to rely on where there was room for the start clauses
  pub record Initiating (M : List ℕ) (rest : List (List ℕ)) (n : ℕ) : Type 0 where
    pub left : drop n ds ≡ rest
    pub long : length M ≡ length ds
    pub small : (i : ℕ) → i < n → get_or M i 0 < 2
    pub told : spare (need_of c.start) [] capacity ≡ true → CandidateList c.n ds → (i : ℕ) → i < n → Tells c (get_or ds i []) (get_or M i 0)

  narrow : CandidateList c.n ds → c.n ≤ 32 → (n : ℕ) → n < length ds → Narrow c.n (get_or ds n [])
  narrow list few n h = record {
    over = (all_place (λ d. OverRelays c.n d × Rising d) ds [] n list.formed h).0;
    short = formed_length (get_or ds n []) (all_place Formed ds [] n (candidates_formed c ds list few).formed h);
  }

  module _ (M : List ℕ) (d : List ℕ) (rest : List (List ℕ)) (n x : ℕ) (before : Initiating M (d ∷ rest) n) where
    pub initiating_on : c.n ≤ 32 → x < 2 → (spare (need_of c.start) [] capacity ≡ true → Narrow c.n d → Tells c d x) → Initiating (set M n x) rest (n + 1)
    initiating_on few low tells = record {
      left = sym next.2;
      long = length-set M n x ∙ before.long;
      small = λ i h. elim (cases_eq i n) [
        | inl e ↦ subst (λ y. y < 2) (sym (here i e)) low
        | inr other ↦ subst (λ y. y < 2) (sym (get_or-set_other M n i x 0 other)) (before.small i (omega arith))
      ];
      told = λ room list i h. elim (cases_eq i n) [
        | inl e ↦ subst₂ (Tells c) (sym (ap (λ j. get_or ds j []) e ∙ sym next.1)) (sym (here i e)) (tells room (subst (Narrow c.n) (sym next.1) (narrow list few n next.0)))
        | inr other ↦ subst (Tells c (get_or ds i [])) (sym (get_or-set_other M n i x 0 other)) (before.told room list i (omega arith))
      ];
    }
      where
        next : (n < length ds) × (d ≡ get_or ds n []) × (rest ≡ drop (n + 1) ds)
        next = left_more ds n d rest before.left

        here : (i : ℕ) → i ≡ n → get_or (set M n x) i 0 ≡ x
        here i e = get_or-set_at M n i x 0 e (let l = before.long in let b = next.0 in omega arith)

  pub initiating_end : (M : List ℕ) (n : ℕ) → Initiating M [] n → spare (need_of c.start) [] capacity ≡ true → CandidateList c.n ds → InitiallyTrue c ds M
  initiating_end M n done room list = record {
    marks = (done.long, all_small M (λ i h. done.small i (all_below i h)));
    only = λ i t. (done.told room list i (all_below i (marked_below M i t))).0 (marked_is M i t);
    every = λ i h initiation. is_marked M i ((done.told room list i (all_below i (omega (arith, done.long)))).1 initiation);
  }
    where
      all_below : (i : ℕ) → i < length M → i < n
      all_below i h = let l = length-drop n ds in let e = ap length done.left in let f = done.long in omega arith

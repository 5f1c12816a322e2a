-- What a list read for a case is, and what its closed marks mean. Assumes nothing.
use Rattle.std.proofs.Common.{ℕ, ◌≤◌, Bool, true, false, cond, ◌↔◌, List, [], ◌∷◌, Ok, arith, nat_eq}
use Rattle.std.specs.List.{AllByRecursion}
use Rattle.system.specs.Literals.{bit, clauses}
use Rattle.system.specs.Systems.{System, OverRelays, Rising, Consecution}
use Rattle.system.specs.Preserving.{Preserved, loaded, met}
use Rattle.clauses.specs.Candidates.{CandidateList}
use Rattle.candidate_sieve.specs.Candidates.{Formed, chosen, TogetherClosed}
use Rattle.candidate_sieve.specs.Read.{TogetherIsConsecution}

over_more : (n : ℕ) (c : List ℕ) → n ≤ 32 → OverRelays n c → OverRelays 32 c
over_more n [] h o = tt
over_more n (l ∷ c) h o = (let b = o.0 in omega arith, over_more n c h o.1)

formed_more : (n : ℕ) (cs : List (List ℕ)) → n ≤ 32 → AllByRecursion (λ c. OverRelays n c × Rising c) cs → AllByRecursion Formed cs
formed_more n [] h f = tt
formed_more n (c ∷ cs) h f = ((over_more n c h f.0.0, f.0.1), formed_more n cs h f.1)

chosen_over_relays : (n : ℕ) (M : List ℕ) (cs : List (List ℕ)) → AllByRecursion (λ c. OverRelays n c × Rising c) cs → AllByRecursion (OverRelays n) (chosen M cs)
chosen_over_relays n [] cs f = tt
chosen_over_relays n (x ∷ M) [] f = tt
chosen_over_relays n (x ∷ M) (c ∷ cs) f = go (nat_eq x 1) (chosen_over_relays n M cs f.1)
  where
    go : (b : Bool) → AllByRecursion (OverRelays n) (chosen M cs) → AllByRecursion (OverRelays n) (cond b (c ∷ chosen M cs) (chosen M cs))
    go true h = (f.0.0, h)
    go false h = h

module _ (c : System) (cs : List (List ℕ)) (l : CandidateList c.n cs) where
  pub candidates_formed : c.n ≤ 32 → CandidateList 32 cs
  candidates_formed h = record { few = l.few; formed = formed_more c.n cs h l.formed }

  pub candidates_consecution : ((more ds : List (List ℕ)) → AllByRecursion (OverRelays c.n) more → AllByRecursion (OverRelays c.n) ds → Preserved (loaded c more) ds ↔ Consecution c (met c more) (λ s. clauses (bit s) ds))
      → TogetherIsConsecution TogetherClosed c (Ok cs)
  candidates_consecution shown more M over = shown more (chosen M cs) over (chosen_over_relays c.n M cs l.formed)

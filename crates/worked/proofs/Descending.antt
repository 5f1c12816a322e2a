-- The worked descents. Assumes nothing.
use Rattle.std.proofs.Common.{ℕ, zero, suc, ◌<◌, T, ◌↔◌, List, [], ◌∷◌, arith, slice_index_or}
use Rattle.std.specs.List.{AllByRecursion}
use Rattle.system.specs.Literals.{bit, clause, clauses}
use Rattle.system.specs.Spelling.{spelled}
use Rattle.system.specs.Systems.{Initiation, OverRelays, step_bits, Initial}
use Rattle.system.specs.Preserving.{Preserved, loaded, met, StepFormed}
use Rattle.system.proofs.Preserving.{loaded_is_consecution}
use Rattle.sieve.specs.Marks.{marked, Within}
use Rattle.sieve.proofs.Marked.{none_marked}
use Rattle.worked.specs.Systems.{follower, exchange}
use Rattle.worked.specs.Descents.{DescendsTo, Literals, Together, three, WorkedDescents}
use Rattle.worked.proofs.Deciding.{initiation, consecution, consecutes}
use Rattle.worked.proofs.Outcomes.{outcome, stays, marks1, marks2, marks3, one_place, two_places, three_places}

-- the exchange
exchange_formed : StepFormed exchange
exchange_formed = record { relays = omega arith; over = ((tt, (tt, tt)), ((tt, (tt, tt)), ((tt, (tt, tt)), ((tt, (tt, tt)), tt)))) }

off : Initial exchange 0
off = record { low = omega arith; starts = tt }

exchange_preserves : (cs : List (List ℕ)) → AllByRecursion (OverRelays 2) cs → T (consecutes exchange (met exchange []) (λ s. clauses (bit s) cs)) → Preserved (loaded exchange []) cs
exchange_preserves cs over h = (loaded_is_consecution exchange [] cs exchange_formed tt tt over).1 (consecution exchange (met exchange []) (λ s. clauses (bit s) cs) h)

pub started : (i : ℕ) → i < 3 → T (marked (1 ∷ 1 ∷ 0 ∷ []) i) ↔ Initiation exchange (λ s. clause (bit s) (slice_index_or three i []))
started zero h = (λ t. initiation exchange (λ s. clause (bit s) (1 ∷ [])) tt, λ k. tt)
started (suc zero) h = (λ t. initiation exchange (λ s. clause (bit s) (3 ∷ [])) tt, λ k. tt)
started (suc (suc zero)) h = (λ t. absurd t, λ k. k 0 off)
started (suc (suc (suc i))) h = absurd (let z : ⊥ = omega arith in z)

stand : DescendsTo 3 (Together three) (1 ∷ 1 ∷ 0 ∷ []) (1 ∷ 1 ∷ 0 ∷ [])
stand =
    stays 3 (Together three) (1 ∷ 1 ∷ 0 ∷ []) (marks3 1 1 0 (omega arith) (omega arith) (omega arith))
    (exchange_preserves ((1 ∷ []) ∷ (3 ∷ []) ∷ []) ((omega arith, tt), ((omega arith, tt), tt)) tt)

opposed : DescendsTo 3 (Together three) (1 ∷ 1 ∷ 1 ∷ []) (1 ∷ 1 ∷ 1 ∷ [])
opposed =
    stays 3 (Together three) (1 ∷ 1 ∷ 1 ∷ []) (marks3 1 1 1 (omega arith) (omega arith) (omega arith))
    (exchange_preserves three ((omega arith, tt), ((omega arith, tt), ((omega arith, tt), tt))) tt)

-- no step clause is broken where relay 0 goes off and relay 1 on
fall : DescendsTo 3 (Together three) (0 ∷ 1 ∷ 1 ∷ []) (0 ∷ 0 ∷ 0 ∷ [])
fall =
    outcome 3 (Together three) (0 ∷ 1 ∷ 1 ∷ []) (0 ∷ 0 ∷ 0 ∷ []) (record {
      marks = marks3 0 0 0 (omega arith) (omega arith) (omega arith);
      stable = exchange_preserves [] tt tt;
      within = λ i t. absurd (none_marked 3 i t);
      greatest = three_places (λ M. Together three M → Within M (0 ∷ 1 ∷ 1 ∷ []) → Within M (0 ∷ 0 ∷ 0 ∷ [])) (λ h w i t. t) (λ h w. absurd (h (step_bits 1 2 0) tt tt)) (λ h w. absurd (h (step_bits 1 2 0) tt tt)) (λ h w. absurd (h (step_bits 1 2 0) tt tt)) (λ x y h w. absurd (w 0 tt));
    })

alone : DescendsTo 1 (Together ((1 ∷ []) ∷ [])) (1 ∷ []) (0 ∷ [])
alone =
    outcome 1 (Together ((1 ∷ []) ∷ [])) (1 ∷ []) (0 ∷ []) (record {
      marks = marks1 0 (omega arith);
      stable = exchange_preserves [] tt tt;
      within = λ i t. absurd (none_marked 1 i t);
      greatest = one_place (λ M. Together ((1 ∷ []) ∷ []) M → Within M (1 ∷ []) → Within M (0 ∷ [])) (λ h w i t. t) (λ h w. absurd (h (step_bits 2 1 0) tt tt));
    })

-- the follower
follower_formed : StepFormed follower
follower_formed = record { relays = omega arith; over = ((tt, (tt, tt)), ((tt, (tt, tt)), ((tt, (tt, tt)), ((tt, (tt, tt)), tt)))) }

follower_preserves : (c : List ℕ) → OverRelays 2 c → T (consecutes follower (met follower []) (λ s. clauses (bit s) (c ∷ []))) → Preserved (loaded follower []) (c ∷ [])
follower_preserves c over h =
    (loaded_is_consecution follower [] (c ∷ []) follower_formed ((omega arith, tt), tt) tt (over, tt)).1
    (consecution follower (met follower []) (λ s. clauses (bit s) (c ∷ [])) h)

both : DescendsTo 2 (Literals 2) (1 ∷ 1 ∷ []) (1 ∷ 1 ∷ [])
unfolding spelled
both = stays 2 (Literals 2) (1 ∷ 1 ∷ []) (marks2 1 1 (omega arith) (omega arith)) (follower_preserves (0 ∷ 3 ∷ []) (omega arith, (omega arith, tt)) tt)

second : DescendsTo 2 (Literals 2) (0 ∷ 1 ∷ []) (0 ∷ 1 ∷ [])
unfolding spelled
second = stays 2 (Literals 2) (0 ∷ 1 ∷ []) (marks2 0 1 (omega arith) (omega arith)) (follower_preserves (3 ∷ []) (omega arith, tt) tt)

first : DescendsTo 2 (Literals 2) (1 ∷ 0 ∷ []) (1 ∷ 0 ∷ [])
unfolding spelled
first = stays 2 (Literals 2) (1 ∷ 0 ∷ []) (marks2 1 0 (omega arith) (omega arith)) (follower_preserves (0 ∷ []) (omega arith, tt) tt)

-- a step from the state where just relay 1 is on to that where both are
kept : DescendsTo 2 (Literals 3) (1 ∷ 1 ∷ []) (0 ∷ 1 ∷ [])
unfolding spelled
kept =
    outcome 2 (Literals 3) (1 ∷ 1 ∷ []) (0 ∷ 1 ∷ []) (record {
      marks = marks2 0 1 (omega arith) (omega arith);
      stable = follower_preserves (3 ∷ []) (omega arith, tt) tt;
      within = λ i t. within2 i t;
      greatest = two_places (λ M. Literals 3 M → Within M (1 ∷ 1 ∷ []) → Within M (0 ∷ 1 ∷ [])) (λ h w i t. absurd (none_marked 2 i t)) (λ h w i t. t) (λ h w. absurd (h (step_bits 2 3 0) tt tt)) (λ h w. absurd (h (step_bits 2 3 0) tt tt));
    })
  where
    within2 : Within (0 ∷ 1 ∷ []) (1 ∷ 1 ∷ [])
    within2 zero t = tt
    within2 (suc zero) t = tt
    within2 (suc (suc i)) t = t

dropped : DescendsTo 2 (Literals 3) (1 ∷ 0 ∷ []) (0 ∷ 0 ∷ [])
unfolding spelled
dropped =
    outcome 2 (Literals 3) (1 ∷ 0 ∷ []) (0 ∷ 0 ∷ []) (record {
      marks = marks2 0 0 (omega arith) (omega arith);
      stable = follower_preserves [] tt tt;
      within = λ i t. absurd (none_marked 2 i t);
      greatest = two_places (λ M. Literals 3 M → Within M (1 ∷ 0 ∷ []) → Within M (0 ∷ 0 ∷ [])) (λ h w i t. t) (λ h w. absurd (w 1 tt)) (λ h w. absurd (h (step_bits 2 3 0) tt tt)) (λ h w. absurd (w 1 tt));
    })

pub worked_descents : WorkedDescents
worked_descents =
    record {
      started = started;
      stand = stand;
      opposed = opposed;
      fall = fall;
      alone = alone;
      both = both;
      second = second;
      first = first;
      kept = kept;
      dropped = dropped;
    }

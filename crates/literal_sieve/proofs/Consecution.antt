-- Closed marks are those whose clause has consecution. Assumes nothing.
use Rattle.std.proofs.Common.{ℕ, not, ◌↔◌, List, [], ◌∷◌, arith}
use Rattle.std.specs.List.{AllByRecursion}
use Rattle.system.specs.Literals.{bit, clause, clauses}
use Rattle.system.specs.Systems.{System, OverRelays, Consecution}
use Rattle.system.specs.Preserving.{Preserved, loaded, met}
use Rattle.system.proofs.Spelled.{spelled_over}
use Rattle.sieve.specs.Marks.{marked}
use Rattle.literal_sieve.specs.Literal.{false_at, ClauseClosed, ClosedIsConsecution}
use Rattle.system.proofs.Truth.{alone_clause, clause_alone}

-- where it holds of lists of clauses, it holds of the one clause of marks
pub closed_is_consecution : (c : System) (s : ℕ)
    → ((more cs : List (List ℕ)) → AllByRecursion (OverRelays c.n) more → AllByRecursion (OverRelays c.n) cs → Preserved (loaded c more) cs ↔ Consecution c (met c more) (λ s. clauses (bit s) cs))
    → ClosedIsConsecution c s (ClauseClosed (record { n = c.n; state = s }))
closed_is_consecution c s lists more M over = (to, from)
  where
    d : List ℕ
    d = false_at c.n s M

    over_d : AllByRecursion (OverRelays c.n) (d ∷ [])
    over_d = (spelled_over c.n c.n (marked M) (λ i. not (bit s i)) (omega arith), tt)

    to : ClauseClosed (record { n = c.n; state = s }) (loaded c more) M → Consecution c (met c more) (λ t. clause (bit t) d)
    to h p q x y j = alone_clause (bit q) d ((lists more (d ∷ []) over over_d).0 h p q x (clause_alone (bit p) d y) j)

    from : Consecution c (met c more) (λ t. clause (bit t) d) → ClauseClosed (record { n = c.n; state = s }) (loaded c more) M
    from h = (lists more (d ∷ []) over over_d).1 (λ p q x y j. clause_alone (bit q) d (h p q x (alone_clause (bit p) d y) j))

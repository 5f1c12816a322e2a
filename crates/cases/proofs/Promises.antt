-- What a reading promises. Assumes nothing.
use Rattle.std.proofs.Common.{◌≡◌, ℕ, List, get_or, Ok, Result, sym, ap, ◌∙◌, subst, inl, inr, w8, Fits}
use Rattle.system.specs.Systems.{System}
use Rattle.faults.specs.declared.case.CaseFault.{CaseFault}
use Rattle.layout.specs.Reading.{system_in, read_case}
use Rattle.layout.specs.Spelling.{spell, Admitted}
use Rattle.cases.specs.Meaning.{Read, ReadAsSpelled}
use Rattle.cases.specs.Kept.{Kept}
use Rattle.layout.proofs.Law.{read_as_spelled, spelled_system}

-- a case that was read is the system that its bytes spell
pub read_ok : (bs : List ℕ) (c : System) → Read bs (Ok c) → read_case bs ≡ Ok c
read_ok bs c (inl e) = sym e
read_ok bs c (inr p) = cc p.0

-- the law of reading follows from its value
pub read_law : (bs : List ℕ) → ((i : ℕ) → Fits w8 (get_or bs i 0)) → (r : Result System CaseFault) → Read bs r → ReadAsSpelled bs r
read_law bs small r (inl v) had c = let h = read_as_spelled bs small c in (λ p. h.0 (sym v ∙ p), λ q. v ∙ h.1 q)
read_law bs small r (inr w) had c = absurd (had w.0)

-- the bytes of an admitted system may be kept
pub kept : (bs : List ℕ) (c : System) → Admitted c → bs ≡ spell c → Kept bs
kept bs c a e =
    let is : system_in bs ≡ c = ap system_in e ∙ spelled_system c in
    record { admitted = subst Admitted (sym is) a; spelled = e ∙ ap spell (sym is) }

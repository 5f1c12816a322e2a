-- What the descents of a case come to, in the words of its system.
use Rattle.std.specs.Prelude.{◌≡◌, ◌⊎◌, ℕ, true, List, [], length, Ok, Err, Result, Some, None, Option}
use Rattle.system.specs.Literals.{bit, clause, clauses}
use Rattle.system.specs.Systems.{System, Consecution}
use Rattle.system.specs.Preserving.{loaded, met}
use Rattle.solver.specs.Answers.{need_of, spare}
use Rattle.solver.specs.declared.capacity.Capacity.{Capacity}
use Rattle.faults.specs.Firsts.{unmet, or_else}
use Rattle.faults.specs.declared.case.CaseFault.{CaseFault}
use Rattle.faults.specs.declared.case.CaseFault.TheVariants.{NoMemory}
use Rattle.faults.specs.declared.work.WorkFault.{WorkFault}
use Rattle.faults.specs.declared.work.WorkFault.TheVariants.{InCase, NoCapacity}
use Rattle.layout.specs.Reading.{accepted, read_case}
use Rattle.clauses.specs.Candidates.{read_candidates}
use Rattle.sieve.specs.Marks.{Largest}
use Rattle.sieve.specs.Sieves.{sift_fault}
use Rattle.literal_sieve.specs.Literal.{false_at}
use Rattle.candidate_sieve.specs.Candidates.{chosen}

-- the room of the solver
abbrev pub room : Capacity
room = record { clauses = 1792; literals = 49152 }

-- first that the system's clauses do not fit, then what sifting refuses
abbrev pub descent_fault : System → ℕ → Capacity → List ℕ → Option WorkFault
descent_fault c places need M = or_else (unmet (spare (need_of (loaded c [])) [] room) NoCapacity) (sift_fault places need (loaded c []) room M)

-- the marks are descended where there is no fault; else they are as they were, and the fault is said, or that there was no memory
abbrev pub DescentTold : System → ℕ → Capacity → (List ℕ → Type 0) → List ℕ → Result (Unit {0}) WorkFault → List ℕ → Type 0
DescentTold c places need family given (Ok x) out = (descent_fault c places need given ≡ None) × Largest places family given out
DescentTold c places need family given (Err f) out = (out ≡ given) × ((descent_fault c places need given ≡ Some f) ⊎ (f ≡ InCase NoMemory))

-- of the literals that are false at the state, the largest part whose clause is true after every step from a safe state
-- where it is true
abbrev pub LiteralsDescended : System → ℕ → List ℕ → List ℕ → Type 0
LiteralsDescended c state = Largest c.n (λ M. Consecution c (met c []) (λ s. clause (bit s) (false_at c.n state M)))

-- first the fault of the case, then that of the descent
abbrev pub literal_fault : Result System CaseFault → List ℕ → Option WorkFault
literal_fault (Err f) M = Some (InCase f)
literal_fault (Ok c) M = descent_fault c c.n (record { clauses = 1; literals = c.n }) M

-- the marks are descended for the system that the bytes spell, exactly where nothing is refused and there was memory
abbrev pub LiteralsTold : List ℕ → ℕ → List ℕ → Result (Unit {0}) WorkFault → List ℕ → Type 0
LiteralsTold bytes state given (Ok x) out =
    (literal_fault (read_case bytes) given ≡ None) × ((c : System) × (read_case bytes ≡ Ok c) × LiteralsDescended c state given out)
LiteralsTold bytes state given (Err f) out =
    (out ≡ given) × ((literal_fault (read_case bytes) given ≡ Some f) ⊎ ((f ≡ InCase NoMemory) × (accepted bytes ≡ true)))

-- of the candidates, the largest part that is all true after every step from a safe state where it is all true
abbrev pub CandidatesDescended : System → List (List ℕ) → List ℕ → List ℕ → Type 0
CandidatesDescended c cs = Largest (length cs) (λ M. Consecution c (met c []) (λ s. clauses (bit s) (chosen M cs)))

-- first the fault of the case, then that of the list, then that of the descent
abbrev pub listed_fault : System → Result (List (List ℕ)) WorkFault → List ℕ → Option WorkFault
listed_fault c (Err f) M = Some f
listed_fault c (Ok cs) M = descent_fault c (length cs) (need_of cs) M

abbrev pub candidate_fault : Result System CaseFault → List ℕ → List ℕ → Option WorkFault
candidate_fault (Err f) listed M = Some (InCase f)
candidate_fault (Ok c) listed M = listed_fault c (read_candidates c.n listed) M

-- the same of candidates
abbrev pub CandidatesTold : List ℕ → List ℕ → List ℕ → Result (Unit {0}) WorkFault → List ℕ → Type 0
CandidatesTold bytes listed given (Ok x) out =
    (candidate_fault (read_case bytes) listed given ≡ None)
    × ((c : System) × (cs : List (List ℕ)) × (read_case bytes ≡ Ok c) × (read_candidates c.n listed ≡ Ok cs) × CandidatesDescended c cs given out)
CandidatesTold bytes listed given (Err f) out =
    (out ≡ given) × ((candidate_fault (read_case bytes) listed given ≡ Some f) ⊎ ((f ≡ InCase NoMemory) × (accepted bytes ≡ true)))

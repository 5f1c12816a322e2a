-- How an admitted system is spelled in bytes, and the law that ties what is accepted to what is spelled.
use Rattle.std.specs.Prelude.{◌≡◌, ℕ, ◌+◌, ◌/◌, ◌%◌, ◌≤◌, ◌↔◌, List, [], ◌∷◌, ◌++◌, length, Ok, Result}
use Rattle.std.specs.List.{AllByRecursion}
use Rattle.system.specs.Systems.{System, OverRelays, OverVariables, Rising}
use Rattle.faults.specs.declared.case.CaseFault.{CaseFault}
use Rattle.lists.specs.Spelling.{spell_clauses}

-- a 16-bit number, low byte first
abbrev pub word : ℕ → List ℕ
word x = x % 256 ∷ x / 256 ∷ []

-- where the sections of a system begin: the first after the header, each other where the one before it ends
abbrev pub step_at : System → ℕ
step_at c = 18 + length (spell_clauses c.start)

abbrev pub safety_at : System → ℕ
safety_at c = step_at c + length (spell_clauses c.step)

-- the bytes of a system: relays and inputs, the counts of the three lists, where they begin, the total length, and the lists
unfoldable pub spell : System → List ℕ
spell c =
    word c.n ++ (word c.m
    ++ (word (length c.start) ++ (word (length c.step) ++ (word (length c.safety)
    ++ (word 18 ++ (word (step_at c) ++ (word (safety_at c) ++ (word (safety_at c + length (spell_clauses c.safety))
    ++ (spell_clauses c.start ++ (spell_clauses c.step ++ spell_clauses c.safety))))))))))

-- the systems that are judged: relays, inputs and clauses within their bounds, no more bytes than a case may have, and
-- each clause over the variables of its list, which rise in it
pub record Admitted (c : System) : Type 0 where
  pub relays : (1 ≤ c.n) × (c.n ≤ 32)
  pub inputs : c.m ≤ 64
  pub few : (length c.start ≤ 256) × (length c.step ≤ 1024) × (length c.safety ≤ 256)
  pub short : length (spell c) ≤ 32768
  pub start_clauses : AllByRecursion (λ d. OverRelays c.n d × Rising d) c.start
  pub step_clauses : AllByRecursion (λ d. OverVariables c.n c.m d × Rising d) c.step
  pub safety_clauses : AllByRecursion (λ d. OverRelays c.n d × Rising d) c.safety

-- exactly the bytes that spell an admitted system are accepted
abbrev pub AcceptedAsSpelled : List ℕ → Result (Unit {0}) CaseFault → Type 0
AcceptedAsSpelled bs r = (r ≡ Ok tt) ↔ ((c : System) × Admitted c × (bs ≡ spell c))

-- no two admitted systems are spelled alike
abbrev pub SpelledOnce : Type 0
SpelledOnce = (c d : System) → Admitted c → Admitted d → spell c ≡ spell d → c ≡ d

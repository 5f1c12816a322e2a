-- What reading a case promises, where a case stands for its system.
use Rattle.std.specs.Prelude.{◌≡◌, ℕ, true, ◌⊎◌, ◌↔◌, List, Ok, Err, Result, ◌≢◌}
use Rattle.system.specs.Systems.{System}
use Rattle.faults.specs.declared.case.CaseFault.{CaseFault}
use Rattle.faults.specs.declared.case.CaseFault.TheVariants.{NoMemory}
use Rattle.layout.specs.Spelling.{spell, Admitted}
use Rattle.layout.specs.Reading.{accepted, read_case}

-- reading means what the definition gives, or memory was wanting for bytes without a fault
abbrev pub Read : List ℕ → Result System CaseFault → Type 0
Read bs r = (r ≡ read_case bs) ⊎ ((r ≡ Err NoMemory) × (accepted bs ≡ true))

-- where memory was had, exactly the bytes that spell an admitted system are accepted, and they are read as that system
abbrev pub ReadAsSpelled : List ℕ → Result System CaseFault → Type 0
ReadAsSpelled bs r = (r ≢ Err NoMemory) → (c : System) → (r ≡ Ok c) ↔ (Admitted c × (bs ≡ spell c))

-- The bytes that a case keeps.
use Rattle.std.specs.Prelude.{◌≡◌, ℕ, List}
use Rattle.layout.specs.Reading.{system_in}
use Rattle.layout.specs.Spelling.{spell, Admitted}

-- they spell an admitted system
pub record Kept (bs : List ℕ) : Type 0 where
  pub admitted : Admitted (system_in bs)
  pub spelled : bs ≡ spell (system_in bs)

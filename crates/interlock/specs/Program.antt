-- What the program does with its input and its output.
use Rattle.std.specs.Prelude.{ℕ, List, Some, None, Option}
use Rattle.std.specs.Io.KnownBytes.{Appends}
use Rattle.layout.specs.Reading.{read_case}
use Rattle.answer.specs.Answer.{AnswerTo}

-- the output grows by the answer to all the bytes that the input gives, and where these are not known by the answer to some bytes
abbrev pub Answered : Option (List ℕ) → Option (List ℕ) → Option (List ℕ) → Type 0
Answered None before after = (bs : List ℕ) × (text : List ℕ) × AnswerTo bs (read_case bs) text × Appends before after text
Answered (Some bs) before after = (text : List ℕ) × AnswerTo bs (read_case bs) text × Appends before after text

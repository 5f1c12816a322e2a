-- The replies to a list of questions about a list of clauses.
use Rattle.std.specs.Prelude.{◌≡◌, ℕ, ◌<◌, List, [], length, slice_index_or}
use Rattle.solver.specs.Answers.{Answered}
use Rattle.solver.specs.declared.answer.Answer.{Answer}
use Rattle.solver.specs.declared.answer.Answer.TheVariants.{Yes, No}
use Rattle.exported.specs.declared.reply.Reply.{Reply}

-- an answer as numbers
abbrev pub reply_of : Answer → Reply
reply_of (Yes low high) = record { yes = 1; low = low; high = high }
reply_of No = record { yes = 0; low = 0; high = 0 }

-- the reply is a right answer to the question
abbrev pub Told : List (List ℕ) → List ℕ → Reply → Type 0
Told held assumed reply = (answer : Answer) × Answered held assumed answer × (reply ≡ reply_of answer)

-- each reply is one to the question of its number
abbrev pub Replied : List (List ℕ) → List (List ℕ) → List Reply → Type 0
Replied held questions replies = (k : ℕ) (e : Reply) → k < length replies → Told held (slice_index_or questions k []) (slice_index_or replies k e)

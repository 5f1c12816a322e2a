-- The lines that the program prints, as bytes. Each ends with a line feed.
use Rattle.std.specs.Prelude.{ℕ, suc, List, [], ◌∷◌, ◌++◌, length, Some, None, codes, decimal, Option}
use Rattle.system.specs.Systems.{System}
use Rattle.faults.specs.declared.refusal.Refusal.{Refusal}
use Rattle.faults.specs.Refusals.{told, work_refusal}
use Rattle.faults.specs.declared.work.WorkFault.{WorkFault}
use Rattle.books.specs.declared.entry.Entry.{Entry}
use Rattle.books.specs.declared.entry.Kind.{Kind}
use Rattle.books.specs.declared.entry.Kind.TheVariants.{Blank, Found, Subgoal, Taken}
use Rattle.histories.specs.declared.verdict.Look.{Look}
use Rattle.histories.specs.declared.verdict.Verdict.{Verdict}
use Rattle.histories.specs.declared.verdict.Verdict.TheVariants.{Undecided, Holds, BrokenAt, BrokenByEntry}

-- a system that was opened: relays, inputs, and the counts of start, step and safety clauses
abbrev pub open_line : System → List ℕ
open_line c =
    codes "open " ++ (decimal c.n
    ++ (codes " " ++ (decimal c.m
    ++ (codes " " ++ (decimal (length c.start)
    ++ (codes " " ++ (decimal (length c.step)
    ++ (codes " " ++ (decimal (length c.safety) ++ codes "\n")))))))))

-- a refusal: layer, number and place
abbrev pub refusal_line : Refusal → List ℕ
refusal_line r = codes "refused " ++ (told r ++ codes "\n")

abbrev pub kind_word : Kind → List ℕ
kind_word Blank = codes "blank"
kind_word Found = codes "found"
kind_word Subgoal = codes "subgoal"
kind_word Taken = codes "taken"

-- a turn that stored an entry: its number, kind, first and second
abbrev pub entry_line : ℕ → Entry → List ℕ
entry_line turn e =
    codes "turn " ++ (decimal turn
    ++ (codes " " ++ (kind_word e.kind
    ++ (codes " " ++ (decimal e.first
    ++ (codes " " ++ (decimal e.second ++ codes "\n")))))))

-- the turns that stored entries, from a number on
abbrev pub entry_lines : ℕ → List Entry → List ℕ
entry_lines turn [] = []
entry_lines turn (e ∷ es) = entry_line turn e ++ entry_lines (suc turn) es

-- the turn that decides without storing an entry
abbrev pub holds_line : Verdict → ℕ → List ℕ
holds_line Undecided turn = []
holds_line Holds turn = codes "turn " ++ (decimal turn ++ codes " holds\n")
holds_line (BrokenAt s) turn = []
holds_line BrokenByEntry turn = []

abbrev pub verdict_word : Verdict → List ℕ
verdict_word Undecided = codes "undecided"
verdict_word Holds = codes "holds"
verdict_word (BrokenAt s) = codes "broken"
verdict_word BrokenByEntry = codes "broken"

-- a closed work: its verdict, how many places are used, and how many there are
abbrev pub closed_line : Look → List ℕ
closed_line w =
    codes "closed " ++ (verdict_word w.verdict
    ++ (codes " " ++ (decimal w.used
    ++ (codes " " ++ (decimal w.places ++ codes "\n")))))

-- the end: a refusal, or the turn of that number where it decided without storing an entry, and the closed work
abbrev pub ending : Option WorkFault → ℕ → Look → List ℕ
ending None turn w = holds_line w.verdict turn ++ closed_line w
ending (Some f) turn w = refusal_line (work_refusal f)

-- what judging gave: what was opened, the turns, and the end
abbrev pub judged_lines : Option WorkFault → System → Look → List Entry → List ℕ
judged_lines f c w es = open_line c ++ (entry_lines 1 es ++ ending f (suc (length es)) w)

use Rattle.std.proofs.Common.{◌≡◌, ◌++◌, string_bytes, take}
use Rattle.report.specs.Lines.{open_line, entry_lines}
use Rattle.report.proofs.judging.judged_lines.Given as goal

-- the line of what was opened, and those of the entries so far
abbrev pub invariant-loop-i : goal.invariant-loop-i
invariant-loop-i l = string_bytes l.text ≡ open_line l.case ++ entry_lines 1 (take l.i l.entries)

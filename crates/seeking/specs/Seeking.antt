-- What is found where a counterexample to induction is sought.
use Rattle.std.specs.Prelude.{List, Some, None, Option}
use Rattle.system.specs.Systems.{System}
use Rattle.books.specs.declared.entry.Entry.{Entry}
use Rattle.books.specs.Targets.{FirstCounterexample, NoCounterexample}
use Rattle.seeking.specs.declared.counterexample.Counterexample.{Counterexample}

-- a counterexample for the first target that has one, or that none has
abbrev pub Sought : System → List Entry → Option Counterexample → Type 0
Sought c es (Some x) = FirstCounterexample c es x.target x.state x.successor
Sought c es None = NoCounterexample c es

use Rattle.std.proofs.Common.{◌≡◌, ◌≤◌, take, length}
use Rattle.system.specs.Literals.{bit}
use Rattle.system.specs.Spelling.{spelled}
use Rattle.books.proofs.entry.write_literals.Given as goal

abbrev pub invariant-loop-relay : goal.invariant-loop-relay
invariant-loop-relay l = record {
  long : length l.out ≡ 32;
  bound : l.count ≤ l.relay;
  written : take l.count l.out ≡ spelled 0 l.relay (bit l.inside) (bit l.signs);
}

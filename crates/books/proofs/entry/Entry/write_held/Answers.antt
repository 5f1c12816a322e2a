use Rattle.std.proofs.Common.{◌<◌, ◌≤◌, ◌-◌, ◌^◌, w32, sym, ap, ◌∙◌, arith}
use Rattle.std.specs.Int.{bit_not}
use Rattle.system.specs.Literals.{bit}
use Rattle.system.specs.Spelling.{spelled}
use Rattle.books.specs.Entries.{held_as}
use Rattle.books.proofs.Written.{held_subgoal}
use Rattle.books.proofs.entry.Entry.write_held.Goals as goal

pub returns-in-Subgoal-clause-value : goal.returns-in-Subgoal-clause-value
returns-in-Subgoal-clause-value c =
    let e = c.args.self.now in
    let n = c.args.case.now.n in
    let few : n ≤ 32 = c.relays.ensures.admitted.relays.1 in
    let low : e.first < 2 ^ 32 = omega arith in
    c.write_literals.ensures.value ∙ ap (λ n. spelled 0 n (bit (2 ^ 32 - 1)) (bit (bit_not w32 e.first))) c.relays.ensures.value ∙ held_subgoal n e few low ∙ sym (ap (λ k. held_as k n e) c.in-Subgoal.is)

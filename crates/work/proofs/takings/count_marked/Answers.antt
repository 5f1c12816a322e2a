use Rattle.std.proofs.Common.{◌+◌, ◌≤◌, length, Fits-le, Fits-lit, ap, ap₂, ◌∙◌, inl, inr, arith}
use Rattle.std.specs.Iterator.Adapters.{zip_first, zip_second}
use Rattle.std.specs.Slice.Iter.{iter_rest}
use Rattle.lists.specs.Lists.{clauses_of}
use Rattle.candidate_sieve.specs.Candidates.{chosen}
use Rattle.candidate_sieve.proofs.Adding.{chosen_over}
use Rattle.work.proofs.Storing.{chosen_few, counted_first}
use Rattle.work.proofs.takings.count_marked.Goals as goal

pub overflow_add-count : goal.overflow_add-count
overflow_add-count c =
    let steps = c.in-Some.ensures.steps in
    let x = c.in-Some.mark.now in
    let M = iter_rest (zip_second c.next.new.self) in
    let cs = clauses_of (zip_first c.next.new.self) in
    let i = c.loop-mark.invariant.count in
    let next = ap₂ (λ N ds. length (chosen N ds)) steps.1 steps.0 ∙ counted_first x M c.in-Some.field-0-0.now cs in
    let one = c.from-count.ensures in
    let few = chosen_few c.args.marks.now (clauses_of c.args.list) in
    let below : c.loop-mark.count + c.from-count.result ≤ 512 = omega (arith, c.requires) in
    Fits-le below (Fits-lit tt)

pub returns : goal.returns
returns c =
    let none = chosen_over (iter_rest (zip_second c.loop-mark.mark-iterator)) (clauses_of (zip_first c.loop-mark.mark-iterator)) (elim c.in-None.ensures.steps [ inl s ↦ inl s.1.0 | inr s ↦ inr s.1.0 ]) in
    let e = ap length none in
    let i = c.loop-mark.invariant.count in
    omega arith

use Rattle.std.proofs.Common.{◌∙◌, arith, sym, subst, refl}
use Rattle.books.specs.Books.{Ready}
use Rattle.learning.specs.Learning.{LiteralClosed, Initiated}
use Rattle.sieve.proofs.Trims.{trimmed_none, trimmed_more, tried_marks}
use Rattle.learning.proofs.learning.trim.Goals as goal

pub loop-relay-init : goal.loop-relay-init
loop-relay-init g c = record { capacity = refl; long = refl; trimmed = λ ready marks. (marks, trimmed_none c.args.case.now.n _ _ c.args.marks.now) }

pub loop-relay-preserved : goal.loop-relay-preserved
loop-relay-preserved g c =
    let s = c.args.case.now in
    let i = c.loop-relay.invariant in
    let closed = LiteralClosed s c.args.entries.now c.args.state in
    let good = Initiated s c.args.state in
    record {
      capacity = c.try_without.ensures.capacity ∙ i.capacity;
      long = omega arith;
      trimmed = λ ready marks.
          let before = i.trimmed ready marks in
          let tried = c.try_without.ensures.tried (subst (Ready s c.args.entries.now) (sym i.capacity) ready) before.0 in
          (tried_marks s.n closed good c.loop-relay.relay _ _ before.0 tried, trimmed_more s.n closed good c.loop-relay.relay _ _ _ before.1 tried);
    }

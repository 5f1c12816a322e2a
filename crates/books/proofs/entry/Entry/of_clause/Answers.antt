use Rattle.std.proofs.Common.{ap, ◌∙◌}
use Rattle.std.proofs.Math.Facts.{Fits-lt-pow}
use Rattle.system.specs.Literals.{bit}
use Rattle.books.proofs.Written.{set_first, set_second, odd_second, high_first, high_second, first_more, second_more, entry_noted}
use Rattle.books.proofs.entry.Entry.of_clause.Goals as goal
use Rattle.books.proofs.entry.Entry.of_clause.Goals.{then-relay-lt32+then-literal-eq0, then-relay-lt32+else-literal-eq0, else-relay-lt32}

pub loop-literal-preserved : goal.loop-literal-preserved
loop-literal-preserved c =
    let d = c.args.literals.now in
    let k = c.loop-literal.literal-index in
    let p = c.loop-literal.invariant in
    let relay = c.variable-relay.ensures in
    let here = c.loop-literal-test.true in
    elim c.if-relay-lt32.branch [
      | then-relay-lt32+then-literal-eq0 w ↦ record {
        first = λ i h. first_more d k here c.loop-literal.first c.if-relay-lt32.first i (p.first i h) (ap (λ x. bit x i) w.first-is ∙ set_first _ _ _ i relay h);
        second = λ i h. second_more d k here c.loop-literal.second c.if-relay-lt32.second i (p.second i h) (ap (λ x. bit x i) w.second-is ∙ set_second _ _ _ i relay w.if-literal-eq0.true h);
      }
      | then-relay-lt32+else-literal-eq0 w ↦ record {
        first = λ i h. first_more d k here c.loop-literal.first c.if-relay-lt32.first i (p.first i h) (ap (λ x. bit x i) w.first-is ∙ set_first _ _ _ i relay h);
        second = λ i h. second_more d k here c.loop-literal.second c.if-relay-lt32.second i (p.second i h) (ap (λ x. bit x i) w.second-is ∙ odd_second _ _ i w.if-literal-eq0.false);
      }
      | else-relay-lt32 w ↦ record {
        first = λ i h. first_more d k here c.loop-literal.first c.if-relay-lt32.first i (p.first i h) (ap (λ x. bit x i) w.first-is ∙ high_first _ _ _ i relay w.if-relay-lt32.false h);
        second = λ i h. second_more d k here c.loop-literal.second c.if-relay-lt32.second i (p.second i h) (ap (λ x. bit x i) w.second-is ∙ high_second _ _ _ i relay w.if-relay-lt32.false h);
      }
    ]

pub returns : goal.returns
returns c =
    let i = c.loop-literal.invariant in
    entry_noted c.args.kind c.args.literals.now c.loop-literal.literal-index c.loop-literal.first c.loop-literal.second c.loop-literal-test.false
    (Fits-lt-pow c.loop-literal.auto.first-fits) (Fits-lt-pow c.loop-literal.auto.second-fits) i.first i.second

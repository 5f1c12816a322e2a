use Rattle.std.proofs.Common.{◌≡◌, ◌+◌, ◌%◌, ◌<◌, take, length, arith, sym, ap₂, ◌∙◌}
use Rattle.system.specs.Literals.{bit}
use Rattle.system.specs.Spelling.{literal_of}
use Rattle.system.proofs.Spelled.{spelled_none, spelled_skip, spelled_put}
use Rattle.books.proofs.entry.write_literals.Goals as goal
use Rattle.books.proofs.entry.write_literals.Goals.{then-is_on, else-is_on}

pub loop-relay-init : goal.loop-relay-init
loop-relay-init c = record { long = c.told-out; bound = omega arith; written = sym (spelled_none _ _ _) }

pub loop-relay-preserved : goal.loop-relay-preserved
loop-relay-preserved c =
    let i = c.loop-relay.invariant in
    let relay = c.loop-relay.relay in
    let room : c.loop-relay.count < length c.loop-relay.out = omega arith in
    let same : relay % 128 ≡ 0 + relay = omega arith in
    elim c.if-is_on.branch [
      | then-is_on w ↦ record {
        long = c.if-is_on.array_long;
        bound = omega (arith, w.count-is);
        written = ap₂ (λ n xs. take n xs) w.count-is w.out-is
            ∙ spelled_put 0 (bit c.args.inside) (bit c.args.signs) relay c.loop-relay.count _ c.loop-relay.out room i.written (sym c.is_on.ensures ∙ w.if-is_on.true)
            (w.literal_of.ensures ∙ ap₂ literal_of same w.is_on-then-is_on.ensures);
      }
      | else-is_on w ↦ record {
        long = c.if-is_on.array_long;
        bound = omega (arith, w.count-is);
        written = ap₂ (λ n xs. take n xs) w.count-is w.out-is
            ∙ spelled_skip 0 (bit c.args.inside) (bit c.args.signs) relay (take c.loop-relay.count c.loop-relay.out) i.written (sym c.is_on.ensures ∙ w.if-is_on.false);
      }
    ]

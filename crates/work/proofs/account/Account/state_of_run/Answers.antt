use Rattle.std.proofs.Common.{◌≡◌, suc, ◌+◌, ◌-◌, ◌<◌, ◌≤◌, length, ◌∙◌, sym, arith}
use Rattle.work.proofs.Hops.{hops_begin, hops_on, hops_past}
use Rattle.work.proofs.account.Account.state_of_run.Goals as goal

pub loop-init : goal.loop-init
loop-init c =
    let some = c.in_ok-at.ensures.0 in
    let past = c.if-number-eq0.false in
    record {
      begun = let z : 1 ≤ 1 = omega arith in z;
      hopped = hops_begin c.args.self.now.system c.args.entries.now c.requires.last c.in_ok-at.at c.args.number c.in_ok-at.ensures.1 (let z : 0 < length c.args.entries.now = omega (arith, some) in z) (let z : 0 < c.args.number = omega (arith, past) in z);
    }

pub returns-in_err-at-2 : goal.returns-in_err-at-2
returns-in_err-at-2 c =
    let here = c.loop-test.true in
    c.from_residual-in_err-at-2.ensures
    ∙ sym (hops_past c.args.self.now.system c.args.entries.now c.args.number (c.args.number - c.loop.counter) c.loop.at c.loop.invariant.hopped c.requires.ruled (c.args.number - (c.loop.counter + 1)) (let z : c.args.number - c.loop.counter ≡ suc (c.args.number - (c.loop.counter + 1)) = omega (arith, here) in z) c.in_err-at-2.ensures)

pub loop-preserved : goal.loop-preserved
loop-preserved c =
    let here = c.loop-test.true in
    record {
      begun = let z : 1 ≤ c.loop.counter + 1 = omega arith in z;
      hopped = hops_on c.args.self.now.system c.args.entries.now c.args.number (c.args.number - c.loop.counter) c.loop.at c.loop.invariant.hopped c.requires.ruled (c.args.number - (c.loop.counter + 1)) (let z : c.args.number - c.loop.counter ≡ suc (c.args.number - (c.loop.counter + 1)) = omega (arith, here) in z) c.in_ok-at-2.at c.in_ok-at-2.ensures;
    }

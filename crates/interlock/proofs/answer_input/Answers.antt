use Rattle.std.proofs.Common.{arith}
use Rattle.interlock.proofs.Whole.{answered}
use Rattle.interlock.proofs.answer_input.Goals as goal

pub returns : goal.returns
returns g c =
    let read = rw (c.take.ensures.limit, c.take.ensures.inner, c.new-bytes.ensures.items) at c.in_ok-read_to_end.ensures.bytes in
    let told = rw (c.as_slice.ensures.value) at c.in_ok-text.ensures in
    let written = rw (c.as_bytes.ensures.value) at c.in_ok-write_all.ensures.bytes in
    answered 32769 (g.R.Read.remaining c.args.input) _ _ _ _ (omega arith) read told written

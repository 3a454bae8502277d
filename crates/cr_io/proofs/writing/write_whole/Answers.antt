use Rattle.std.proofs.Common.{arith, append-nil}
use Rattle.std.proofs.Math.Seq.{take-add}
use Rattle.std.proofs.lemmas.List.{take_rest}
use Rattle.cr_io.proofs.writing.write_whole.Goals as goal

pub loop-done-preserved : goal.loop-done-preserved
loop-done-preserved g c =
    let more = g.met.K.Sink.chains c.args.sink.now c.loop-done.sink c.write.new.self _ _ c.loop-done.invariant.1 c.in-Ok.ensures.bytes in
    (omega (arith, c.in-Ok.ensures.bound), rw take-add (rw take_rest at more), omega (arith, c.in-Ok.ensures.cause.same))

pub returns-in-Err-clause-front : goal.returns-in-Err-clause-front
returns-in-Err-clause-front g c =
    let more = g.met.K.Sink.chains c.args.sink.now c.loop-done.sink c.write.new.self _ _ c.loop-done.invariant.1 c.in-Err.ensures.bytes in
    (c.loop-done.done, omega arith, rw append-nil at more)

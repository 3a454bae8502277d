use Rattle.std.proofs.Common.{◌≡◌, ◌∙◌, length, arith, append-nil}
use Rattle.std.proofs.lemmas.Result.{err_from_is_err_and}
use Rattle.cr_io.proofs.Bytes.{length-append-take}
use Rattle.cr_io.proofs.reading.read_all_counted.Goals as goal

pub returns-in-Err-clause-taken : goal.returns-in-Err-clause-taken
returns-in-Err-clause-taken g c =
    let more =
    g.met.S.Source.chains c.args.source.now c.loop-count.source c.turn.new.source _ _
    c.loop-count.invariant.1 c.in-Err.ensures.bytes in
    (c.loop-count.bytes.items, rw append-nil at more, omega arith)

pub returns-in-Err-clause-fault : goal.returns-in-Err-clause-fault
returns-in-Err-clause-fault g c =
    λ _. omega (arith, c.in-Err.ensures.cause.failed)

pub returns-in-Err-clause-each : goal.returns-in-Err-clause-each
returns-in-Err-clause-each g c =
    let more =
    g.met.S.Source.chains c.args.source.now c.loop-count.source c.turn.new.source _ _
    c.loop-count.invariant.1 c.in-Err.ensures.bytes in
    (c.loop-count.bytes.items, rw append-nil at more, (omega arith, omega arith))

pub returns-then-count-eq0-clause-taken : goal.returns-then-count-eq0-clause-taken
returns-then-count-eq0-clause-taken g c =
    let more =
    g.met.S.Source.chains c.args.source.now c.loop-count.source c.turn.new.source _ _
    c.loop-count.invariant.1 c.in-Ok.ensures.bytes in
    (rw (c.if-count-eq0.true, append-nil) at more, omega arith)

pub returns-then-len-count-clause-taken : goal.returns-then-len-count-clause-taken
returns-then-len-count-clause-taken g c =
    let more =
    g.met.S.Source.chains c.args.source.now c.loop-count.source c.turn.new.source _ _
    c.loop-count.invariant.1 c.in-Ok.ensures.bytes in
    let grown = length-append-take c.loop-count.bytes.items c.turn.new.buf c.in-Ok.count c.in-Ok.ensures.bound.0 in
    (_, more, omega arith)

pub returns-then-len-count-clause-each : goal.returns-then-len-count-clause-each
returns-then-len-count-clause-each g c =
    let more =
    g.met.S.Source.chains c.args.source.now c.loop-count.source c.turn.new.source _ _
    c.loop-count.invariant.1 c.in-Ok.ensures.bytes in
    let grown = length-append-take c.loop-count.bytes.items c.turn.new.buf c.in-Ok.count c.in-Ok.ensures.bound.0 in
    let room : length c.turn.new.buf ≡ 4096 = c.turn.auto.buf ∙ c.loop-count.invariant.6 in
    (_, more, (omega arith, omega (arith, c.in-Ok.ensures.bound.0)))

pub returns-in_err-extend_from_slice-clause-taken : goal.returns-in_err-extend_from_slice-clause-taken
returns-in_err-extend_from_slice-clause-taken g c =
    let more =
    g.met.S.Source.chains c.args.source.now c.loop-count.source c.turn.new.source _ _
    c.loop-count.invariant.1 c.in-Ok.ensures.bytes in
    let grown = length-append-take c.loop-count.bytes.items c.turn.new.buf c.in-Ok.count c.in-Ok.ensures.bound.0 in
    let end = err_from_is_err_and c.from_residual.result c.from_residual.ensures.1 in
    rw (end.1, end.2) (_, more, omega arith)

pub returns-in_err-extend_from_slice-clause-each : goal.returns-in_err-extend_from_slice-clause-each
returns-in_err-extend_from_slice-clause-each g c =
    let more =
    g.met.S.Source.chains c.args.source.now c.loop-count.source c.turn.new.source _ _
    c.loop-count.invariant.1 c.in-Ok.ensures.bytes in
    let grown = length-append-take c.loop-count.bytes.items c.turn.new.buf c.in-Ok.count c.in-Ok.ensures.bound.0 in
    let room : length c.turn.new.buf ≡ 4096 = c.turn.auto.buf ∙ c.loop-count.invariant.6 in
    let end = err_from_is_err_and c.from_residual.result c.from_residual.ensures.1 in
    rw end.1 (_, more, (omega arith, omega (arith, c.in-Ok.ensures.bound.0)))

use Rattle.cr_io.specs.Grown.{joined}
use Rattle.cr_trail.proofs.Fronts.{front_of_first, front_of_both, on_err, on_err_more}
use Rattle.cr_trail.proofs.trail.write_both.Goals as goal

pub returns-in_err-write_whole-clause-front : goal.returns-in_err-write_whole-clause-front
returns-in_err-write_whole-clause-front g c = on_err _
    (front_of_first g.K.Sink.grew c.args.sink.now c.write_whole.new.sink c.args.line.now (joined c.args.body.now) c.in_err-write_whole.ensures.front)

pub returns-clause-front : goal.returns-clause-front
returns-clause-front g c = on_err_more _
    (front_of_both g.K.Sink.grew g.met.K.Sink.chains c.args.sink.now c.write_whole.new.sink c.write_pieces.new.sink c.args.line.now (joined c.args.body.now) c.in_ok-write_whole.ensures.whole)
    c.write_pieces.ensures.front

use Rattle.cr_top.proofs.Noting.{each_continued, each_stopped}
use Rattle.cr_top.specs.Lines.{shown}
use Rattle.cr_top.proofs.notes.write_shown.Goals as goal

pub returns-in_err-write_text : goal.returns-in_err-write_text
returns-in_err-write_text g c =
    each_stopped g.met.N.Sink.chains _ _ _ shown c.args.bytes.now c.loop-byte.byte-index _ _ _ c.loop-byte-test.true c.loop-byte.invariant c.from_residual.ensures.0 c.in_err-write_text.ensures

pub loop-byte-preserved : goal.loop-byte-preserved
loop-byte-preserved g c =
    each_continued g.met.N.Sink.chains _ _ _ shown c.args.bytes.now c.loop-byte.byte-index _ _ c.loop-byte-test.true c.shown_byte.ensures c.loop-byte.invariant c.in_ok-write_text.ensures

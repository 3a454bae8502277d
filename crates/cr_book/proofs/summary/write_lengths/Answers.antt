-- One line more.
use Rattle.std.proofs.Common.{get_or}
use Rattle.cr_model.specs.Summaries.{length_line}
use Rattle.cr_book.proofs.Tallies.{written_on}
use Rattle.cr_book.proofs.summary.write_lengths.Goals as goal

pub loop-long-preserved : goal.loop-long-preserved
loop-long-preserved c =
    written_on (λ long. length_line long (get_or c.args.numbers.now long 0)) c.loop-long.long c.args.text.now.items c.loop-long.text.items _
    c.loop-long.invariant c.in_ok-write_length.ensures

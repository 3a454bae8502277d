-- Three lines, one after another.
use Rattle.cr_book.proofs.Tallies.{three_written}
use Rattle.cr_book.proofs.summary.write_head.Goals as goal

pub returns : goal.returns
returns c =
    three_written c.args.text.now.items _ _ _ _ _ _ c.in_ok-write_counted.ensures c.in_ok-write_counted-2.ensures
    c.in_ok-write_counted-3.ensures

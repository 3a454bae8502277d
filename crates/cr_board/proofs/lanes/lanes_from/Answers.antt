use Rattle.std.proofs.Common.{ap, ◌∙◌, arith}
use Rattle.cr_board.specs.Rooms.{jobs_on}
use Rattle.cr_board.proofs.Reading.{lanes_more}
use Rattle.cr_board.proofs.lanes.lanes_from.Goals as goal

pub loop-preserved : goal.loop-preserved
loop-preserved c = ap jobs_on c.in_ok-push-2.ensures.items
    ∙ lanes_more c.loop.lanes.items c.args.first.items c.loop.counter c.new.result c.new.ensures.items (omega arith) c.loop.invariant

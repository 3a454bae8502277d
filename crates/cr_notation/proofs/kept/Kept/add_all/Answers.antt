use Rattle.cr_notation.proofs.Keeping.{one_forth}
use Rattle.cr_notation.proofs.kept.Kept.add_all.Goals as goal

pub loop-change-preserved : goal.loop-change-preserved
loop-change-preserved c =
    one_forth c.args.self.now c.args.block.now c.loop-change.self c.add.new.self c.loop-change.change-index c.change-item.result c.loop-change-test.true c.change-item.is c.loop-change.invariant c.in_ok-add.ensures

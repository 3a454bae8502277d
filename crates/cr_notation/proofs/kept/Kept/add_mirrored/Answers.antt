use Rattle.std.proofs.Common.{◌<◌, ◌≤◌, length, arith}
use Rattle.cr_notation.proofs.Keeping.{one_back, all_back}
use Rattle.cr_notation.proofs.kept.Kept.add_mirrored.Goals as goal

pub loop-back-preserved : goal.loop-back-preserved
loop-back-preserved c =
    let from : 1 ≤ c.loop-back.back = omega arith in
    let low : c.loop-back.back < length c.args.block.now = omega arith in
    one_back c.args.self.now c.args.block.now c.loop-back.self c.add.new.self c.loop-back.back c.index-block-block.result from low c.index-block-block.is c.loop-back.invariant c.in_ok-add.ensures

pub returns : goal.returns
returns c =
    let all : length c.args.block.now ≤ c.loop-back.back = omega arith in
    all_back c.args.self.now c.args.block.now c.loop-back.self c.loop-back.back all c.loop-back.invariant

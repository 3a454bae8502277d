use Rattle.cr_model.proofs.Measured.{shortest_some}
use Rattle.std.proofs.Common.{arith}
use Rattle.cr_model.proofs.checks.check_depth.Goals as goal

pub nonzero_div-depth : goal.nonzero_div-depth
nonzero_div-depth c = let some = shortest_some _ _ _ c.requires in omega (arith, c.shortest_length.ensures)

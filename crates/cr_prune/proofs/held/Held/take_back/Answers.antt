use Rattle.std.proofs.Common.{subst}
use Rattle.cr_prune.specs.Holding.{IsHeld}
use Rattle.cr_prune.proofs.Holding.{less_rows}
use Rattle.cr_prune.proofs.held.Held.take_back.Goals as goal

pub returns-in-Rows : goal.returns-in-Rows
returns-in-Rows c p leads rung held =
    less_rows p leads c.args.rung c.in-Rows.stack c.cut_to.new.self rung (subst (IsHeld p leads) c.in-Rows.is held) c.cut_to.ensures

use Rattle.std.proofs.Common.{length}
use Rattle.cr_top.proofs.boards.+search_on_by.Given as goal

abbrev pub decreases-search_on_by : goal.decreases-search_on_by
decreases-search_on_by g c = length c.trials.now

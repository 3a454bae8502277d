use Rattle.std.proofs.Common.{length}
use Rattle.cr_top.proofs.boards.+search_on_by_one.Given as goal

abbrev pub decreases-search_on_by_one : goal.decreases-search_on_by_one
decreases-search_on_by_one g c = length c.trials.now

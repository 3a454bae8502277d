use Rattle.cr_model.proofs.Reaching.{level_is, up_to_level_is, up_to_level_differ}
use Rattle.cr_model.proofs.laws.levels.levels_list_rows.Goals as goal

pub returns : goal.returns
returns c = record { level = level_is c.change_twice.ensures; up_to = up_to_level_is c.change_twice.ensures; once = up_to_level_differ c.change_twice.ensures }
